-- A state in two parts: `Carried`, which goes from call to call by value, and the head of the lent work memory. Behind the head lies
-- the work memory of specs/Memory.antt. The whole state is a view of both; a call gives what its definition gives of that view, put
-- back into both.
use Rattle.std.specs.Prelude.{◌≡◌, ℕ, ◌+◌, Bool, cond, not, ◌&&◌, length, get_or, take, drop, replicate, eqb}
use mathlib.Core.List.{List, [], ◌∷◌, ◌++◌, flatten}
use Rattle.model.specs.declared.Core.{Core}
use Rattle.model.specs.declared.Carried.{Carried}
use Rattle.model.specs.declared.Answer.{Answer}
use Rattle.model.specs.declared.Answer.TheVariants.{Finished, Refused, Interrupted}
use Rattle.model.specs.declared.Handed.{Handed}
use Rattle.model.specs.Word.{part}
use Rattle.model.specs.World.{World, world_of}
use Rattle.model.specs.Memory.{work_words}
use Rattle.model.specs.State.{places}
use Rattle.model.specs.Causes.{when_shut}
use Rattle.model.specs.Refusal.{Result}
use Rattle.model.specs.Call.{Call, result_of}

-- Where each list of the head begins: of the pages, slots, widths and bases; of the disks, fills, reserved words and positions to
-- replay from; the next page of the backup; of the table, numbers, disks, first positions and reserved words.
abbrev pub head_slots : ℕ
head_slots = 0

abbrev pub head_widths : ℕ
head_widths = 64

abbrev pub head_bases : ℕ
head_bases = 128

abbrev pub head_fills : ℕ
head_fills = 192

abbrev pub head_sums : ℕ
head_sums = 200

abbrev pub head_positions : ℕ
head_positions = 208

abbrev pub head_page : ℕ
head_page = 216

abbrev pub head_numbers : ℕ
head_numbers = 217

abbrev pub head_disks : ℕ
head_disks = 233

abbrev pub head_firsts : ℕ
head_firsts = 249

abbrev pub head_reserved : ℕ
head_reserved = 265

abbrev pub head_words : ℕ
head_words = 281

-- the state of what is carried and of a head
abbrev pub core_in : Carried → List ℕ → Core
core_in h head =
    record {
      stage = h.stage;
      sizes = record { pages = h.pages; disks = h.disks; ring = h.ring; slots = part head_slots 64 head; widths = part head_widths 64 head };
      bases = record { pages = part head_bases 64 head; total = h.total };
      epoch = h.epoch;
      logs = record { starts = h.starts; tails = h.tails; fills = part head_fills 8 head };
      table =
          record {
            numbers = part head_numbers places head;
            disks = part head_disks places head;
            firsts = part head_firsts places head;
            reserved = part head_reserved places head;
            sums = part head_sums 8 head;
          };
      next = h.next;
      checkpoint = record { ends = h.ends; copied = h.copied };
      replay = record { positions = part head_positions 8 head; page = get_or head head_page 0 };
      classes = h.classes;
    }

-- A shut state has nothing in the work memory, and one of another length than the state's sizes give is not its own.
unfoldable pub own_work : Carried → (work : List ℕ) → Bool
own_work h work = not (when_shut h.stage) && eqb (length work) (head_words + work_words (core_in h work).sizes h.total)

-- The view: where the work memory is not the state's own, a head of zeros, as a new state has it.
unfoldable pub core_of : Carried → (work : List ℕ) → Core
core_of h work = core_in h (cond (own_work h work) work (replicate head_words 0))

-- and back: what is carried of a state, and its head
abbrev pub carried_of : Core → Carried
carried_of c =
    record {
      stage = c.stage;
      pages = c.sizes.pages;
      disks = c.sizes.disks;
      ring = c.sizes.ring;
      total = c.bases.total;
      epoch = c.epoch;
      next = c.next;
      copied = c.checkpoint.copied;
      starts = c.logs.starts;
      tails = c.logs.tails;
      ends = c.checkpoint.ends;
      classes = c.classes;
    }

-- the lists of the head, in their order
abbrev pub head_lists : Core → List (List ℕ)
head_lists c =
    c.sizes.slots ∷ c.sizes.widths ∷ c.bases.pages
    ∷ c.logs.fills ∷ c.table.sums ∷ c.replay.positions ∷ (c.replay.page ∷ [])
    ∷ c.table.numbers ∷ c.table.disks ∷ c.table.firsts ∷ c.table.reserved ∷ []

unfoldable pub head_of : Core → List ℕ
head_of c = flatten (head_lists c)

-- the world that the definitions know: the work memory without its head; and with one again
unfoldable pub body_of : World → World
body_of w = world_of w.anchor w.pages w.backups w.logs (drop head_words w.work)

abbrev pub behind : (head : List ℕ) → World → World
behind head w = world_of w.anchor w.pages w.backups w.logs (head ++ w.work)

-- The head after a call: that of the state handed back where the call is finished and the state is not shut; else as it was.
abbrev pub head_after : Answer → Core → (work : List ℕ) → List ℕ
head_after (Finished count value) c work = cond (when_shut c.stage) (take head_words work) (head_of c)
head_after (Refused number first second) c work = take head_words work
head_after (Interrupted count) c work = take head_words work

-- What a call gives: the answer, the budget that is left, what is carried of the state, and every lent word.
pub record Given : Type 0 where
  pub answer : Answer
  pub budget : ℕ
  pub carried : Carried
  pub world : World

abbrev pub given_by : Result → (work : List ℕ) → Given
given_by r work =
    record {
      answer = r.answer;
      budget = r.budget;
      carried = carried_of r.core;
      world = behind (head_after r.answer r.core work) r.world;
    }

unfoldable pub given : Call → Carried → World → Given
given call h w = given_by (result_of call (core_of h w.work) (body_of w)) w.work

-- A call of the code, on any state by value and any lent words, gives what its definition says of the view.
unfoldable pub Serves : Call → Carried → World → Handed → (left : ℕ) → (exit : World) → Type 0
Serves call h w reply left exit = record { answer = reply.answer; budget = left; carried = reply.carried; world = exit } ≡ given call h w
