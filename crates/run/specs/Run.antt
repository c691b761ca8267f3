-- Restart run: many steps of one source.
use Rattle.std.specs.Prelude.{◌≡◌, List, Bool, true, false, cond, ℕ, ◌+◌, ◌≤◌, ◌<◌, length, get_or, None, Option}
use Rattle.model.specs.declared.Core.{Core}
use Rattle.model.specs.declared.Reply.{Reply}
use Rattle.model.specs.declared.Sizes.{Sizes}
use Rattle.model.specs.declared.Decoded.{Decoded}
use Rattle.model.specs.declared.Decoded.TheVariants.{Change, Close, Malformed}
use Rattle.model.specs.declared.BadRecord.{BadRecord}
use Rattle.model.specs.Record.{bad_record}
use Rattle.model.specs.declared.Fate.{Fate}
use Rattle.model.specs.declared.Fate.TheVariants.{Closed, Unclosed, Unreadable}
use Rattle.model.specs.Sizes.{ring_of, disk_at, page_base, slot_base, total}
use Rattle.model.specs.Anchor.{anchor_words}
use Rattle.model.specs.Memory.{lengths_right}
use Rattle.model.specs.Decode.{span}
use Rattle.model.specs.Scan.{scan, fate_in}
use Rattle.model.specs.Image.{xor_at}
use Rattle.model.specs.World.{World, perform}
use Rattle.model.specs.Refusal.{verdict, conclude}
use Rattle.model.specs.Restart.{replays, fate_fault, restart_run_task}
use Rattle.disk_log.specs.Ring.{ring_at, EntriesOf}
use Rattle.replay.specs.Step.{Replays, step_rest}

-- What a run gives once the first rows have passed.
unfoldable pub RunsOn : Core → World → (source most : ℕ) → Reply → World → Type 0
RunsOn c w source most r v =
    record { answer = r.answer; budget = 0; core = r.core; world = v }
    ≡ conclude (verdict (step_rest c w source)) 0 (restart_run_task most c w source) c w

-- The first rows have passed: a replaying state that a call made, and slices of the right lengths.
pub record Passes (c : Core) (w : World) : Type 0 where
  pub replays : Replays c
  pub anchor : length w.anchor ≡ anchor_words
  pub lengths : lengths_right c.sizes c.bases.total w ≡ true

-- What a run did: the steps made, the state and the words after them.
pub record RanOn (source most : ℕ) (c : Core) (w : World) (made : ℕ) (k : Core) (v : World) : Type 0 where
  pub value : (restart_run_task most c w source).value ≡ made
  pub core : (restart_run_task most c w source).core ≡ k
  pub world : perform (restart_run_task most c w source).actions w ≡ v

-- What is known after some steps of a run: it goes on from there as it would have from the start.
pub record Onward (source most : ℕ) (c : Core) (w : World) (made left : ℕ) (k : Core) (v : World) : Type 0 where
  pub value : (restart_run_task most c w source).value ≡ made + (restart_run_task left k v source).value
  pub core : (restart_run_task most c w source).core ≡ (restart_run_task left k v source).core
  pub world : perform (restart_run_task most c w source).actions w ≡ perform (restart_run_task left k v source).actions v

-- The memory of fates: whether a transaction is closed, of those that have been met and are not closed yet.
abbrev pub fate_of : Bool → Fate
fate_of true = Closed
fate_of false = Unclosed

-- of the first `used` numbers the fate is right, and no number stands twice
pub record Remembers (fate : ℕ → Fate) (numbers : List ℕ) (closed : List Bool) (used : ℕ) : Type 0 where
  pub right : (i : ℕ) → i < used → fate (get_or numbers i 0) ≡ fate_of (get_or closed i false)
  pub once : (i j : ℕ) → i < used → j < used → get_or numbers i 0 ≡ get_or numbers j 0 → i ≡ j

-- what is known of a fate so far: closed, or else what is found further on
abbrev pub or_ahead : Bool → Fate → Fate
or_ahead true ahead = Closed
or_ahead false ahead = ahead

-- A search ahead that has come to a position: `fate` is what is found from its start on, `ahead` what is found from that position on.
-- The first `used` numbers were remembered before it, the sought one is the next, and those behind were met: all, while there is room.
pub record Searched (fate ahead : ℕ → Fate) (sought : ℕ) (numbers : List ℕ) (closed : List Bool) (used count : ℕ) : Type 0 where
  pub first : used < count → get_or numbers used 0 ≡ sought
  pub right : (i : ℕ) → i < used → fate (get_or numbers i 0) ≡ fate_of (get_or closed i false)
  pub met : (i : ℕ) → i < count → fate (get_or numbers i 0) ≡ or_ahead (get_or closed i false) (ahead (get_or numbers i 0))
  pub unmet : count < 16 → (n : ℕ) → ((i : ℕ) → i < count → get_or numbers i 0 ≡ n → ⊥) → fate n ≡ ahead n
  pub once : (i j : ℕ) → i < count → j < count → get_or numbers i 0 ≡ get_or numbers j 0 → i ≡ j

-- The first word of each page is known, and the pages are as long as the sizes say.
pub record LaidOf (s : Sizes) (slots widths bases pages : List ℕ) : Type 0 where
  pub entries : EntriesOf s slots widths
  pub base : (page : ℕ) → page < 64 → get_or bases page 0 ≡ page_base s page
  pub words : length pages ≡ total s

-- and there are such sizes
pub record Laid (slots widths bases pages : List ℕ) : Type 0 where
  pub sizes : Sizes
  pub are : LaidOf sizes slots widths bases pages

-- What a change at p comes to, by its transaction's fate: it stays, or it is XORed in or not and the record at `to` is next.
abbrev pub TakesChange : (epoch copy p to : ℕ) (xored before after : List ℕ) (next : ℕ) → Fate → Type 0
TakesChange epoch copy p to xored before after next (Unreadable q) = (next ≡ p) × (after ≡ before)
TakesChange epoch copy p to xored before after next Closed = (next ≡ to) × (after ≡ cond (replays epoch Closed copy) xored before)
TakesChange epoch copy p to xored before after next Unclosed = (next ≡ to) × (after ≡ cond (replays epoch Unclosed copy) xored before)

-- What a record at p comes to: the pages before and after it, and where the next record stands, which is p where it is not taken.
abbrev pub Takes : Sizes → (epoch tail : ℕ) → (ℕ → ℕ) → (p : ℕ) (before after : List ℕ) (next : ℕ) → Decoded → Type 0
Takes s epoch tail read p before after next (Change kind page slot number copy width to) =
    TakesChange epoch copy p to (xor_at (slot_base s page slot) (span read (p + 3) width) before) before after next (fate_in number (scan s read tail to))
Takes s epoch tail read p before after next (Close kind number to) = (next ≡ to) × (after ≡ before)
Takes s epoch tail read p before after next Malformed = (next ≡ p) × (after ≡ before)

-- The words of a disk's ring, and that it lies within the logs.
pub record DiskRing (s : Sizes) (logs : List ℕ) (disk : ℕ) (ring : List ℕ) : Type 0 where
  pub same : ring ≡ ring_at s logs disk
  pub inside : disk_at s disk + ring_of s disk + 1 ≤ length logs
  pub some : 0 < ring_of s disk

-- Row 7 of a step: the record's own fault, or that of the search ahead for its transaction's close.
abbrev pub fault_at : Sizes → (ℕ → ℕ) → (tail disk p : ℕ) → Decoded → Option BadRecord
fault_at s read tail disk p (Change kind page slot number copy width next) = fate_fault disk (fate_in number (scan s read tail next))
fault_at s read tail disk p (Close kind number next) = None
fault_at s read tail disk p Malformed = bad_record disk p
