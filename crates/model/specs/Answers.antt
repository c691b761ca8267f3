-- What is never refused, which states there are, and what an answer tells: 01's "Turned away" as statements over lists of calls, and
-- over every call, state and lent slices; and the disk of a begin (02's S-2 and S-5).
use Rattle.std.specs.Prelude.{◌≡◌, ℕ, ◌≤◌, ◌<◌, Bool, true, false, cond, not, ◌||◌, eqb, None, Option}
use mathlib.Core.List.{List, Memᴰ}
use Rattle.model.specs.declared.Stage.{Stage}
use Rattle.model.specs.declared.Sizes.{Sizes}
use Rattle.model.specs.declared.Core.{Core}
use Rattle.model.specs.declared.Answer.{Answer}
use Rattle.model.specs.declared.BadRecord.{BadRecord}
use Rattle.model.specs.Record.{bad_record}
use Rattle.model.specs.Below.{within}
use Rattle.model.specs.Anchor.{sizes_on, start_on}
use Rattle.model.specs.World.{World, stores}
use Rattle.model.specs.State.{new_core, sound, is_open}
use Rattle.model.specs.Classes.{not_a_table, wrong_line, uncovered_class, twice_covered}
use Rattle.model.specs.Room.{load_of, eligible, Idlest}
use Rattle.model.specs.Refusal.{Row, number_of, stores_of, first_of, second_of}
use Rattle.model.specs.Reads.{counts_fit, slot_fits, home_fits, update_fits, abort_fits, fits_on}
use Rattle.model.specs.Causes.{when_shut, when_replaying, when_open, when_copying, when_serving, stage_forbids, table_full, spent, wrong_tail, fault_from}
use Rattle.model.specs.Transaction.{disk_of}
use Rattle.model.specs.Abort.{abort_fault}
use Rattle.model.specs.Restart.{step_fault}
use Rattle.model.specs.Listing.{not_a_line, not_lines}
use Rattle.model.specs.Call.{Call, format, begin, update, Look, look, read, list_line, list_lines, commit, abort, set_classes, checkpoint_begin, checkpoint_step, checkpoint_end, restart_begin, restart_step, restart_run, restart_end, new_state, rows_of, task_of, budget_of, result_of}
use Rattle.model.specs.Reference.{Outcome, taken, refused, interrupted, outcome_of}
use Rattle.model.specs.Machine.{Machine, result, outcome, is_refused}
use Rattle.model.specs.Promise.{Always}

-- The stages that a call is for: "Format (shut)", "Begin (open, copying, as the next four)", "Checkpoint begin (open)", "Checkpoint
-- step (copying)", "Checkpoint end (copying)", "Restart begin (shut)", "Restart step (replaying)", "Restart end (replaying)". A run
-- of restart steps is for the stage of a step, a listing for that of restart begin, a table of classes for those of begin; a new state is
-- handed out in every stage.
abbrev pub stages_of_look : Look → Stage → Bool
stages_of_look (read reader page slot) stage = when_serving stage
stages_of_look (list_line number bytes) stage = when_shut stage
stages_of_look (list_lines first bytes) stage = when_shut stage

abbrev pub stages_of : Call → Stage → Bool
stages_of (format s budget) stage = when_shut stage
stages_of (begin class) stage = when_serving stage
stages_of (update number page slot value budget) stage = when_serving stage
stages_of (look q) stage = stages_of_look q stage
stages_of (commit number budget) stage = when_serving stage
stages_of (abort number budget) stage = when_serving stage
stages_of (set_classes lines) stage = when_serving stage
stages_of checkpoint_begin stage = when_open stage
stages_of (checkpoint_step budget) stage = when_copying stage
stages_of (checkpoint_end budget) stage = when_copying stage
stages_of restart_begin stage = when_shut stage
stages_of (restart_step source) stage = when_replaying stage
stages_of (restart_run source most) stage = when_replaying stage
stages_of (restart_end budget) stage = when_replaying stage
stages_of new_state stage = true

-- what a call tests of a state that no call made (specs/Reads.antt)
abbrev pub fits_look : Look → Core → World → Bool
fits_look (read reader page slot) c w = fits_on (slot_fits page slot c) c w
fits_look (list_line number bytes) c w = true
fits_look (list_lines first bytes) c w = true

abbrev pub fits_call : Call → Core → World → Bool
fits_call (format s budget) c w = true
fits_call (begin class) c w = counts_fit c
fits_call (update number page slot value budget) c w = fits_on (update_fits number page slot c) c w
fits_call (look q) c w = fits_look q c w
fits_call (commit number budget) c w = fits_on (home_fits number c) c w
fits_call (abort number budget) c w = fits_on (abort_fits number c) c w
fits_call (set_classes lines) c w = counts_fit c
fits_call checkpoint_begin c w = fits_on (sound c) c w
fits_call (checkpoint_step budget) c w = fits_on (sound c) c w
fits_call (checkpoint_end budget) c w = fits_on (sound c) c w
fits_call restart_begin c w = true
fits_call (restart_step source) c w = fits_on (sound c) c w
fits_call (restart_run source most) c w = fits_on (sound c) c w
fits_call (restart_end budget) c w = fits_on (sound c) c w
fits_call new_state c w = true

abbrev pub is_format : Call → Bool
is_format (format s budget) = true
is_format (begin class) = false
is_format (update number page slot value budget) = false
is_format (look q) = false
is_format (commit number budget) = false
is_format (abort number budget) = false
is_format (set_classes lines) = false
is_format checkpoint_begin = false
is_format (checkpoint_step budget) = false
is_format (checkpoint_end budget) = false
is_format restart_begin = false
is_format (restart_step source) = false
is_format (restart_run source most) = false
is_format (restart_end budget) = false
is_format new_state = false

-- what a call is lent beside the five slices has a wrong length: a listing's bytes, that are no line or no whole number of lines; the lines
-- of a table of classes
abbrev pub beside_wrong_in : Look → Bool
beside_wrong_in (read reader page slot) = false
beside_wrong_in (list_line number bytes) = not_a_line bytes
beside_wrong_in (list_lines first bytes) = not_lines bytes

abbrev pub beside_wrong : Call → Bool
beside_wrong (look q) = beside_wrong_in q
beside_wrong (format s budget) = false
beside_wrong (begin class) = false
beside_wrong (update number page slot value budget) = false
beside_wrong (commit number budget) = false
beside_wrong (abort number budget) = false
beside_wrong (set_classes lines) = not_a_table lines
beside_wrong checkpoint_begin = false
beside_wrong (checkpoint_step budget) = false
beside_wrong (checkpoint_end budget) = false
beside_wrong restart_begin = false
beside_wrong (restart_step source) = false
beside_wrong (restart_run source most) = false
beside_wrong (restart_end budget) = false
beside_wrong new_state = false

-- "Commit and abort always fit." While the store is open or copying, a commit and an abort of an open transaction, on the machine's own
-- slices and with whatever budget, are not refused: each is taken, or cut.
unfoldable pub ClosingTaken : Type 0
ClosingTaken =
    Always λ m r. when_serving m.core.stage ≡ true → (t : ℕ) → is_open m.core.table t ≡ true → (budget : ℕ)
    → (is_refused (outcome m (commit t budget)) ≡ false) × (is_refused (outcome m (abort t budget)) ≡ false)

-- What a call on the machine's own slices answers. It answers 1, "stage does not allow the call", exactly where the stage is none of
-- the call's. The causes of 2 to 7 lie in lent slices and devices: none arises here, but that a format may be handed sizes that are out
-- of bounds (4) or do not go with the slices (5), and answers besides 0, 1 or 16; and that a listing may be lent bytes, and a table of
-- classes lines, of a wrong length: then it answers 5 in its stages.
pub record AnswersOwn (m : Machine) (k : Call) (a : Answer) : Type 0 where
  pub stage : eqb (number_of a) 1 ≡ not (stages_of k m.core.stage)
  pub slices : is_format k ≡ false → beside_wrong k ≡ false → within 2 7 (number_of a) ≡ false
  pub beside : beside_wrong k ≡ true → stages_of k m.core.stage ≡ true → number_of a ≡ 5
  pub formats : (s : Sizes) (budget : ℕ) → k ≡ format s budget
      → (within 0 1 (number_of a) || within 4 5 (number_of a) || eqb (number_of a) 16) ≡ true

unfoldable pub OwnSlices : Type 0
OwnSlices = Always λ m r. (k : Call) → AnswersOwn m k (result m k).answer

-- The disk of a begin. 02, S-2: "The idlest disk is now the one with the fewest started blocks in its buffer ..., ties to the lowest
-- disk"; S-5: "Begin takes a class of one byte and picks the idlest disk with room within its set, 14 if none"; a begin needs 2. A begin on
-- the machine's own slices that is taken opens the transaction whose number it answers, which was not open before, on that disk. It answers
-- 14 only where no disk of the class's set has the room; and there it does, in its stages, where fewer than sixteen are open and a number
-- is left.
pub record BeginsOn (class : ℕ) (c : Core) (a : Answer) (after : Core) : Type 0 where
  pub fresh : outcome_of a ≡ taken → is_open c.table (first_of a) ≡ false
  pub opens : outcome_of a ≡ taken → is_open after.table (first_of a) ≡ true
  pub idlest : outcome_of a ≡ taken → Idlest (eligible c class 2) (load_of c.logs) c.sizes.disks (disk_of after (first_of a))
  pub crowded : number_of a ≡ 14 → (disk : ℕ) → disk < c.sizes.disks → eligible c class 2 disk ≡ false
  pub fourteen : when_serving c.stage ≡ true → table_full c ≡ false → spent c.next ≡ false
      → ((disk : ℕ) → disk < c.sizes.disks → eligible c class 2 disk ≡ false) → number_of a ≡ 14

unfoldable pub BeginDisk : Type 0
BeginDisk = Always λ m r. (class : ℕ) → BeginsOn class m.core (result m (begin class)).answer (result m (begin class)).core

-- "Only these calls, and one that hands out a new state, make a state.": the states that are made so, whatever the calls were lent.
pub data Made : Core → Type 0 where
  new : Made new_core
  by : (k : Call) (w : World) {c : Core} → Made c → Made (result_of k c w).core

-- Every state that is made passes the tests of row 1 (specs/State.antt, specs/Reads.antt), so for these row 1 is 01's: "stage does not
-- allow the call". On whatever slices, a call answers 1 exactly where the stage is none of the call's.
pub record StageAlone (c : Core) : Type 0 where
  pub sound : sound c ≡ true
  pub row : (k : Call) (w : World) → stage_forbids (stages_of k) (fits_call k c w) c ≡ not (stages_of k c.stage)
  pub answers : (k : Call) (w : World) → eqb (number_of (result_of k c w).answer) 1 ≡ not (stages_of k c.stage)

unfoldable pub MadeSound : Type 0
MadeSound = (c : Core) → Made c → StageAlone c

-- The states of `Always` are made so, also where its first format was handed a state that no call made.
unfoldable pub StatesMade : Type 0
StatesMade = Always λ m r. Made m.core

-- 01's and 02's numbers: 0 where the call was taken, 16 where it was cut, any other where it was refused.
unfoldable pub outcome_numbered : ℕ → Outcome
outcome_numbered n = cond (eqb n 0) taken (cond (eqb n 16) interrupted refused)

-- what the calls that check row 7 find: "restart begin; log step and abort, in what they read"; a run, in what its first step reads; a
-- listing, "as for restart begin"
abbrev pub image_fault : World → Option BadRecord
image_fault w = fault_from (sizes_on w.anchor) (start_on w.anchor) w.logs (sizes_on w.anchor).disks 0

abbrev pub fault_of_look : Look → World → Option BadRecord
fault_of_look (read reader page slot) w = None
fault_of_look (list_line number bytes) w = image_fault w
fault_of_look (list_lines first bytes) w = image_fault w

abbrev pub fault_of : Call → Core → World → Option BadRecord
fault_of restart_begin c w = image_fault w
fault_of (restart_step source) c w = step_fault c w source
fault_of (restart_run source most) c w = step_fault c w source
fault_of (abort number budget) c w = abort_fault c w number
fault_of (format s budget) c w = None
fault_of (begin class) c w = None
fault_of (update number page slot value budget) c w = None
fault_of (look q) c w = fault_of_look q w
fault_of (commit number budget) c w = None
fault_of (set_classes lines) c w = None
fault_of checkpoint_begin c w = None
fault_of (checkpoint_step budget) c w = None
fault_of (checkpoint_end budget) c w = None
fault_of (restart_end budget) c w = None
fault_of new_state c w = None

-- what is told of a table of classes that is refused for its lines
pub record ReturnsClasses (k : Call) (c : Core) (a : Answer) : Type 0 where
  pub lines : List ℕ
  pub call : k ≡ set_classes lines
  pub line : number_of a ≡ 17 → first_of a ≡ wrong_line c.sizes.disks lines
  pub uncovered : number_of a ≡ 18 → first_of a ≡ uncovered_class lines
  pub twice : number_of a ≡ 19 → first_of a ≡ twice_covered lines
  pub second : second_of a ≡ 0

-- What an answer tells: its number whether the call was taken, refused or cut; then the stores made, and the column "Returned".
pub record Returns (k : Call) (c : Core) (w : World) (a : Answer) : Type 0 where
  pub number : number_of a ≤ 19
  pub outcome : outcome_of a ≡ outcome_numbered (number_of a)
  -- taken: all stores of its list are made, and its value is returned
  pub finished : outcome_of a ≡ taken
      → (stores_of a ≡ stores (task_of k c w).actions) × (first_of a ≡ (task_of k c w).value) × (second_of a ≡ 0)
  -- refused: no store is made; "zeros", for every number but 6, 7 and 17 to 19
  pub none : outcome_of a ≡ refused → stores_of a ≡ 0
  pub zeros : outcome_of a ≡ refused → within 6 7 (number_of a) ≡ false → within 17 19 (number_of a) ≡ false → (first_of a ≡ 0) × (second_of a ≡ 0)
  -- 6: "lowest such disk"
  pub tail : number_of a ≡ 6 → (first_of a ≡ wrong_tail (sizes_on w.anchor) (start_on w.anchor) w.logs) × (second_of a ≡ 0)
  -- 7: "lowest disk, first position there"
  pub fault : number_of a ≡ 7 → fault_of k c w ≡ bad_record (first_of a) (second_of a)
  -- 17: "first such line returned, from 0"; 18, 19: a class, "lowest returned"; only of a table of classes
  pub classes : within 17 19 (number_of a) ≡ true → ReturnsClasses k c a
  -- 16: "stores made", as many as the budget
  pub cut : outcome_of a ≡ interrupted → (stores_of a ≡ budget_of k) × (first_of a ≡ stores_of a) × (second_of a ≡ 0)

unfoldable pub Returned : Type 0
Returned = (k : Call) (c : Core) (w : World) → Returns k c w (result_of k c w).answer

-- 0 and 16 are no row's.
unfoldable pub RowNumbers : Type 0
RowNumbers = (k : Call) (c : Core) (w : World) (r : Row) → Memᴰ r (rows_of k c w) → (within 1 15 r.number || within 17 19 r.number) ≡ true
