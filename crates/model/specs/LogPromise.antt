-- The promises on the logs, on what the state says of them, and on what updates and aborts answer, as statements, each with its English.
use Rattle.std.specs.Prelude.{◌≡◌, ℕ, ◌+◌, ◌-◌, ◌≤◌, ◌<◌, List, [], ◌∷◌, ◌++◌, true, cond, length, get_or, ltb}
use Rattle.model.specs.declared.Stage.TheVariants.{Replaying}
use Rattle.model.specs.declared.Sizes.{Sizes}
use Rattle.model.specs.declared.Core.{Core}
use Rattle.model.specs.declared.Answer.{Answer}
use Rattle.model.specs.declared.Fate.{Fate}
use Rattle.model.specs.Word.{part, places_differing, OfBits}
use Rattle.model.specs.Sizes.{slot_base, page_base, page_words, ring_of}
use Rattle.model.specs.Anchor.{epoch_on, sizes_on, start_on}
use Rattle.model.specs.Record.{Record, change, close, encode, encode_all}
use Rattle.model.specs.Decode.{read_log, decoded}
use Rattle.model.specs.Scan.{Scan, scan, placed, fate_in, updates_in, update_words, oldest}
use Rattle.model.specs.World.{World}
use Rattle.model.specs.Memory.{buffer_of, copy_of}
use Rattle.model.specs.State.{limit, start_of, kept_of, tail_of, fill_of, end_of, is_open, place_of, first_at, reserved_at, has_update, with_replay}
use Rattle.model.specs.Refusal.{number_of}
use Rattle.model.specs.Causes.{when_serving, tail_on, retained}
use Rattle.model.specs.Transaction.{disk_of}
use Rattle.model.specs.Abort.{abort_scan, updates_left, xor_in}
use Rattle.model.specs.Restart.{position_of, replays, read_disk, fate_from, next_record, restart_step_task, moved_to}
use Rattle.model.specs.Call.{Call, format, update, abort, restart_begin}
use Rattle.model.specs.Image.{retained_words, image_of, log_of}
use Rattle.model.specs.Reference.{taken, outcome_of, answered, slot_index, plain_table}
use Rattle.model.specs.Machine.{Machine, Event, outcome, result, Run, follow, allowed_all, formatted}
use Rattle.model.specs.History.{Told, nothing_told, history, records_on, updates_put, ones_put, put_by}
use Rattle.model.specs.Promise.{Always}

-- The log: "The log's reader finds the records that its writer put there, and no others." What the calls put is told in
-- specs/History.antt. In every stage, so also after lost power: of the records put on a disk since its log began, some are old, then
-- comes a stretch that is kept, then the rest. The start lies behind the words of the old ones; it is the told one: the remembered end of
-- the last checkpoint that ended, or the first record of a transaction still open then, if that is smaller. The tail lies behind the
-- words of the stretch, which stand between; and the reader of restart begin (`finds`), as the one that the restarted pages are defined by
-- (`reads`), finds the stretch, each record at its position, and no others. The rest is in the buffer, or lost with it.
pub record Stored (t : Told) (w : World) (disk : ℕ) : Type 0 where
  pub old : List Record
  pub stretch : List Record
  pub rest : List Record
  pub parts : records_on disk t.puts ≡ old ++ (stretch ++ rest)
  pub start : start_on w.anchor disk ≡ t.base disk + length (encode_all old)
  pub since : start_on w.anchor disk ≡ t.starts disk
  pub tail : tail_on (sizes_on w.anchor) w disk ≡ t.base disk + length (encode_all (old ++ stretch))
  pub words : retained_words (sizes_on w.anchor) w disk ≡ encode_all stretch
  pub finds : retained (sizes_on w.anchor) w disk ≡ placed (start_on w.anchor disk) stretch
  pub reads : log_of (image_of w) disk ≡ placed (start_on w.anchor disk) stretch

-- the log from the start to the end, the buffer included
unfoldable pub log_scan : Core → World → ℕ → Scan
log_scan c w disk =
    scan c.sizes (read_log c.sizes w.logs disk (tail_of c.logs disk) (buffer_of w.work disk (fill_of c.logs disk)))
    (end_of c.logs disk) (start_of c.logs disk)

-- An abort reads the records from its transaction's first on, and no others.
pub record AbortReads (c : Core) (w : World) (disk number : ℕ) (records : List Record) : Type 0 where
  pub before : List Record
  pub from : List Record
  pub parts : records ≡ before ++ from
  pub first : first_at c.table (place_of c.table number) ≡ start_of c.logs disk + length (encode_all before)
  pub reads : abort_scan c w number ≡ placed (first_at c.table (place_of c.table number)) from

-- While the store is open or copying nothing is lost: the rest is in the buffer, and the log from the start to the end reads as all
-- records put since the start. What an abort takes back are the updates that were put under its number.
pub record Buffered (t : Told) (c : Core) (w : World) (disk : ℕ) (stretch rest : List Record) : Type 0 where
  pub buffer : buffer_of w.work disk (fill_of c.logs disk) ≡ encode_all rest
  pub reads : log_scan c w disk ≡ placed (start_of c.logs disk) (stretch ++ rest)
  pub aborts : (number : ℕ) → is_open c.table number ≡ true → disk_of c number ≡ disk
      → has_update c.table (place_of c.table number) ≡ true → AbortReads c w disk number (stretch ++ rest)
  pub undoes : (number : ℕ) → is_open c.table number ≡ true → disk_of c number ≡ disk → updates_left c w number ≡ updates_put t disk number

-- While it replays, the steps have taken the first records of the stretch and the others are left. From its position on a log step's
-- reader finds these and no others: the record that the step takes is the first of them, and it looks for a closing record among those
-- after it. The step takes exactly that record: its position moves to behind the record's words, and nothing else of the state changes.
-- "Each replay step changes the pages by the item it took": by that record's difference, or by nothing.
pub record StepReads (c : Core) (w : World) (disk : ℕ) (stretch : List Record) : Type 0 where
  pub done : List Record
  pub left : List Record
  pub parts : stretch ≡ done ++ left
  pub position : position_of c disk ≡ start_on w.anchor disk + length (encode_all done)
  pub reads : scan c.sizes (read_disk c w disk) (tail_of c.logs disk) (position_of c disk) ≡ placed (position_of c disk) left
  pub takes : (r : Record) (more : List Record) → left ≡ r ∷ more → next_record c w disk ≡ decoded (position_of c disk) r
  pub ahead : (r : Record) (more : List Record) → left ≡ r ∷ more → (number : ℕ)
      → let next : ℕ = position_of c disk + length (encode r) in
      fate_from c w disk number next ≡ fate_in number (placed next more)
  pub moves : (r : Record) (more : List Record) → left ≡ r ∷ more
      → (restart_step_task c w disk).core ≡ moved_to c disk (position_of c disk + length (encode r))
  pub changes : (kind page slot number copy : ℕ) (diff : List ℕ) (more : List Record) → left ≡ change kind page slot number copy diff ∷ more
      → let fate : Fate = fate_in number (placed (position_of c disk + (3 + length diff)) more) in
      (restart_step_task c w disk).actions ≡ cond (replays c.epoch fate copy) (xor_in (slot_base c.sizes page slot) diff w.pages) []
  pub closes : (kind number : ℕ) (more : List Record) → left ≡ close kind number ∷ more → (restart_step_task c w disk).actions ≡ []

-- The log of a disk, by stage. A restart begins at its start.
pub record LogOf (m : Machine) (t : Told) (disk : ℕ) : Type 0 where
  pub stored : Stored t m.world disk
  pub serving : when_serving m.core.stage ≡ true → Buffered t m.core m.world disk stored.stretch stored.rest
  pub begins : outcome m restart_begin ≡ taken → position_of (result m restart_begin).core disk ≡ start_on m.world.anchor disk
  pub replaying : m.core.stage ≡ Replaying → StepReads m.core m.world disk stored.stretch

unfoldable pub LogKept : Type 0
LogKept =
    (m : Machine) (s : Sizes) (budget : ℕ)
    → outcome m (format s budget) ≡ taken
    → (events : List Event)
    → allowed_all events (formatted m s budget).machine ≡ true
    → let n : Machine = (follow events (formatted m s budget)).machine in
    let t : Told = history events (formatted m s budget) nothing_told in
    (disk : ℕ) → disk < (sizes_on n.world.anchor).disks → LogOf n t disk

-- The backup: a restart begins at its first page. While it replays and pages are left, a backup step changes the pages by the next page
-- of the current backup, and by nothing else, and goes on to the page after it; the logs' positions stay.
pub record BackupStep (c : Core) (w : World) (page : ℕ) : Type 0 where
  pub changes : (restart_step_task c w c.sizes.disks).actions
      ≡ xor_in (page_base c.sizes page) (part (page_base c.sizes page) (page_words c.sizes page) (image_of w).backup) w.pages
  pub moves : (restart_step_task c w c.sizes.disks).core ≡ with_replay c (record { positions = c.replay.positions; page = page + 1 })

unfoldable pub BackupSteps : Type 0
BackupSteps =
    Always λ m r. (outcome m restart_begin ≡ taken → (result m restart_begin).core.replay.page ≡ 0)
    × (m.core.stage ≡ Replaying → m.core.replay.page < m.core.sizes.pages → BackupStep m.core m.world m.core.replay.page)

-- No call on the machine's own slices ever finds a malformed record.
unfoldable pub NeverMalformed : Type 0
NeverMalformed = Always λ m r. (k : Call) → number_of (result m k).answer ≡ 7 → ⊥

-- What the state says is true. The sizes, the checkpoint number, the starts and the tails are the device words; an open transaction's
-- first position and its reserved words are those of its update records in the log; a page's copy number is the number of the last
-- checkpoint that copied it: the one under way if that has copied it already, else the last one that ended. Every open transaction's
-- number is below the next one, which a begin answers: so it is none of theirs.
pub record Truth (m : Machine) : Type 0 where
  pub sizes : sizes_on m.world.anchor ≡ m.core.sizes
  pub epoch : epoch_on m.world.anchor ≡ m.core.epoch
  pub starts : (disk : ℕ) → disk < m.core.sizes.disks → start_on m.world.anchor disk ≡ start_of m.core.logs disk
  pub order : (disk : ℕ) → disk < m.core.sizes.disks → start_of m.core.logs disk ≤ tail_of m.core.logs disk
  pub tails : (disk : ℕ) → disk < m.core.sizes.disks → tail_on m.core.sizes m.world disk ≡ tail_of m.core.logs disk
  pub reserved : (t : ℕ) → is_open m.core.table t ≡ true
      → reserved_at m.core.table (place_of m.core.table t)
      ≡ 2 + update_words (updates_in t (log_scan m.core m.world (disk_of m.core t)))
  pub first : (t : ℕ) → is_open m.core.table t ≡ true → has_update m.core.table (place_of m.core.table t) ≡ true
      → oldest (updates_in t (log_scan m.core m.world (disk_of m.core t))) ≡ first_at m.core.table (place_of m.core.table t)
  pub pages : (page : ℕ) → page < m.core.sizes.pages
      → copy_of m.core.sizes m.world.work page ≡ cond (ltb page m.core.checkpoint.copied) (m.core.epoch + 1) m.core.epoch
  pub numbers : (t : ℕ) → is_open m.core.table t ≡ true → t < m.core.next

unfoldable pub StateTrue : Type 0
StateTrue = Always λ m r. when_serving m.core.stage ≡ true → Truth m

-- Commit and abort always fit: for every open transaction there is room in the ring, and below 2^62, for the words reserved for it:
-- its closing record and a compensation for each of its updates.
pub record Closable (c : Core) (t : ℕ) : Type 0 where
  pub closing : 2 ≤ reserved_at c.table (place_of c.table t)
  pub ring : end_of c.logs (disk_of c t) - kept_of c.logs (disk_of c t) + reserved_at c.table (place_of c.table t) ≤ ring_of c.sizes (disk_of c t)
  pub positions : end_of c.logs (disk_of c t) + reserved_at c.table (place_of c.table t) ≤ limit

unfoldable pub ClosingFits : Type 0
ClosingFits = Always λ m r. when_serving m.core.stage ≡ true → (t : ℕ) → is_open m.core.table t ≡ true → Closable m.core t

-- 02, S-4: "how many of its bits are 1 over all its words, and update passes that number on; abort answers the sum over its
-- compensations". An update or an abort on the machine's own slices that is taken answers how many bits are 1 over the differences of the
-- records that it puts: an update its one record, an abort its compensations and a closing record, which has no difference. For an update
-- that is in how many places (word, bit) the slot's value in the plain table and the new value differ, for every number k of bits that
-- all words of both keep to. `answered` is 0 where the call was refused or cut.
pub record TellsOnes (x : Run) (t : Told) (call : Call) (a : Answer) : Type 0 where
  pub updates : (number page slot : ℕ) (value : List ℕ) (budget : ℕ) → call ≡ update number page slot value budget → outcome_of a ≡ taken
      → answered a ≡ ones_put (put_by call x t)
  pub aborts : (number budget : ℕ) → call ≡ abort number budget → outcome_of a ≡ taken → answered a ≡ ones_put (put_by call x t)
  pub places : (number page slot : ℕ) (value : List ℕ) (budget : ℕ) → call ≡ update number page slot value budget → outcome_of a ≡ taken
      → let before : List ℕ = get_or (plain_table x.reference) (slot_index x.reference.sizes page slot) [] in
      (k : ℕ) → OfBits k before → OfBits k value → answered a ≡ places_differing k before value

unfoldable pub OnesTold : Type 0
OnesTold =
    (m : Machine) (s : Sizes) (budget : ℕ)
    → outcome m (format s budget) ≡ taken
    → (events : List Event)
    → allowed_all events (formatted m s budget).machine ≡ true
    → let x : Run = follow events (formatted m s budget) in
    (k : Call) → TellsOnes x (history events (formatted m s budget) nothing_told) k (result x.machine k).answer
