-- What the calls put into the logs: for each accepted call the records that it appends. They are told without the log and without the
-- page memory: an update's difference is against the plain table of the reference, and an abort's compensations are of the updates
-- that were put under its number. Of the state they take the page's copy number, which `Truth` speaks of, and the transaction's disk,
-- which begin's definition gives. From what was put, and from the open write sets, it is told where each log starts.
use Rattle.std.specs.Prelude.{ℕ, ◌+◌, min, List, [], ◌∷◌, ◌++◌, map, cond, eqb, length, get_or}
use Rattle.model.specs.declared.Core.{Core}
use Rattle.model.specs.Below.{sum_over}
use Rattle.model.specs.Word.{xors, ones_over}
use Rattle.model.specs.Record.{Record, change, close, diff_of, update_kind, compensation_kind, commit_kind, abort_kind, encode_all}
use Rattle.model.specs.Scan.{Update, placed, updates_in, oldest}
use Rattle.model.specs.World.{World}
use Rattle.model.specs.Memory.{copy_of}
use Rattle.model.specs.Causes.{tail_on}
use Rattle.model.specs.Transaction.{disk_of}
use Rattle.model.specs.Call.{Call, format, begin, update, look, commit, abort, set_classes, checkpoint_begin, checkpoint_step, checkpoint_end, restart_begin, restart_step, restart_run, restart_end, new_state}
use Rattle.model.specs.Reference.{Reference, Outcome, taken, refused, interrupted, slot_index, plain_table, WriteSet}
use Rattle.model.specs.Machine.{Event, call, lent, scramble, outcome, after, referred, Run}

pub record Put : Type 0 where
  pub disk : ℕ
  pub content : Record

-- Where the log of each disk began, and what was put since; each disk's end when the last checkpoint began; and where its log starts.
pub record Told : Type 0 where
  pub base : ℕ → ℕ
  pub puts : List Put
  pub marks : ℕ → ℕ
  pub starts : ℕ → ℕ

-- logs that begin at `base`, where nothing was put yet
abbrev pub empty_from : (ℕ → ℕ) → Told
empty_from base = record { base = base; puts = []; marks = base; starts = base }

-- "each tail 0"
unfoldable pub nothing_told : Told
nothing_told = empty_from (λ disk. 0)

abbrev pub also : Told → List Put → Told
also t more = record { base = t.base; puts = t.puts ++ more; marks = t.marks; starts = t.starts }

-- the records put on one disk
unfoldable pub records_on : ℕ → List Put → List Record
records_on disk [] = []
records_on disk (p ∷ ps) = cond (eqb p.disk disk) (p.content ∷ records_on disk ps) (records_on disk ps)

-- "The difference is before XOR after (000, definition 1)": before is the slot's value in the plain table of slots
unfoldable pub update_put : Run → ℕ → ℕ → ℕ → List ℕ → Record
update_put x number page slot value =
    let r : Reference = x.reference in
    let before : List ℕ = get_or (plain_table r) (slot_index r.sizes page slot) [] in
    change update_kind page slot number (copy_of x.machine.core.sizes x.machine.world.work page) (xors before value)

-- the updates put under a number on a disk, newest first
unfoldable pub updates_put : Told → ℕ → ℕ → List Update
updates_put t disk number = updates_in number (placed (t.base disk) (records_on disk t.puts))

-- a compensation "with the same difference and the page's present copy number"
unfoldable pub compensation : Core → World → ℕ → Update → Record
compensation c w number u =
    change compensation_kind u.page u.slot number (copy_of c.sizes w.work u.page) u.diff

-- how many bits are 1 over the differences of records
unfoldable pub ones_put : List Put → ℕ
ones_put puts = sum_over (λ p. ones_over (diff_of p.content)) puts

-- a record of a transaction, on its disk
abbrev pub put_under : Run → ℕ → Record → Put
put_under x number r = record { disk = disk_of x.machine.core number; content = r }

-- the records of an accepted call; of a cut one, those that it would have put
abbrev pub put_by : Call → Run → Told → List Put
put_by (update number page slot value budget) x t = put_under x number (update_put x number page slot value) ∷ []
put_by (commit number budget) x t = put_under x number (close commit_kind number) ∷ []
put_by (abort number budget) x t =
    map (λ u. put_under x number (compensation x.machine.core x.machine.world number u))
    (updates_put t (disk_of x.machine.core number) number)
    ++ put_under x number (close abort_kind number) ∷ []
put_by (format s budget) x t = []
put_by (begin class) x t = []
put_by (look q) x t = []
put_by (set_classes lines) x t = []
put_by checkpoint_begin x t = []
put_by (checkpoint_step budget) x t = []
put_by (checkpoint_end budget) x t = []
put_by restart_begin x t = []
put_by (restart_step source) x t = []
put_by (restart_run source most) x t = []
put_by (restart_end budget) x t = []
put_by new_state x t = []

-- Checkpoint begin: "each disk's end (tail plus buffered) is remembered". The end lies behind the words of all that was put.
unfoldable pub end_put : Told → ℕ → ℕ
end_put t disk = t.base disk + length (encode_all (records_on disk t.puts))

abbrev pub marked : Told → Told
marked t = record { base = t.base; puts = t.puts; marks = end_put t; starts = t.starts }

-- a position, or that of the oldest update, if that is smaller
abbrev pub or_oldest : ℕ → List Update → ℕ
or_oldest p [] = p
or_oldest p (u ∷ us) = min p (oldest (u ∷ us))

-- Checkpoint end: "A start is the remembered end, or the first record of a transaction of that disk still open, if that is smaller."
-- The open transactions are those with a write set; one that has put no update on the disk has no record there.
unfoldable pub start_put : Told → List WriteSet → ℕ → ℕ
start_put t [] disk = t.marks disk
start_put t (x ∷ xs) disk = or_oldest (start_put t xs disk) (updates_put t disk x.number)

abbrev pub started_from : (ℕ → ℕ) → Told → Told
started_from starts t = record { base = t.base; puts = t.puts; marks = t.marks; starts = starts }

-- What a taken call does to that. A format, and a restart end, "all pages to backup (c + 1) mod 2; each tail into row (c + 1) mod 2;
-- c := c + 1", leave the logs empty: what was put before is told no more, and each log begins at its tail. A checkpoint's begin sets the
-- marks, its end the starts; an end that is cut has not stored c, and the old starts stand.
abbrev pub starts_after : Call → Run → Told → Told
starts_after (restart_end budget) x t = empty_from (tail_on x.machine.core.sizes x.machine.world)
starts_after (format s budget) x t = nothing_told
starts_after new_state x t = t
starts_after (begin class) x t = t
starts_after (update number page slot value budget) x t = t
starts_after (look q) x t = t
starts_after (commit number budget) x t = t
starts_after (abort number budget) x t = t
starts_after (set_classes lines) x t = t
starts_after checkpoint_begin x t = marked t
starts_after (checkpoint_step budget) x t = t
starts_after (checkpoint_end budget) x t = started_from (start_put t x.reference.write_sets) t
starts_after restart_begin x t = t
starts_after (restart_step source) x t = t
starts_after (restart_run source most) x t = t

-- a cut call's records are told too: some of them may have been stored, the rest are lost with the buffers
abbrev pub told_by : Outcome → Call → Run → Told → Told
told_by taken k x t = also (starts_after k x t) (put_by k x t)
told_by refused k x t = t
told_by interrupted k x t = also t (put_by k x t)

abbrev pub told : Run → Event → Told → Told
told x (call k) t = told_by (outcome x.machine k) k x t
told x (lent k w) t = t
told x (scramble pages work) t = t

-- what a list of events put, from a run on
unfoldable pub history : List Event → Run → Told → Told
history [] x t = t
history (e ∷ es) x t =
    history es (record { machine = after x.machine e; reference = referred x.machine e x.reference }) (told x e t)
