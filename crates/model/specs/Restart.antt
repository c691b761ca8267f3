-- 01, "Calls": restart begin, step and end.
use Rattle.std.specs.Prelude.{ℕ, zero, suc, ◌+◌, ◌-◌, List, [], ◌∷◌, ◌++◌, Bool, true, false, cond, not, ◌&&◌, get_or, set, replicate, ltb, eqb, None, Option}
use Rattle.model.specs.declared.Sizes.{Sizes}
use Rattle.model.specs.declared.Core.{Core}
use Rattle.model.specs.declared.Decoded.{Decoded}
use Rattle.model.specs.declared.Decoded.TheVariants.{Change, Close, Malformed}
use Rattle.model.specs.declared.Fate.{Fate}
use Rattle.model.specs.declared.Fate.TheVariants.{Closed, Unclosed, Unreadable}
use Rattle.model.specs.declared.BadRecord.{BadRecord}
use Rattle.model.specs.Record.{bad_record}
use Rattle.model.specs.Below.{all_below, list_below}
use Rattle.model.specs.Word.{part}
use Rattle.model.specs.Sizes.{total, page_base, page_words, slot_base}
use Rattle.model.specs.Anchor.{epoch_word, epoch_on, sizes_on, start_on, start_word, backup_at}
use Rattle.model.specs.Record.{in_backup}
use Rattle.model.specs.Decode.{read_log, decode_at, span}
use Rattle.model.specs.Scan.{scan, fate_in}
use Rattle.model.specs.World.{World, store, write, anchor, backups, pages, perform, each}
use Rattle.model.specs.State.{sound, open_core, replaying_core, with_replay, tail_of}
use Rattle.model.specs.Refusal.{Row, row, Verdict, accepted, rejected, verdict, Task}
use Rattle.model.specs.Causes.{when_shut, when_replaying, stage_forbids, anchor_wrong, unformatted, sizes_wrong, lengths_wrong, tail_on, fault_row, log_rows, source_missing, spent}
use Rattle.model.specs.Reads.{fits_on}
use Rattle.model.specs.Abort.{xor_in}
use Rattle.model.specs.Format.{fresh_memory}
use Rattle.model.specs.Checkpoint.{per_disk}

-- The checks of an image, of the lent lists alone: rows 2 to 7. `others` is check 5 of whatever is lent beside the anchor.
unfoldable pub image_rows : (others : Sizes → Bool) → (anchor logs : List ℕ) → List Row
image_rows others a logs =
    let s : Sizes = sizes_on a in
    row 2 (anchor_wrong a) ∷ row 3 (unformatted a) ∷ row 4 (sizes_wrong s) ∷ row 5 (others s) ∷ log_rows s (start_on a) logs

-- Begin (shut): "all checks; page memory zeroed".
unfoldable pub restart_begin_rows : Core → World → List Row
restart_begin_rows c w =
    row 1 (stage_forbids when_shut true c) ∷ image_rows (λ s. lengths_wrong s (total s) w) w.anchor w.logs ++ row 13 (spent (epoch_on w.anchor)) ∷ []

unfoldable pub restart_begin_task : World → Task
restart_begin_task w =
    let s : Sizes = sizes_on w.anchor in
    record {
      actions = each (write pages) 0 (replicate (total s) 0);
      core = replaying_core s (epoch_on w.anchor) (per_disk s (start_on w.anchor)) (per_disk s (tail_on s w));
      value = 0;
    }

-- Step (replaying): "the caller names source 0 to D − 1, a log, or D, the backup".
unfoldable pub position_of : Core → ℕ → ℕ
position_of c disk = get_or c.replay.positions disk 0

-- What remains of a source: words of a log, pages of the backup. Row 15, "an end call while items remain, or a step where none
-- remain", asks this.
unfoldable pub remaining : Core → ℕ → ℕ
remaining c source =
    cond (ltb source c.sizes.disks) (tail_of c.logs source - position_of c source)
    (cond (eqb source c.sizes.disks) (c.sizes.pages - c.replay.page) 0)

-- "A closed one's record not in backup c, or a loose one's record in it, is XORed in; others change nothing."
abbrev pub replays : ℕ → Fate → ℕ → Bool
replays c Closed copy = not (in_backup c copy)
replays c Unclosed copy = in_backup c copy
-- not reached: row 7 applies
replays c (Unreadable p) copy = false

-- the log of a disk, read up to its tail
unfoldable pub read_disk : Core → World → ℕ → ℕ → ℕ
read_disk c w disk p = read_log c.sizes w.logs disk (tail_of c.logs disk) [] p

-- the transaction's fate in that log from position p on
unfoldable pub fate_from : Core → World → ℕ → ℕ → ℕ → Fate
fate_from c w disk number p = fate_in number (scan c.sizes (read_disk c w disk) (tail_of c.logs disk) p)

unfoldable pub next_record : Core → World → ℕ → Decoded
next_record c w disk = decode_at c.sizes (read_disk c w disk) (tail_of c.logs disk) (position_of c disk)

-- "A log step reads from its record to its transaction's next close, or to the tail."; a closing record is its own next close.
abbrev pub fate_fault : ℕ → Fate → Option BadRecord
fate_fault disk Closed = None
fate_fault disk Unclosed = None
fate_fault disk (Unreadable p) = bad_record disk p

abbrev pub record_fault : Core → World → ℕ → Decoded → Option BadRecord
record_fault c w disk (Change kind page slot number copy width next) = fate_fault disk (fate_from c w disk number next)
record_fault c w disk (Close kind number next) = None
record_fault c w disk Malformed = bad_record disk (position_of c disk)

unfoldable pub step_fault : Core → World → ℕ → Option BadRecord
step_fault c w source =
    cond (ltb source c.sizes.disks && ltb 0 (remaining c source)) (record_fault c w source (next_record c w source)) None

unfoldable pub restart_step_rows : Core → World → ℕ → List Row
restart_step_rows c w source =
    row 1 (stage_forbids when_replaying (fits_on (sound c) c w) c) ∷ row 2 (anchor_wrong w.anchor) ∷ row 5 (lengths_wrong c.sizes c.bases.total w)
    ∷ fault_row (step_fault c w source) ∷ row 8 (source_missing c.sizes source) ∷ row 15 (eqb (remaining c source) 0) ∷ []

-- "A backup step XORs its next page in."
unfoldable pub backup_step : Core → World → Task
backup_step c w =
    let page : ℕ = c.replay.page in
    let from : ℕ = backup_at c.sizes c.epoch + page_base c.sizes page in
    record {
      actions = xor_in (page_base c.sizes page) (part from (page_words c.sizes page) w.backups) w.pages;
      core = with_replay c (record { positions = c.replay.positions; page = page + 1 });
      value = 0;
    }

-- "A log step takes the next record."
unfoldable pub moved_to : Core → ℕ → ℕ → Core
moved_to c disk next = with_replay c (record { positions = set c.replay.positions disk next; page = c.replay.page })

abbrev pub record_step : Core → World → ℕ → Decoded → Task
record_step c w disk (Change kind page slot number copy width next) =
    record {
      actions =
          cond (replays c.epoch (fate_from c w disk number next) copy)
          (xor_in (slot_base c.sizes page slot) (span (read_disk c w disk) (position_of c disk + 3) width) w.pages)
          [];
      core = moved_to c disk next;
      value = 0;
    }
record_step c w disk (Close kind number next) = record { actions = []; core = moved_to c disk next; value = 0 }
-- not reached: row 7 applies
record_step c w disk Malformed = record { actions = []; core = c; value = 0 }

unfoldable pub restart_step_task : Core → World → ℕ → Task
restart_step_task c w source =
    cond (ltb source c.sizes.disks) (record_step c w source (next_record c w source)) (backup_step c w)

-- Run (replaying): steps of one source, one after the other, until `most` are made or the next would be refused; the value is how many
-- were made. 01 has no such call: by its definition it is those steps. It is refused as the first of them is.
abbrev pub step_then : Verdict → Task → (Core → World → Task) → Core → World → Task
step_then (rejected number first second) step rest c w = record { actions = []; core = c; value = 0 }
step_then accepted step rest c w =
    let more : Task = rest step.core (perform step.actions w) in
    record { actions = step.actions ++ more.actions; core = more.core; value = suc more.value }

unfoldable pub restart_run_task : ℕ → Core → World → ℕ → Task
restart_run_task zero c w source = record { actions = []; core = c; value = 0 }
restart_run_task (suc n) c w source =
    step_then (verdict (restart_step_rows c w source)) (restart_step_task c w source) (λ c' w'. restart_run_task n c' w' source) c w

-- End (replaying): "all pages to backup (c + 1) mod 2; each tail into row (c + 1) mod 2; c := c + 1. Copy numbers become that
-- number."
unfoldable pub restart_end_rows : Core → World → List Row
restart_end_rows c w =
    row 1 (stage_forbids when_replaying (fits_on (sound c) c w) c) ∷ row 2 (anchor_wrong w.anchor) ∷ row 5 (lengths_wrong c.sizes c.bases.total w)
    ∷ row 15 (not (all_below (λ i. eqb (remaining c i) 0) (c.sizes.disks + 1))) ∷ []

unfoldable pub restart_end_task : Core → World → Task
restart_end_task c w =
    record {
      actions =
          each (store backups) (backup_at c.sizes (c.epoch + 1)) w.pages
          ++ list_below (λ d. store anchor (start_word (c.epoch + 1) d) (tail_of c.logs d)) c.sizes.disks
          ++ store anchor epoch_word (c.epoch + 1) ∷ []
          ++ fresh_memory c.sizes (c.epoch + 1);
      core = open_core c.sizes (c.epoch + 1) c.logs.tails;
      value = c.epoch + 1;
    }
