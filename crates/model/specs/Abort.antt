-- 01, "Calls": abort: "for each update, newest first, a compensation record with the same difference and the page's present
-- copy number, and the slot changed back; then the abort record; no flush after it; slots released."
use Rattle.std.specs.Prelude.{ℕ, ◌-◌, List, [], ◌∷◌, ◌++◌, cond, ◌&&◌, ltb, None, Option}
use Rattle.model.specs.declared.Sizes.{Sizes}
use Rattle.model.specs.declared.Logs.{Logs}
use Rattle.model.specs.declared.Core.{Core}
use Rattle.model.specs.declared.BadRecord.{BadRecord}
use Rattle.model.specs.Record.{bad_record}
use Rattle.model.specs.Below.{sum_over}
use Rattle.model.specs.Word.{xored, ones_over}
use Rattle.model.specs.Sizes.{slot_base}
use Rattle.model.specs.Record.{change, close, encode, compensation_kind, abort_kind}
use Rattle.model.specs.Decode.{read_log}
use Rattle.model.specs.Scan.{Scan, end, ring_then_buffer, fault_in, Update, updates_in, update_words}
use Rattle.model.specs.World.{World, Action, write, pages, each, perform}
use Rattle.model.specs.Memory.{buffer_of, copy_of}
use Rattle.model.specs.State.{with_log, tail_of, fill_of, end_of, place_of, is_open, first_at, reserved_at, has_update, without}
use Rattle.model.specs.Refusal.{Row, row, Task}
use Rattle.model.specs.Causes.{when_serving, stage_forbids, anchor_wrong, lengths_wrong, not_open, fault_row}
use Rattle.model.specs.Reads.{fits_on, abort_fits}
use Rattle.model.specs.Append.{Appended, append}
use Rattle.model.specs.Transaction.{disk_of}

-- "An abort reads from its transaction's first record to the tail, then the buffer"; one with no update reads nothing.
unfoldable pub abort_scan : Core → World → ℕ → Scan
abort_scan c w number =
    cond (is_open c.table number && has_update c.table place)
    (ring_then_buffer c.sizes (read_log c.sizes w.logs disk tail (buffer_of w.work disk (fill_of c.logs disk)))
    tail
    (end_of c.logs disk)
    (first_at c.table place))
    end
  where
    place : ℕ
    place = place_of c.table number

    disk : ℕ
    disk = disk_of c number

    tail : ℕ
    tail = tail_of c.logs disk

-- the updates that an abort takes back, newest first
unfoldable pub updates_left : Core → World → ℕ → List Update
updates_left c w number = updates_in number (abort_scan c w number)

-- "if the update records of that number found there have more words than are owed for them, it answers 7 with its disk and
-- that first position"
unfoldable pub abort_fault : Core → World → ℕ → Option BadRecord
abort_fault c w number =
    fault_in (disk_of c number) (abort_scan c w number)
    (cond (ltb (reserved_at c.table place - 2) (update_words (updates_left c w number)))
    (bad_record (disk_of c number) (first_at c.table place))
    None)
  where
    place : ℕ
    place = place_of c.table number

unfoldable pub abort_rows : Core → World → ℕ → List Row
abort_rows c w number =
    row 1 (stage_forbids when_serving (fits_on (abort_fits number c) c w) c) ∷ row 2 (anchor_wrong w.anchor) ∷ row 5 (lengths_wrong c.sizes c.bases.total w)
    ∷ fault_row (abort_fault c w number) ∷ row 9 (not_open c number) ∷ []

-- a difference XORed into the page memory at a place
unfoldable pub xor_in : ℕ → List ℕ → List ℕ → List Action
xor_in at diff memory = each (write pages) at (xored at diff memory)

-- one update taken back: its compensation record appended, the slot changed back
unfoldable pub compensate : Sizes → Logs → World → ℕ → ℕ → Update → Appended
compensate s l w number disk u =
    record { actions = added.actions ++ xor_in (slot_base s u.page u.slot) u.diff w.pages; logs = added.logs }
  where
    added : Appended
    added =
        append s l w.work disk
        (encode (change compensation_kind u.page u.slot number (copy_of s w.work u.page) u.diff))

-- all of them, each with what the one before it left
unfoldable pub undo_all : Sizes → Logs → World → ℕ → ℕ → List Update → Appended
undo_all s l w number disk [] = record { actions = []; logs = l }
undo_all s l w number disk (u ∷ us) =
    let one : Appended = compensate s l w number disk u in
    let rest : Appended = undo_all s one.logs (perform one.actions w) number disk us in
    record { actions = one.actions ++ rest.actions; logs = rest.logs }

-- "abort answers the sum over its compensations" (02, S-4), each of which has the difference of its update
unfoldable pub ones_undone : List Update → ℕ
ones_undone us = sum_over (λ u. ones_over u.diff) us

unfoldable pub abort_task : Core → World → ℕ → Task
abort_task c w number =
    record {
      actions = undone.actions ++ closed.actions;
      core = with_log c closed.logs (without c.table number);
      value = ones_undone (updates_left c w number);
    }
  where
    undone : Appended
    undone = undo_all c.sizes c.logs w number (disk_of c number) (updates_left c w number)

    closed : Appended
    closed =
        append c.sizes undone.logs (perform undone.actions w).work (disk_of c number) (encode (close abort_kind number))
