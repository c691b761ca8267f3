-- What an abort reads of the head and of the log, its work, and what it leaves in the head.
use Rattle.std.specs.Prelude.{◌≡◌, List, ◌∷◌, ◌++◌, true, cond, ◌&&◌, ℕ, ◌+◌, ◌-◌, ltb, None, Result, Ok, Err, [], length}
use Rattle.model.specs.declared.Sizes.{Sizes}
use Rattle.model.specs.declared.Logs.{Logs}
use Rattle.model.specs.declared.Core.{Core}
use Rattle.model.specs.declared.Carried.{Carried}
use Rattle.model.specs.declared.BadRecord.{BadRecord}
use Rattle.model.specs.Record.{bad_record}
use Rattle.model.specs.Record.{encode, close, abort_kind}
use Rattle.model.specs.Scan.{scan, fault_in, Update, updates_in, update_words}
use Rattle.model.specs.World.{World, perform}
use Rattle.model.specs.State.{end_of, place_of, is_open, first_at, reserved_at, has_update}
use Rattle.model.specs.Append.{Appended, append}
use Rattle.model.specs.Transaction.{disk_of}
use Rattle.model.specs.Reads.{place_fits, scope_fits, sizes_fit}
use Rattle.model.specs.Abort.{undo_all, abort_fault, abort_rows}
use Rattle.model.specs.Refusal.{row, verdict, rejected}
use Rattle.model.specs.Causes.{when_serving, not_open, fault_row}
use Rattle.model.specs.View.{core_of, body_of}
use Rattle.model.specs.Fields.{Put, put, fills, leaving}
use Rattle.frame.specs.declared.entry.Entry.{Entry}
use Rattle.frame.specs.Entry.{EntryOf}
use Rattle.frame.specs.Lent.{lent_refusal}
use Rattle.frame.specs.Refusal.{number_of, row_in}
use Rattle.frame.specs.declared.refusal.Refusal.{Refusal}
use Rattle.abort.specs.declared.scope.Scope.{Scope}
use Rattle.abort.specs.declared.scope.Target.{Target}
use Rattle.abort.specs.declared.notes.Notes.{Notes}
use Rattle.abort.specs.Undo.{reader, parts_from}
use Rattle.abort.specs.Groups.{Noted, fault_of}

unfoldable pub scope_of : Core → ℕ → Scope
scope_of c number =
    record {
      disk = disk_of c number;
      from = cond (has_update c.table (place_of c.table number)) (first_at c.table (place_of c.table number)) (end_of c.logs (disk_of c number));
      first = first_at c.table (place_of c.table number);
      words = reserved_at c.table (place_of c.table number) - 2;
    }

-- the same by what is found of the transaction
unfoldable pub scope_in : Entry → (first : ℕ) → Scope
scope_in e first =
    record { disk = e.disk; from = cond (ltb 2 e.reserved) first (e.tail + e.fill); first = first; words = e.reserved - 2 }

-- its numbers and the sizes are those of the state, and pass the tests
pub record ReadOf (c : Core) (number : ℕ) (r : Target) : Type 0 where
  pub entry : EntryOf c number r.entry
  pub scope : r.scope ≡ scope_of c number
  pub sizes : r.sizes ≡ c.sizes
  pub near : scope_fits (place_of c.table number) c ≡ true
  pub fits : sizes_fit c ≡ true

-- The number of the row that refuses a transaction, and where none does, what is read of it.
pub record Read (c : Core) (number : ℕ) (r : Result Target Refusal) : Type 0 where
  pub refusal : row_in r
      ≡ cond (is_open c.table number) (cond (place_fits (place_of c.table number) c && scope_fits (place_of c.table number) c && sizes_fit c) 0 1) 9
  pub ready : (t : Target) → r ≡ Ok t → ReadOf c number t

-- What is known where rows 1, 2, 5 and 9 do not apply, before its log is read.
pub record Reached (h : Carried) (w : World) (number : ℕ) (t : Target) : Type 0 where
  pub lent : 0
      ≡ lent_refusal (when_serving h.stage) h.pages h.disks h.ring h.total (length w.anchor) (length w.pages) (length w.backups) (length w.logs) (length w.work)
  pub read : ReadOf (core_of h w.work) number t
  pub opened : is_open (core_of h w.work).table number ≡ true
  pub rows : verdict (abort_rows (core_of h w.work) (body_of w) number)
      ≡ verdict (fault_row (abort_fault (core_of h w.work) (body_of w) number) ∷ row 9 (not_open (core_of h w.work) number) ∷ [])

-- The first of those rows that applies, and where none does, what is read of the transaction.
pub record Targeted (h : Carried) (w : World) (number : ℕ) (r : Result Target Refusal) : Type 0 where
  pub refused : (x : Refusal) → r ≡ Err x → verdict (abort_rows (core_of h w.work) (body_of w) number) ≡ rejected (number_of x) 0 0
  pub ready : (t : Target) → r ≡ Ok t → Reached h w number t

-- What an abort finds in the log that it reads: a malformed record, or more words of updates than are reserved; and if it finds none
-- of these, where the updates are read from.
pub record Examines (s : Sizes) (l : Logs) (at : Scope) (number : ℕ) (logs work : List ℕ) (r : Result Notes BadRecord) : Type 0 where
  pub fault : fault_of r
      ≡ fault_in at.disk (parts_from s l at.disk logs work at.from)
      (cond (ltb at.words (update_words (updates_in number (parts_from s l at.disk logs work at.from)))) (bad_record at.disk at.first) None)
  pub noted : (n : Notes) → r ≡ Ok n → Noted number (scan s (reader s l at.disk logs work) (end_of l at.disk)) at.from n

-- updates taken back, then the closing record
unfoldable pub rolling_back : Sizes → Logs → World → (number disk : ℕ) → List Update → Appended
rolling_back s l w number disk us =
    let undone : Appended = undo_all s l w number disk us in
    let closed : Appended = append s undone.logs (perform undone.actions w).work disk (encode (close abort_kind number)) in
    record { actions = undone.actions ++ closed.actions; logs = closed.logs }

-- the words that an abort puts into the head: how many are buffered on its disk, its place is free, and `sum` words stay reserved
abbrev pub closed : (place disk fill sum : ℕ) → List Put
closed place disk fill sum = put fills disk fill ∷ leaving place disk sum
