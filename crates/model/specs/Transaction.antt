-- 01, "Calls": begin, update, read and commit, each as the rows that it checks and what it does when none applies.
use Rattle.std.specs.Prelude.{ℕ, ◌+◌, ◌*◌, List, [], ◌∷◌, ◌++◌, cond, not, length, leb}
use Rattle.model.specs.declared.Table.{Table}
use Rattle.model.specs.declared.Core.{Core}
use Rattle.model.specs.Word.{xors, ones_over, part}
use Rattle.model.specs.Sizes.{width_in}
use Rattle.model.specs.Record.{Record, change, close, diff_of, encode, words_of, update_kind, commit_kind}
use Rattle.model.specs.World.{World, write, pages, work, each, perform}
use Rattle.model.specs.Memory.{owner_at, copy_of}
use Rattle.model.specs.State.{begun_with, with_log, end_of, after_flush, place_of, disk_at_place, first_at, reserved_at, reserved_on, with_place, with_reserved, without, has_update, slot_place}
use Rattle.model.specs.Room.{no_disk, has_room, idlest}
use Rattle.model.specs.Refusal.{Row, row, Task, Verdict, accepted, rejected, verdict}
use Rattle.model.specs.Causes.{when_serving, stage_forbids, anchor_wrong, lengths_wrong, slot_missing, not_open, reader_not_open, value_wrong, locked, table_full, spent}
use Rattle.model.specs.Reads.{counts_fit, slot_fits, home_fits, update_fits, fits_on}
use Rattle.model.specs.Append.{Appended, append, flush}

-- the disk of an open transaction
unfoldable pub disk_of : Core → ℕ → ℕ
disk_of c number = disk_at_place c.table (place_of c.table number)

-- Begin: "next number", and the idlest disk "with room within its set", the class's (specs/Room.antt). "Begin needs 2."
unfoldable pub begin_rows : Core → World → (class : ℕ) → List Row
begin_rows c w class =
    row 1 (stage_forbids when_serving (counts_fit c) c) ∷ row 2 (anchor_wrong w.anchor) ∷ row 5 (lengths_wrong c.sizes c.bases.total w) ∷ row 12 (table_full c)
    ∷ row 13 (spent c.next) ∷ row 14 (leb no_disk (idlest c class 2)) ∷ []

-- its first position is set by its first update; it takes the lowest free place
unfoldable pub begun : Core → (class : ℕ) → Core
begun c class =
    begun_with c
    (with_reserved (with_place c.table (place_of c.table 0) c.next disk 0 2) disk (reserved_on c.table disk + 2))
  where
    disk : ℕ
    disk = idlest c class 2

unfoldable pub begin_task : Core → World → (class : ℕ) → Task
begin_task c w class = record { actions = []; core = begun c class; value = c.next }

-- Update: "record appended, slot changed. The slot is held until its transaction closes. An equal value is still logged."
unfoldable pub slot_words : Core → World → ℕ → ℕ → List ℕ
slot_words c w page slot = part (slot_place c page slot) (width_in c.sizes page) w.pages

unfoldable pub update_record : Core → World → ℕ → ℕ → ℕ → List ℕ → Record
update_record c w number page slot value =
    change update_kind page slot number (copy_of c.sizes w.work page) (xors (slot_words c w page slot) value)

-- the transaction's entry after an update of r words: "an update of r words needs 2 × r", of which r are its record
unfoldable pub updated : Core → ℕ → ℕ → Table
updated c number r =
    with_reserved
    (with_place c.table place number disk (cond (has_update c.table place) (first_at c.table place) (end_of c.logs disk))
    (reserved_at c.table place + r))
    disk
    (reserved_on c.table disk + r)
  where
    place : ℕ
    place = place_of c.table number

    disk : ℕ
    disk = disk_of c number

-- an update's rows after the three that every call has
abbrev pub slot_rows : Core → World → ℕ → ℕ → ℕ → List ℕ → List Row
slot_rows c w number page slot value =
    row 8 (slot_missing c.sizes page slot) ∷ row 9 (not_open c number) ∷ row 10 (value_wrong c.sizes page value)
    ∷ row 11 (locked c w number page slot)
    ∷ row 14 (not (has_room c (2 * words_of update_kind (width_in c.sizes page)) (disk_of c number))) ∷ []

unfoldable pub update_rows : Core → World → ℕ → ℕ → ℕ → List ℕ → List Row
update_rows c w number page slot value =
    row 1 (stage_forbids when_serving (fits_on (update_fits number page slot c) c w) c) ∷ row 2 (anchor_wrong w.anchor) ∷ row 5 (lengths_wrong c.sizes c.bases.total w)
    ∷ slot_rows c w number page slot value

-- The memory changes come after the stores of a flush. 02, S-4: "Whoever forms a difference now also learns how many of its bits are 1
-- over all its words, and update passes that number on".
unfoldable pub update_task : Core → World → ℕ → ℕ → ℕ → List ℕ → Task
update_task c w number page slot value =
    record {
      actions =
          added.actions ++ each (write pages) (slot_place c page slot) value
          ++ write work (owner_at c.sizes (slot_place c page slot)) number ∷ [];
      core = with_log c added.logs (updated c number (length words));
      value = ones_over (diff_of (update_record c w number page slot value));
    }
  where
    words : List ℕ
    words = encode (update_record c w number page slot value)

    added : Appended
    added = append c.sizes c.logs w.work (disk_of c number) words

-- Read: "the slot's words as a part of the page memory, empty if refused, with a companion call for the number"
unfoldable pub read_rows : Core → World → ℕ → ℕ → ℕ → List Row
read_rows c w reader page slot =
    row 1 (stage_forbids when_serving (fits_on (slot_fits page slot c) c w) c) ∷ row 2 (anchor_wrong w.anchor) ∷ row 5 (lengths_wrong c.sizes c.bases.total w)
    ∷ row 8 (slot_missing c.sizes page slot) ∷ row 9 (reader_not_open c reader) ∷ row 11 (locked c w reader page slot) ∷ []

-- what a place for words holds after a call that fills it: these words, and where the call is refused what it held before
abbrev pub filled : Verdict → (words before : List ℕ) → List ℕ
filled accepted words before = words
filled (rejected number first second) words before = before

unfoldable pub read_words : Core → World → ℕ → ℕ → ℕ → List ℕ
read_words c w reader page slot = filled (verdict (read_rows c w reader page slot)) (slot_words c w page slot) []

-- Commit: "closing record, flush, slots released". A slot is released when its owner leaves the table.
unfoldable pub commit_rows : Core → World → ℕ → List Row
commit_rows c w number =
    row 1 (stage_forbids when_serving (fits_on (home_fits number c) c w) c) ∷ row 2 (anchor_wrong w.anchor) ∷ row 5 (lengths_wrong c.sizes c.bases.total w) ∷ row 9 (not_open c number) ∷ []

unfoldable pub commit_task : Core → World → ℕ → Task
commit_task c w number =
    record {
      actions = added.actions ++ flush c.sizes added.logs (perform added.actions w).work (disk_of c number);
      core = with_log c (after_flush added.logs (disk_of c number)) (without c.table number);
      value = 0;
    }
  where
    added : Appended
    added = append c.sizes c.logs w.work (disk_of c number) (encode (close commit_kind number))
