-- Update: its rows by the tests of the code.
use mathlib.Core.Path.{◌≡◌, refl, ap, ◌∙◌}
use mathlib.Core.List.{List, [], ◌∷◌}
use mathlib.Core.Bool.{Bool, true, false, cond, not, ◌&&◌, ◌||◌}
use Prim.Native.Nat.{ℕ, ◌+◌, ◌*◌}
use lib.Dec.{leb, eqb}
use lib.ListN.{length, get_or, drop}
use borrow.Author.Tests.{ne_eqb}
use Rattle.model.specs.declared.Core.{Core}
use Rattle.model.specs.declared.Carried.{Carried}
use Rattle.model.specs.Sizes.{width_in, page_words, ring_of, used_entry}
use Rattle.model.specs.Record.{words_of, update_kind}
use Rattle.model.specs.Anchor.{anchor_words}
use Rattle.model.specs.World.{World}
use Rattle.model.specs.Memory.{owner_of}
use Rattle.model.specs.State.{start_of, kept_of, end_of, place_of, in_table, is_open, base_of}
use Rattle.model.specs.Room.{has_room}
use Rattle.model.specs.Refusal.{Row, row, verdict, rejected}
use Rattle.model.specs.Causes.{anchor_wrong, slot_missing, not_open, value_wrong, locked}
use Rattle.model.specs.Reads.{slot_fits, place_fits, home_fits, update_fits}
use Rattle.model.specs.Transaction.{disk_of, slot_rows, update_rows}
use Rattle.model.specs.View.{head_words, core_of, body_of}
use Rattle.table.specs.Parts.{room_for}
use Rattle.frame.specs.declared.entry.Entry.{Entry}
use Rattle.frame.specs.Checks.{verdict_of}
use Rattle.frame.specs.Entry.{Entered}
use Rattle.frame.specs.declared.refusal.Refusal.{Refusal}
use Rattle.frame.specs.Refusal.{number_of, row_in}
use Rattle.frame.proofs.Refusals.{numbered}
use Rattle.std.specs.Prelude.{Result, Ok, Err}
use Rattle.frame.proofs.FirstChecks.{view_rows}
use Rattle.access.specs.declared.slots.Slot.{Slot}
use Rattle.access.specs.Slots.{SlotOf, Finds}
use Rattle.access.specs.Plans.{early_of, Both}
use Rattle.access.proofs.FirstRows.{first_row, first_refused, first_passed}
use Rattle.access.proofs.Readings.{locked_here}

-- The first rows by their tests: m, the slot is missing; f, its page fits; o, the transaction is open; p, its place fits; a, the anchor and
-- v, the value have their lengths.
by_early : (m f o p a v : Bool) (later : List Row)
    → verdict (row 1 (not ((m || f) && (not o || p))) ∷ row 2 (not a) ∷ row 8 m ∷ row 9 (not o) ∷ row 10 (not v) ∷ later)
    ≡ cond (eqb (early_of (cond m 8 (cond (m || f) 0 1)) (cond o (cond p 0 1) 9) a v) 0) (verdict later)
    (rejected (early_of (cond m 8 (cond (m || f) 0 1)) (cond o (cond p 0 1) 9) a v) 0 0)
unfolding verdict early_of
by_early true f true true true v later = refl
by_early true f true true false v later = refl
by_early true f true false a v later = refl
by_early true f false p true v later = refl
by_early true f false p false v later = refl
by_early false false o p a v later = refl
by_early false true true true true true later = refl
by_early false true true true true false later = refl
by_early false true true true false v later = refl
by_early false true true false a v later = refl
by_early false true false p true v later = refl
by_early false true false p false v later = refl

-- Rows 11 and 14.
by_late : (b k : Bool) → verdict (row 11 b ∷ row 14 (not k) ∷ []) ≡ verdict_of (cond b 11 (cond k 0 14))
unfolding verdict
by_late true k = refl
by_late false true = refl
by_late false false = refl

module _ (h : Carried) (w : World) (number page slot : ℕ) (value : List ℕ) where
  abbrev c : Core
  c = core_of h w.work

  abbrev rows : List Row
  rows = update_rows c (body_of w) number page slot value

  rows_are : rows ≡ view_rows (update_fits number page slot c) c (body_of w) (slot_rows c (body_of w) number page slot value)
  unfolding update_rows
  rows_are = refl

  pub update_first : (refusal : Refusal) → number_of refusal ≡ first_row h w → verdict rows ≡ verdict_of (number_of refusal)
  update_first refusal answer =
      ap verdict rows_are
      ∙ first_refused h w refusal answer (update_fits number page slot c) (slot_rows c (body_of w) number page slot value)

  module _ (passed : 0 ≡ first_row h w) {f : Result Slot Refusal} (finds : Finds c page slot f) {e : Result Entry Refusal}
      (entered : Entered c number e) {width : ℕ} (long : length value ≡ width) {r : Result (Slot × Entry) Refusal}
      (first : Both f e (length w.anchor) width r)
    where
      abbrev last : List Row
      last = row 11 (locked c (body_of w) number page slot) ∷ row 14 (not (has_room c (2 * words_of update_kind (width_in c.sizes page)) (disk_of c number))) ∷ []

      early : row_in r ≡ early_of (row_in f) (row_in e) (eqb (length w.anchor) anchor_words) (eqb width (width_in c.sizes page))
      early = first.refusal (width_in c.sizes page) (λ s there. (finds.ready s there).width)

      decided : verdict rows ≡ cond (eqb (row_in r) 0) (verdict last) (rejected (row_in r) 0 0)
      unfolding update_fits slot_fits home_fits not_open value_wrong anchor_wrong
      decided =
          ap verdict rows_are ∙ first_passed h w passed (update_fits number page slot c) (slot_rows c (body_of w) number page slot value)
          ∙ rw (early, finds.refusal, entered.refusal, ← long)
          (by_early (slot_missing c.sizes page slot) (used_entry c.sizes page && leb (base_of c page + page_words c.sizes page) c.bases.total)
          (is_open c.table number) (place_fits (place_of c.table number) c) (eqb (length w.anchor) anchor_words)
          (eqb (length value) (width_in c.sizes page)) last)

      pub update_early : (refusal : Refusal) → r ≡ Err refusal → verdict rows ≡ verdict_of (number_of refusal)
      update_early refusal away = decided ∙ rw (away, ne_eqb (number_of refusal) 0 (numbered refusal)) refl

      module _ {s : Slot} {t : Entry} (there : r ≡ Ok (s, t)) {start : ℕ} (starts : start ≡ get_or h.starts t.disk 0) {late : ℕ}
          (second : late ≡ cond (in_table c.table (owner_of c.sizes (drop head_words w.work) s.at) && not (eqb (owner_of c.sizes (drop head_words w.work) s.at) number)) 11
          (cond (room_for start (t.tail + t.fill) t.sum h.ring (2 * words_of update_kind s.width)) 0 14))
        where
          abbrev lies : SlotOf c page slot s
          lies = finds.ready s (first.ready s t there).0

          room_here : has_room c (2 * words_of update_kind (width_in c.sizes page)) (disk_of c number)
              ≡ room_for start (t.tail + t.fill) t.sum h.ring (2 * words_of update_kind s.width)
          unfolding has_room room_for disk_of ring_of kept_of start_of end_of core_of
          room_here =
              let found = entered.ready t (first.ready s t there).1 in
              rw (← lies.width, ← found.place, ← found.disk, ← found.tail, ← found.fill, ← found.sum, starts) refl

          pub update_late : verdict rows ≡ verdict_of late
          update_late =
              decided
              ∙ rw (there, locked_here h w number page slot lies.place refl, room_here, second)
              (by_late _ (room_for start (t.tail + t.fill) t.sum h.ring (2 * words_of update_kind s.width)))
