-- Read: its rows by the tests of the code, and what it gives.
use mathlib.Core.Path.{◌≡◌, refl, sym, subst, ap, ◌∙◌}
use mathlib.Core.List.{List, [], ◌∷◌, ◌++◌}
use mathlib.Core.Bool.{Bool, true, false, not, ◌&&◌}
use Prim.Native.Nat.{ℕ}
use lib.Dec.{eqb}
use lib.ListN.{length, drop, take-append-drop}
use borrow.Author.Tests.{eq-eqb, ne_eqb}
use Rattle.model.specs.declared.Core.{Core}
use Rattle.model.specs.declared.Carried.{Carried}
use Rattle.model.specs.declared.Answer.TheVariants.{Finished, Refused}
use Rattle.model.specs.Word.{part}
use Rattle.model.specs.Anchor.{anchor_words}
use Rattle.model.specs.World.{World}
use Rattle.model.specs.Memory.{owner_of}
use Rattle.model.specs.State.{in_table, slot_place}
use Rattle.model.specs.Refusal.{Row, row, verdict, accepted}
use Rattle.model.specs.Causes.{when_shut, anchor_wrong, slot_missing, reader_not_open, locked}
use Rattle.model.specs.Reads.{slot_fits}
use Rattle.model.specs.Transaction.{slot_words, read_rows, read_words}
use Rattle.model.specs.Call.{read, look, look_task}
use Rattle.model.specs.View.{head_words, core_of, body_of, Serves}
use Rattle.model.proofs.View.Head.{own_work_lem, carried_back, head_whole}
use Rattle.frame.specs.Checks.{verdict_of}
use Rattle.frame.specs.declared.refusal.Refusal.{Refusal}
use Rattle.frame.specs.declared.refusal.Refusal.TheVariants.{Stage, AnchorLength, NotOpen, Held}
use Rattle.frame.specs.Refusal.{number_of, row_in}
use Rattle.frame.proofs.Refusals.{numbered, ok_same}
use Rattle.std.specs.Prelude.{Result, Ok, Err}
use Rattle.frame.proofs.FirstChecks.{view_rows}
use Rattle.frame.proofs.Shown.{shown_refused, shown_finished}
use Rattle.access.specs.declared.slots.Slot.{Slot}
use Rattle.access.specs.Slots.{SlotOf, Finds}
use Rattle.access.specs.Reading.{Reads, Readable}
use Rattle.access.proofs.FirstRows.{first_row, first_refused, first_passed, ready, own, unfit_slot, fit_slot, missing_slot, found_slot, slot_within}

-- Row 11 by the owner at the slot's place.
pub locked_here : (h : Carried) (w : World) (number page slot : ℕ) {at : ℕ} → at ≡ slot_place (core_of h w.work) page slot → {b : Bool}
    → b ≡ (in_table (core_of h w.work).table (owner_of (core_of h w.work).sizes (drop head_words w.work) at)
    && not (eqb (owner_of (core_of h w.work).sizes (drop head_words w.work) at) number))
    → locked (core_of h w.work) (body_of w) number page slot ≡ b
unfolding locked body_of
locked_here h w number page slot there e = rw (← there, e) refl

anchor_right : (w : World) → length w.anchor ≡ anchor_words → anchor_wrong w.anchor ≡ false
unfolding anchor_wrong
anchor_right w e = rw (eq-eqb (length w.anchor) anchor_words e) refl

anchor_other : (w : World) → (length w.anchor ≡ anchor_words → ⊥) → anchor_wrong w.anchor ≡ true
unfolding anchor_wrong
anchor_other w e = rw (ne_eqb (length w.anchor) anchor_words e) refl

-- a read that a row refuses
turned : {h : Carried} {w : World} {reader page slot : ℕ} (refusal : Refusal)
    → verdict (read_rows (core_of h w.work) (body_of w) reader page slot) ≡ verdict_of (number_of refusal)
    → Readable h w reader page slot (Err refusal)
turned refusal rows = record { rows = rows; ready = λ s is. cc }

module _ (h : Carried) (w : World) (reader page slot : ℕ) where
  abbrev c : Core
  c = core_of h w.work

  abbrev rest : List Row
  rest = row 8 (slot_missing c.sizes page slot) ∷ row 9 (reader_not_open c reader) ∷ row 11 (locked c (body_of w) reader page slot) ∷ []

  rows_are : read_rows c (body_of w) reader page slot ≡ view_rows (slot_fits page slot c) c (body_of w) rest
  unfolding read_rows
  rows_are = refl

  pub readable_first : (refusal : Refusal) → number_of refusal ≡ first_row h w → Readable h w reader page slot (Err refusal)
  readable_first refusal answer = turned refusal (ap verdict rows_are ∙ first_refused h w refusal answer (slot_fits page slot c) rest)

  module _ (passed : 0 ≡ first_row h w) {f : Result Slot Refusal} (finds : Finds c page slot f) where
    later : verdict (read_rows c (body_of w) reader page slot) ≡ verdict (row 1 (not (slot_fits page slot c)) ∷ row 2 (anchor_wrong w.anchor) ∷ rest)
    later = ap verdict rows_are ∙ first_passed h w passed (slot_fits page slot c) rest

    pub readable_unfit : row_in f ≡ 1 → Readable h w reader page slot (Err Stage)
    unfolding verdict
    readable_unfit one = turned Stage (later ∙ rw (unfit_slot finds one) refl)

    module _ (fits : row_in f ≡ 1 → ⊥) where
      pub readable_unanchored : (length w.anchor ≡ anchor_words → ⊥) → Readable h w reader page slot (Err AnchorLength)
      unfolding verdict
      readable_unanchored other = turned AnchorLength (later ∙ rw (fit_slot finds fits, anchor_other w other) refl)

      module _ (anchored : length w.anchor ≡ anchor_words) where
        pub readable_missing : (refusal : Refusal) → f ≡ Err refusal → Readable h w reader page slot (Err refusal)
        unfolding verdict
        readable_missing refusal gone =
            let missing = missing_slot finds fits (λ none. numbered refusal (sym (ap row_in gone) ∙ none)) in
            let eight : number_of refusal ≡ 8 = sym (ap row_in gone) ∙ finds.refusal ∙ rw missing refl in
            turned refusal (later ∙ rw (fit_slot finds fits, anchor_right w anchored, missing, eight) refl)

        module _ {s : Slot} (there : f ≡ Ok s) where
          pub readable_unopened : reader_not_open c reader ≡ true → Readable h w reader page slot (Err NotOpen)
          unfolding verdict
          readable_unopened shut =
              turned NotOpen (later ∙ rw (fit_slot finds fits, anchor_right w anchored, found_slot finds (ap row_in there), shut) refl)

          module _ (opened : reader_not_open c reader ≡ false) {b : Bool}
              (owned : b ≡ (in_table c.table (owner_of c.sizes (drop head_words w.work) s.at) && not (eqb (owner_of c.sizes (drop head_words w.work) s.at) reader)))
            where
              abbrev found : SlotOf c page slot s
              found = finds.ready s there

              decided : verdict (read_rows c (body_of w) reader page slot) ≡ verdict (row 11 b ∷ [])
              unfolding verdict
              decided =
                  later
                  ∙ rw (fit_slot finds fits, anchor_right w anchored, found_slot finds (ap row_in there), opened, locked_here h w reader page slot found.place owned) refl

              pub readable_locked : b ≡ true → Readable h w reader page slot (Err Held)
              unfolding verdict
              readable_locked held = turned Held (decided ∙ rw held refl)

              pub readable_found : b ≡ false → Readable h w reader page slot (Ok s)
              unfolding verdict
              readable_found loose =
                  record {
                    rows = decided ∙ rw loose refl;
                    ready =
                        λ r is.
                        subst (λ (r : Slot). Reads h w page slot r) (ok_same is)
                        (record { slot_of = found; within = slot_within h w (ready h w passed) finds there; own = own h w passed });
                  }

-- What a read gives.
module _ (h : Carried) (w : World) {reader page slot : ℕ} {r : Result Slot Refusal} (reads : Readable h w reader page slot r) where
  module _ (refusal : Refusal) (turned_away : r ≡ Err refusal) where
    pub read_refused : Serves (look (read reader page slot)) h w (record { answer = Refused (number_of refusal) 0 0; carried = h }) 0 w
    read_refused =
        shown_refused (look (read reader page slot)) h w
        (reads.rows ∙ rw (turned_away, ne_eqb (number_of refusal) 0 (numbered refusal)) refl) refl

    -- an empty part
    pub read_none : [] ≡ read_words (core_of h w.work) (body_of w) reader page slot
    unfolding read_words
    read_none = rw (reads.rows, turned_away, ne_eqb (number_of refusal) 0 (numbered refusal)) refl

  module _ {s : Slot} (there : r ≡ Ok s) where
    taken : verdict (read_rows (core_of h w.work) (body_of w) reader page slot) ≡ accepted
    taken = reads.rows ∙ rw there refl

    pub read_finished : Serves (look (read reader page slot)) h w (record { answer = Finished 0 0; carried = h }) 0 w
    unfolding look_task body_of
    read_finished =
        let own = (reads.ready s there).own in
        shown_finished (look (read reader page slot)) h w taken refl refl
        (ap (λ (x : Carried). when_shut x.stage) (carried_back h w.work) ∙ (own_work_lem h w.work own).serving)
        (sym (take-append-drop head_words w.work) ∙ ap (λ (head : List ℕ). head ++ drop head_words w.work) (sym (head_whole h w.work own)))
        (sym (carried_back h w.work)) refl

    pub read_words_lem : {words : List ℕ} → words ≡ part s.at s.width w.pages → words ≡ read_words (core_of h w.work) (body_of w) reader page slot
    unfolding read_words slot_words body_of
    read_words_lem e = let found = (reads.ready s there).slot_of in e ∙ rw (taken, found.width, found.place) refl
