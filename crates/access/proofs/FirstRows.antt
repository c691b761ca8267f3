-- The first rows of a call on a slot: what is known of the numbers, of the head and of a slot that was found.
use mathlib.Core.Path.{◌≡◌, refl, sym, ap, ◌∙◌}
use mathlib.Core.List.{List, ◌∷◌}
use mathlib.Core.Bool.{Bool, true, false, cond, not}
use Prim.Native.Nat.{ℕ, ◌+◌, ◌≤◌, ◌<◌}
use native.Mathlib.Omega.{arith}
use lib.ListN.{length}
use borrow.Author.Tests.{ne_eqb}
use Rattle.model.specs.declared.Core.{Core}
use Rattle.model.specs.declared.Carried.{Carried}
use Rattle.model.specs.World.{World}
use Rattle.model.specs.Memory.{buffer_at}
use Rattle.model.specs.Refusal.{Row, row, verdict}
use Rattle.model.specs.Causes.{when_serving, anchor_wrong, slot_missing}
use Rattle.model.specs.Reads.{slot_fits}
use Rattle.model.specs.View.{head_words, own_work, core_of, body_of}
use Rattle.model.proofs.View.Head.{carried_back}
use Rattle.frame.specs.Checks.{verdict_of}
use Rattle.frame.specs.Lent.{lent_refusal}
use Rattle.frame.proofs.FirstChecks.{view_rows, Ready, lent_refused, lent_passed, lent_ready, own_ready}
use Rattle.frame.proofs.Fitting.{Slotted, slot_none, slot_has}
use Rattle.frame.specs.declared.refusal.Refusal.{Refusal}
use Rattle.frame.specs.Refusal.{number_of, row_in}
use Rattle.frame.proofs.Refusals.{numbered}
use Rattle.std.specs.Prelude.{Result, Ok}
use Rattle.access.specs.declared.slots.Slot.{Slot}
use Rattle.access.specs.Slots.{Finds}

-- the number that the first checks answer
abbrev pub first_row : Carried → World → ℕ
first_row h w =
    lent_refusal (when_serving h.stage) h.pages h.disks h.ring h.total (length w.anchor) (length w.pages) (length w.backups) (length w.logs) (length w.work)

module _ (h : Carried) (w : World) where
  pub first_refused : (refusal : Refusal) → number_of refusal ≡ first_row h w → (test : Bool) (rest : List Row)
      → verdict (view_rows test (core_of h w.work) (body_of w) rest) ≡ verdict_of (number_of refusal)
  first_refused refusal answer test rest =
      lent_refused h w answer (numbered refusal) test rest ∙ rw (ne_eqb (number_of refusal) 0 (numbered refusal)) refl

  module _ (passed : 0 ≡ first_row h w) where
    pub first_passed : (test : Bool) (rest : List Row)
        → verdict (view_rows test (core_of h w.work) (body_of w) rest) ≡ verdict (row 1 (not test) ∷ row 2 (anchor_wrong w.anchor) ∷ rest)
    first_passed test rest = lent_passed h w passed refl test rest

    pub ready : Ready h w
    ready = lent_ready h w passed refl

    pub own : own_work h w.work ≡ true
    own = own_ready h w ready

    pub numbers_fit : (h.pages ≤ 64) × (h.total ≤ 8192) × (head_words ≤ length w.work)
    numbers_fit = (ready.counts.pages_max, ready.counts.total_max, omega (arith, ready.work))

-- What the number says that a slot was found with.
module _ {c : Core} {page slot : ℕ} {r : Result Slot Refusal} (finds : Finds c page slot r) where
  by_tests : {X : Type 0} → ((m f : Bool) → slot_missing c.sizes page slot ≡ m → slot_fits page slot c ≡ f → row_in r ≡ cond m 8 (cond f 0 1) → X) → X
  by_tests k = k (slot_missing c.sizes page slot) (slot_fits page slot c) refl refl finds.refusal

  pub unfit_slot : row_in r ≡ 1 → slot_fits page slot c ≡ false
  unfit_slot one = by_tests go
    where
      go : (m f : Bool) → slot_missing c.sizes page slot ≡ m → slot_fits page slot c ≡ f → row_in r ≡ cond m 8 (cond f 0 1)
          → slot_fits page slot c ≡ false
      go true f e g z = absurd (omega (arith, one, z))
      go false true e g z = absurd (omega (arith, one, z))
      go false false e g z = g

  pub fit_slot : (row_in r ≡ 1 → ⊥) → slot_fits page slot c ≡ true
  fit_slot other = by_tests go
    where
      go : (m f : Bool) → slot_missing c.sizes page slot ≡ m → slot_fits page slot c ≡ f → row_in r ≡ cond m 8 (cond f 0 1)
          → slot_fits page slot c ≡ true
      go true f e g z = sym (slot_none c page slot e)
      go false true e g z = g
      go false false e g z = absurd (other z)

  pub missing_slot : (row_in r ≡ 1 → ⊥) → (row_in r ≡ 0 → ⊥) → slot_missing c.sizes page slot ≡ true
  missing_slot other some = by_tests go
    where
      go : (m f : Bool) → slot_missing c.sizes page slot ≡ m → slot_fits page slot c ≡ f → row_in r ≡ cond m 8 (cond f 0 1)
          → slot_missing c.sizes page slot ≡ true
      go true f e g z = e
      go false true e g z = absurd (some z)
      go false false e g z = absurd (other z)

  module _ (none : row_in r ≡ 0) where
    pub found_slot : slot_missing c.sizes page slot ≡ false
    found_slot = by_tests go
      where
        go : (m f : Bool) → slot_missing c.sizes page slot ≡ m → slot_fits page slot c ≡ f → row_in r ≡ cond m 8 (cond f 0 1)
            → slot_missing c.sizes page slot ≡ false
        go true f e g z = absurd (omega (arith, none, z))
        go false f e g z = e

    pub slotted : Slotted c page slot
    slotted = slot_has c page slot found_slot (fit_slot (λ one. absurd (omega (arith, none, one))))

-- A slot that was found lies within the page memory, and its owner within the work memory.
module _ (h : Carried) (w : World) (lent : Ready h w) {page slot : ℕ} {r : Result Slot Refusal} (finds : Finds (core_of h w.work) page slot r)
    {s : Slot} (there : r ≡ Ok s) where
  pub slot_ends : s.at + s.width ≤ h.total
  slot_ends =
      let same = ap (λ (x : Carried). x.total) (carried_back h w.work) in
      let of = finds.ready s there in
      omega (arith, of.place, of.width, (slotted finds (ap row_in there)).end_within_lem, same)

  pub slot_within : s.at + s.width ≤ length w.pages
  slot_within = omega (arith, slot_ends, lent.pages)

  pub owner_within : (h.disks ≤ 8) × (s.at < 8192) × (head_words + (buffer_at h.disks + 64 + s.at) < length w.work)
  unfolding buffer_at
  owner_within =
      let some = (slotted finds (ap row_in there)).width_min in
      let wide = (finds.ready s there).width in
      (lent.counts.disks_max, omega (arith, slot_ends, some, wide, lent.counts.total_max), omega (arith, slot_ends, some, wide, lent.work))
