-- The first checks of a call that takes its state in two parts, for the stages that allow it: which row applies, and what is known
-- where none does.
use mathlib.Core.Path.{◌≡◌, refl, sym, ◌∙◌}
use mathlib.Core.List.{List, ◌∷◌}
use mathlib.Core.Bool.{Bool, true, false, cond, not, ◌&&◌, ◌||◌}
use Prim.Native.Nat.{ℕ, ◌+◌, ◌-◌, ◌*◌}
use native.Mathlib.Omega.{arith}
use lib.Dec.{eqb}
use lib.ListN.{length, length-drop}
use borrow.Author.Tests.{eqb-true, eq-eqb, ne_eqb}
use Rattle.model.specs.declared.Stage.{Stage}
use Rattle.model.specs.declared.Stage.TheVariants.{Shut}
use Rattle.model.specs.declared.Carried.{Carried}
use Rattle.model.specs.Sizes.{counts_in_bounds, log_words, disk_at}
use Rattle.model.specs.Anchor.{anchor_words}
use Rattle.model.specs.World.{World}
use Rattle.model.specs.Memory.{buffer_at, copy_at, owner_at, work_words, lengths_right}
use Rattle.model.specs.Refusal.{Row, row, verdict, rejected}
use Rattle.model.specs.Causes.{when_shut, stage_forbids, anchor_wrong, lengths_wrong}
use Rattle.model.specs.Reads.{counts_fit, fits_on}
use Rattle.model.specs.View.{head_words, own_work, core_of, body_of}
use Rattle.model.proofs.Booleans.{all_four}
use Rattle.model.proofs.Store.Rows.{not_shut}
use Rattle.layout.specs.Raw.{lengths_are}
use Rattle.frame.specs.Checks.{common_rows}
use Rattle.frame.specs.Fits.{counts_within}
use Rattle.frame.specs.Lent.{lent_refusal}
use Rattle.frame.proofs.Fitting.{Counted, counted}

by_tests : (allowed counts right anchor test : Bool) (rest : List Row)
    → verdict (row 1 (not (allowed && (counts && (not right || test)))) ∷ row 2 (not anchor) ∷ row 5 (not right) ∷ rest)
    ≡ cond (eqb (cond (allowed && counts) (cond right 0 (cond anchor 5 2)) 1) 0) (verdict (row 1 (not test) ∷ row 2 (not anchor) ∷ rest))
    (rejected (cond (allowed && counts) (cond right 0 (cond anchor 5 2)) 1) 0 0)
unfolding verdict
by_tests false counts right anchor test rest = refl
by_tests true false right anchor test rest = refl
by_tests true true false true test rest = refl
by_tests true true false false test rest = refl
by_tests true true true anchor true rest = refl
by_tests true true true anchor false rest = refl

-- What is known where the first checks answer 0.
pub record LentReady (allowed : Stage → Bool) (h : Carried) (w : World) : Type 0 where
  pub stage : allowed h.stage ≡ true
  pub counts : Counted h.pages h.disks h.ring h.total
  pub pages : length w.pages ≡ h.total
  pub logs : length w.logs ≡ h.disks * (h.ring + 1)
  pub work : length w.work ≡ head_words + (64 * h.disks + 64 + h.total)

module _ (allowed : Stage → Bool) (h : Carried) (w : World) {r : ℕ}
    (answer : r ≡ lent_refusal (allowed h.stage) h.pages h.disks h.ring h.total (length w.anchor) (length w.pages) (length w.backups) (length w.logs) (length w.work))
  where
    decides : (test : Bool) (rest : List Row)
        → verdict (common_rows allowed test (core_of h w.work) (body_of w) rest)
        ≡ cond (eqb r 0) (verdict (row 1 (not test) ∷ row 2 (anchor_wrong w.anchor) ∷ rest)) (rejected r 0 0)
    unfolding lent_refusal counts_within lengths_are stage_forbids fits_on counts_fit counts_in_bounds anchor_wrong lengths_wrong lengths_right log_words disk_at work_words owner_at copy_at buffer_at core_of body_of
    decides test rest =
        rw (answer, length-drop head_words w.work)
        (by_tests (allowed h.stage) (counts_within h.pages h.disks h.ring h.total)
        (lengths_are h.disks h.ring h.total (length w.pages) (length w.backups) (length w.logs) (length w.work - head_words))
        (eqb (length w.anchor) anchor_words) test rest)

    -- they refuse
    pub first_refused : (r ≡ 0 → ⊥) → (test : Bool) (rest : List Row)
        → verdict (common_rows allowed test (core_of h w.work) (body_of w) rest) ≡ rejected r 0 0
    first_refused some test rest = decides test rest ∙ rw (ne_eqb r 0 some) refl

    module _ (none : r ≡ 0) where
      -- they do not, and the call's test and the anchor are next
      pub first_passed : (test : Bool) (rest : List Row)
          → verdict (common_rows allowed test (core_of h w.work) (body_of w) rest) ≡ verdict (row 1 (not test) ∷ row 2 (anchor_wrong w.anchor) ∷ rest)
      first_passed test rest = decides test rest ∙ rw (eq-eqb r 0 none) refl

      pub first_ready : LentReady allowed h w
      unfolding lent_refusal lengths_are log_words disk_at work_words owner_at copy_at buffer_at
      first_ready =
          go (allowed h.stage) (counts_within h.pages h.disks h.ring h.total)
          (lengths_are h.disks h.ring h.total (length w.pages) (length w.backups) (length w.logs) (length w.work - head_words))
          (eqb (length w.anchor) anchor_words) refl refl refl (sym answer ∙ none)
        where
          go : (a n d b : Bool) → allowed h.stage ≡ a → counts_within h.pages h.disks h.ring h.total ≡ n
              → lengths_are h.disks h.ring h.total (length w.pages) (length w.backups) (length w.logs) (length w.work - head_words) ≡ d
              → ◌≡◌ {A = ℕ} (cond (a && n) (cond d 0 (cond b 5 2)) 1) 0 → LentReady allowed h w
          go false n d b e f g z = absurd (omega (arith, z))
          go true false d b e f g z = absurd (omega (arith, z))
          go true true false true e f g z = absurd (omega (arith, z))
          go true true false false e f g z = absurd (omega (arith, z))
          go true true true b e f g z =
              let l =
              all_four (eqb (length w.pages) h.total) (eqb (length w.backups) (2 * h.total)) (eqb (length w.logs) (h.disks * (h.ring + 1)))
              (eqb (length w.work - head_words) (64 * h.disks + 64 + h.total)) g in
              record {
                stage = e;
                counts = counted f;
                pages = eqb-true _ _ l.0;
                logs = eqb-true _ _ l.2;
                work = omega (arith, eqb-true (length w.work - head_words) (64 * h.disks + 64 + h.total) l.3);
              }

-- So the state is not shut, the work memory is its own, and every word of the head is the view's.
module _ (allowed : Stage → Bool) (closed : allowed Shut ≡ false) (h : Carried) (w : World) (ready : LentReady allowed h w) where
  pub first_open : when_shut h.stage ≡ false
  first_open = not_shut allowed closed h.stage ready.stage

  pub first_own : own_work h w.work ≡ true
  unfolding own_work work_words owner_at copy_at buffer_at
  first_own = rw (first_open, eq-eqb (length w.work) (head_words + (64 * h.disks + 64 + h.total)) ready.work) refl
