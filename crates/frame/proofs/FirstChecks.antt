-- The first checks of a serving call that takes its state in two parts: which row applies, and what is known where none does.
use mathlib.Core.Path.{◌≡◌, refl}
use mathlib.Core.List.{List, ◌∷◌}
use mathlib.Core.Bool.{Bool, true, false, not}
use Prim.Native.Nat.{ℕ}
use lib.ListN.{length}
use Rattle.model.specs.declared.Core.{Core}
use Rattle.model.specs.declared.Carried.{Carried}
use Rattle.model.specs.World.{World}
use Rattle.model.specs.Refusal.{Row, row, verdict, rejected}
use Rattle.model.specs.Causes.{when_shut, when_serving, anchor_wrong}
use Rattle.model.specs.View.{own_work, core_of, body_of}
use Rattle.frame.specs.Checks.{common_rows}
use Rattle.frame.specs.Lent.{lent_refusal}
use Rattle.frame.proofs.LentChecks.{LentReady, first_refused, first_passed, first_ready, first_open, first_own}

-- a call's rows: 1, 2 and 5, and the rest; row 1 with the test that the call makes of a state where the lengths are right
abbrev pub view_rows : (test : Bool) → Core → World → List Row → List Row
view_rows = common_rows when_serving

-- What is known where the first checks answer 0.
abbrev pub Ready : (h : Carried) (w : World) → Type 0
Ready h w = LentReady when_serving h w

module _ (h : Carried) (w : World) {r : ℕ}
    (answer : r ≡ lent_refusal (when_serving h.stage) h.pages h.disks h.ring h.total (length w.anchor) (length w.pages) (length w.backups) (length w.logs) (length w.work))
  where
    -- they refuse
    pub lent_refused : (r ≡ 0 → ⊥) → (test : Bool) (rest : List Row)
        → verdict (view_rows test (core_of h w.work) (body_of w) rest) ≡ rejected r 0 0
    lent_refused = first_refused when_serving h w answer

    module _ (none : r ≡ 0) where
      -- they do not, and the call's test and the anchor are next
      pub lent_passed : (test : Bool) (rest : List Row)
          → verdict (view_rows test (core_of h w.work) (body_of w) rest) ≡ verdict (row 1 (not test) ∷ row 2 (anchor_wrong w.anchor) ∷ rest)
      lent_passed = first_passed when_serving h w answer none

      pub lent_ready : Ready h w
      lent_ready = first_ready when_serving h w answer none

-- So the state is not shut, the work memory is its own, and every word of the head is the view's.
pub serving_ready : (h : Carried) (w : World) → Ready h w → when_shut h.stage ≡ false
serving_ready h w ready = first_open when_serving refl h w ready

pub own_ready : (h : Carried) (w : World) → Ready h w → own_work h w.work ≡ true
own_ready h w ready = first_own when_serving refl h w ready
