-- Whose work memory it is: the lengths that a call tests tell it.
use mathlib.Core.Path.{◌≡◌, refl, sym, ◌∙◌}
use mathlib.Core.List.{List}
use mathlib.Core.Bool.{true, false}
use Prim.Native.Nat.{ℕ, ◌+◌, ◌*◌, ◌<◌}
use native.Mathlib.Omega.{arith}
use lib.Dec.{eqb}
use lib.ListN.{length, drop, length-drop}
use borrow.Author.Tests.{eqb-true, eq-eqb, not-false}
use Rattle.model.specs.declared.Carried.{Carried}
use Rattle.model.specs.World.{World}
use Rattle.model.specs.Memory.{buffer_at, copy_at, owner_at, work_words}
use Rattle.model.specs.Causes.{when_shut, lengths_wrong}
use Rattle.model.specs.View.{head_words, own_work, core_of, body_of}
use Rattle.model.proofs.Booleans.{both_ways}
use Rattle.model.proofs.Lengths.{lengths_right_lem}

-- the body's length tested, by the length of the whole
pub body_long : (work : List ℕ) (n : ℕ) → 0 < n → eqb (length (drop head_words work)) n ≡ eqb (length work) (head_words + n)
body_long work n some =
    both_ways (eqb (length (drop head_words work)) n) (eqb (length work) (head_words + n))
    (λ e. eq-eqb (length work) (head_words + n) (omega (arith, eqb-true (length (drop head_words work)) n e, length-drop head_words work, some)))
    (λ e. eq-eqb (length (drop head_words work)) n (omega (arith, eqb-true (length work) (head_words + n) e, length-drop head_words work)))

-- a state that is not shut, lent a work memory of its length
pub own_body : (h : Carried) (w : World) → when_shut h.stage ≡ false
    → length (body_of w).work ≡ work_words (core_of h w.work).sizes (core_of h w.work).bases.total → own_work h w.work ≡ true
unfolding own_work core_of body_of work_words owner_at copy_at buffer_at
own_body h w serving long =
    let n : ℕ = 64 * h.disks + 64 + h.total in
    rw (serving, sym (body_long w.work n (omega arith)) ∙ eq-eqb (length (drop head_words w.work)) n long) refl

-- or lent slices that pass row 5
pub own_lent : (h : Carried) (w : World) → when_shut h.stage ≡ false
    → lengths_wrong (core_of h w.work).sizes (core_of h w.work).bases.total (body_of w) ≡ false → own_work h w.work ≡ true
unfolding lengths_wrong
own_lent h w serving e =
    own_body h w serving (lengths_right_lem (core_of h w.work).sizes (core_of h w.work).bases.total (body_of w) (not-false _ e)).work
