-- Whose the lent work memory is, by its length.
use mathlib.Core.Path.{◌≡◌, refl, sym}
use mathlib.Core.List.{List}
use mathlib.Core.Bool.{Bool, true, false, not, ◌&&◌}
use Prim.Native.Nat.{ℕ, ◌+◌, ◌*◌}
use lib.Dec.{eqb}
use lib.ListN.{length}
use borrow.Author.Tests.{eqb-true, eqb-false, eq-eqb, ne_eqb}
use Rattle.model.specs.declared.Carried.{Carried}
use Rattle.model.specs.Memory.{buffer_at, copy_at, owner_at, work_words}
use Rattle.model.specs.Causes.{when_shut}
use Rattle.model.specs.View.{head_words, own_work}

-- two tests of numbers are one
pub eqb_same : (a b m n : ℕ) → (a ≡ b → m ≡ n) → (m ≡ n → a ≡ b) → eqb a b ≡ eqb m n
eqb_same a b m n f g = go (eqb a b) refl
  where
    go : (t : Bool) → eqb a b ≡ t → t ≡ eqb m n
    go true e = sym (eq-eqb m n (f (eqb-true a b e)))
    go false e = sym (ne_eqb m n (λ q. eqb-false a b e (g q)))

and-false : (b : Bool) → (b && false) ≡ false
and-false true = refl
and-false false = refl

-- the length that a state's own work memory has
abbrev pub own_length : Carried → ℕ
own_length h = head_words + (64 * h.disks + 64 + h.total)

module _ (h : Carried) (work : List ℕ) where
  by_numbers : own_work h work ≡ not (when_shut h.stage) && eqb (length work) (own_length h)
  unfolding own_work work_words owner_at copy_at buffer_at
  by_numbers = refl

  pub shut_owns_none : when_shut h.stage ≡ true → false ≡ own_work h work
  shut_owns_none e = rw (by_numbers, e) refl

  pub other_length : (length work ≡ own_length h → ⊥) → false ≡ own_work h work
  other_length n = rw (by_numbers, ne_eqb (length work) (own_length h) n) (sym (and-false (not (when_shut h.stage))))

  pub by_length : when_shut h.stage ≡ false → eqb (length work) (own_length h) ≡ own_work h work
  by_length e = rw (by_numbers, e) refl
