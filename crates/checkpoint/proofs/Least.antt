-- The least first position of a disk's open transactions, place by place.
use mathlib.Core.Path.{◌≡◌}
use mathlib.Core.Bool.{true, false, ◌&&◌}
use Prim.Native.Nat.{ℕ, zero, suc, ◌+◌, ◌≤◌, min}
use native.Mathlib.Numerals.{add-one}
use native.Mathlib.Omega.{arith}
use Rattle.model.specs.declared.Table.{Table}
use Rattle.model.specs.State.{first_at, served_by, has_update}
use Rattle.model.specs.Checkpoint.{least_first}

module _ (t : Table) (disk remembered : ℕ) where
  least_low : (n : ℕ) → least_first t disk remembered n ≤ remembered
  unfolding least_first
  least_low zero = omega arith
  least_low (suc n) = omega (arith, least_low n)

  module _ (i : ℕ) {least : ℕ} (before : least ≡ least_first t disk remembered i) where
    pub least_taken : served_by t disk i && has_update t i ≡ true → min least (first_at t i) ≡ least_first t disk remembered (i + 1)
    unfolding least_first
    least_taken e = rw (add-one, e, before)

    pub least_passed : served_by t disk i && has_update t i ≡ false → least ≡ least_first t disk remembered (i + 1)
    unfolding least_first
    least_passed e = rw (add-one, e) (omega (arith, before, least_low i))
