-- `times` is safe: the product of two numbers up to 65,537 fits.
use Prim.Native.Nat.{ℕ, ◌≤◌, ◌<◌, ◌*◌, ◌^◌}
use native.Mathlib.Nat.{mul-le-mul_left, mul-le-mul_right}
use native.Mathlib.Omega.{arith}
use borrow.Author.Rules.{rules}
use Rattle.trial_table.proofs.words.times.Goals as goal

fits : (a b : ℕ) → a ≤ 65537 → b ≤ 65537 → a * b < 2 ^ 64
fits a b h k = omega (arith, mul-le-mul_left a k, mul-le-mul_right 65537 h)

pub overflow_mul-result : goal.overflow_mul-result
overflow_mul-result c = record { fits = fits _ _ (search rules) (search rules) }
