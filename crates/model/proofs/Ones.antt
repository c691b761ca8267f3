-- The bits of a difference: those that are 1 are the places in which its two values differ.
use mathlib.Core.Path.{◌≡◌, refl, sym, ap, ap₂, ◌∙◌}
use Prim.Native.Nat.{ℕ, zero, suc, ◌+◌, ◌/◌, ◌%◌, ◌^◌, ◌<◌}
use mathlib.Core.List.{List, [], ◌∷◌}
use mathlib.Core.Bool.{cond}
use native.Mathlib.Nat.{suc-add, zero-add, div-one}
use native.Mathlib.Numerals.{add-one}
use native.Mathlib.Omega.{arith}
use lib.Dec.{eqb}
use lib.Pow.{shr_lt, shr-shr}
use lib.Bits.{differ, xor_shr}
use lib.Count.{ones, ones_step, ones-le}
use lib.ListN.{length}
use Rattle.model.specs.Below.{sum_below, sum_over}
use Rattle.model.specs.Word.{◌⊕◌, xors, ones_over, bit_at, places_differing, OfBits}
use Rattle.model.proofs.Below.{sum_cong, sum_first}
use Rattle.model.proofs.Xor.{bit_lt, xor_low, ⊕-lt}

-- the bits of a number of k bits, one by one
ones_bits : (k x : ℕ) → x < 2 ^ k → ones x ≡ sum_below (λ b. x / 2 ^ b % 2) k
unfolding sum_below
ones_bits zero x h = let none = ones-le 0 x h in omega (arith, none)
ones_bits (suc k) x h =
    ones_step x
    ∙ ap₂ (λ (m n : ℕ). m % 2 + n) (sym (div-one x))
    (ones_bits k (x / 2) (shr_lt k 1 (rw add-one h))
    ∙ sum_cong (λ b. x / 2 / 2 ^ b % 2) (λ b. x / 2 ^ suc b % 2) k (λ b below. ap (λ (n : ℕ). n % 2) (shr-shr x 1 b ∙ rw (suc-add, zero-add))))
    ∙ sym (sum_first (λ b. x / 2 ^ b % 2) k)

-- two bits differ, or they do not
differ_cond : (x y : ℕ) → x < 2 → y < 2 → differ x y ≡ cond (eqb x y) 0 1
differ_cond zero zero p q = refl
differ_cond zero (suc zero) p q = refl
differ_cond zero (suc (suc y)) p q = absurd (omega arith)
differ_cond (suc zero) zero p q = refl
differ_cond (suc zero) (suc zero) p q = refl
differ_cond (suc zero) (suc (suc y)) p q = absurd (omega arith)
differ_cond (suc (suc x)) y p q = absurd (omega arith)

-- a word
word_differs : (k x y : ℕ) → x < 2 ^ k → y < 2 ^ k → ones (x ⊕ y) ≡ sum_below (λ b. cond (eqb (x / 2 ^ b % 2) (y / 2 ^ b % 2)) 0 1) k
unfolding ◌⊕◌
word_differs k x y p q =
    ones_bits k _ (⊕-lt k x y p q)
    ∙ sum_cong _ _ k (λ b below.
    ap (λ (n : ℕ). n % 2) (xor_shr x y b) ∙ xor_low (x / 2 ^ b) (y / 2 ^ b) ∙ differ_cond _ _ (bit_lt (x / 2 ^ b)) (bit_lt (y / 2 ^ b)))

-- Lists of words of k bits, of whatever length: "how many of its bits are 1 over all its words" is in how many places (word, bit) the
-- two values differ.
pub ones_differ : (k : ℕ) (before after : List ℕ) → length before ≡ length after → OfBits k before → OfBits k after
    → ones_over (xors before after) ≡ places_differing k before after
unfolding ones_over sum_over xors places_differing bit_at OfBits sum_below
ones_differ k [] [] e p q = refl
ones_differ k [] (y ∷ ys) e p q = absurd (omega arith)
ones_differ k (x ∷ xs) [] e p q = absurd (omega arith)
ones_differ k (x ∷ xs) (y ∷ ys) e p q =
    ap₂ (λ (m n : ℕ). m + n) (word_differs k x y (p 0) (q 0)) (ones_differ k xs ys (omega arith) (λ i. p (suc i)) (λ i. q (suc i)))
    ∙ sym (sum_first (λ i. sum_below (λ b. cond (eqb (bit_at (x ∷ xs) i b) (bit_at (y ∷ ys) i b)) 0 1) k) (length ys))
