-- Decimal numbers and fields: how long they are, and that they can be read back.
use mathlib.Core.Path.{◌≡◌, refl, ◌∙◌}
use mathlib.Core.List.{List, [], ◌∷◌, ◌++◌}
use mathlib.Core.Bool.{Bool, true, false, cond}
use Prim.Native.Nat.{ℕ, zero, suc, ◌+◌, ◌*◌, ◌-◌, ◌/◌, ◌%◌, ◌^◌, ◌≤◌, ◌<◌}
use native.Mathlib.Omega.{arith}
use native.Mathlib.Nat.{pow-suc}
use lib.Dec.{ltb}
use lib.ListN.{length, replicate, length-append, length-replicate}
use borrow.Author.Tests.{ltb-true, ltb-false}
use Rattle.model.specs.Text.{last_digits, decimal, padded}

-- A text that fits its columns fills them.
pub length_padded : (columns : ℕ) (text : List ℕ) → length text ≤ columns → length (padded columns text) ≡ columns
unfolding padded
length_padded columns text h = rw (length-append, length-replicate) (omega arith)

-- a number has at most as many digits as are asked for
pub digits_most : (most n : ℕ) → length (last_digits most n) ≤ most
unfolding last_digits
digits_most zero n = omega arith
digits_most (suc most) n = rw length-append (go (ltb n 10) (digits_most most (n / 10)))
  where
    go : (b : Bool) → length (last_digits most (n / 10)) ≤ most
        → length (cond b [] (last_digits most (n / 10))) + 1 ≤ suc most
    go true l = omega arith
    go false l = omega arith

-- a number of two digits or more has one before its last
another : (k n : ℕ) → 10 ≤ n → n < 10 ^ k * 10 → 1 ≤ k
another zero n large below = omega arith
another (suc k) n large below = omega arith

-- A number below 10^k has at most k digits, so that asking for more changes nothing; 0 has one.
pub digits_enough : (k m n : ℕ) → 1 ≤ k → k ≤ m → n < 10 ^ k → last_digits k n ≡ last_digits m n
unfolding last_digits
digits_enough zero m n some more below = absurd (omega arith)
digits_enough (suc k) zero n some more below = absurd (omega arith)
digits_enough (suc k) (suc m) n some more below = go (ltb n 10) refl (digits_enough k m (n / 10))
  where
    go : (b : Bool) → ltb n 10 ≡ b → (1 ≤ k → k ≤ m → n / 10 < 10 ^ k → last_digits k (n / 10) ≡ last_digits m (n / 10))
        → cond b [] (last_digits k (n / 10)) ++ (48 + n % 10) ∷ [] ≡ cond b [] (last_digits m (n / 10)) ++ (48 + n % 10) ∷ []
    go true t rest = refl
    go false t rest =
        let large : 10 ≤ n = ltb-false n 10 t in
        let next : n < 10 ^ k * 10 = rw (pow-suc 10 k) at below in
        let front : n / 10 < 10 ^ k = omega arith in
        rw (rest (another k n large next) (omega arith) front)

pub digits_below : (most k n : ℕ) → suc k ≤ most → n < 10 ^ suc k → length (last_digits most n) ≤ suc k
digits_below most k n more h = rw (← digits_enough (suc k) most n (omega arith) more h) (digits_most (suc k) n)

-- The number that a text says. A blank adds nothing, as 32 is less than 48, so it can be read with the blanks before it.
abbrev pub said : (before : ℕ) → List ℕ → ℕ
said before [] = before
said before (c ∷ cs) = said (10 * before + (c - 48)) cs

said_last : (before : ℕ) (cs : List ℕ) (c : ℕ) → said before (cs ++ c ∷ []) ≡ 10 * said before cs + (c - 48)
said_last before [] c = refl
said_last before (d ∷ cs) c = said_last (10 * before + (d - 48)) cs c

said_blanks : (n : ℕ) (text : List ℕ) → said 0 (replicate n 32 ++ text) ≡ said 0 text
said_blanks zero text = refl
said_blanks (suc n) text = said_blanks n text

-- Digits say their number.
pub said_digits : (most n : ℕ) → n < 10 ^ most → said 0 (last_digits most n) ≡ n
unfolding last_digits
said_digits zero n h = omega arith
said_digits (suc most) n h =
    rw said_last (go (ltb n 10) refl (λ l. said_digits most (n / 10) l))
  where
    go : (b : Bool) → ltb n 10 ≡ b → (n / 10 < 10 ^ most → said 0 (last_digits most (n / 10)) ≡ n / 10)
        → 10 * said 0 (cond b [] (last_digits most (n / 10))) + (48 + n % 10 - 48) ≡ n
    go true e rest = omega (arith, ltb-true n 10 e)
    go false e rest = omega (arith, rest (omega (arith, rw pow-suc at h)))

pub said_padded : (columns n : ℕ) → n < 10 ^ 20 → said 0 (padded columns (decimal n)) ≡ n
unfolding padded
said_padded columns n h = said_blanks (columns - length (decimal n)) (decimal n) ∙ said_digits 20 n h
