-- Bytes put in front of what is there: one, and the digits of a number.
use Prim.Native.Nat.{ℕ, suc, ◌+◌, ◌-◌, ◌/◌, ◌%◌, ◌<◌, ◌≤◌}
use mathlib.Core.Path.{◌≡◌, ap, ◌∙◌}
use mathlib.Core.List.{List, ◌∷◌, ◌++◌, append_assoc}
use native.Mathlib.Numerals.{add-one}
use native.Mathlib.Omega.{arith}
use lib.ListN.{length, drop, set, length-set, length-append, length-drop}
use lib.Seq.{drop-cons, drop-set-lt, get_or-set_same}
use borrow.Author.Tests.{lt-ltb, le-ltb}
use Rattle.model.specs.Text.{last_digits}

-- What was put ends where the rest starts.
pub put_ends : (l m piece : List ℕ) (r end : ℕ) → r ≤ end → end ≤ length m → length l ≡ length m → drop r l ≡ piece ++ drop end m →
    r + length piece ≡ end
put_ends l m piece r end below inside same e =
    let q = simp (length-append, length-drop) at (ap length e) in
    omega arith

-- a byte
pub byte_put : (l : List ℕ) (i x : ℕ) → i < length l → drop i (set l i x) ≡ x ∷ drop (i + 1) l
byte_put l i x h =
    let k : i < length (set l i x) = rw length-set h in
    rw (add-one i) (drop-cons (set l i x) i 0 k ∙ rw (get_or-set_same l i x 0 h, drop-set-lt (suc i) l i x (omega arith)))

-- the byte before a place
pub byte_before : (l : List ℕ) (i x : ℕ) → 1 ≤ i → i ≤ length l → drop (i - 1) (set l (i - 1) x) ≡ x ∷ drop i l
byte_before l i x pos h =
    let e : i - 1 + 1 ≡ i = omega arith in
    rw e at (byte_put l (i - 1) x (omega arith))

module _ (l : List ℕ) (i least rest : ℕ) (above : least < i) (inside : i ≤ length l) where
  pub digit_last : rest < 10 → last_digits (i - least) rest ++ drop i l ≡ drop (i - 1) (set l (i - 1) (48 + rest % 10))
  unfolding last_digits
  digit_last h =
      let e : i - least ≡ suc (i - 1 - least) = omega arith in
      rw (e, lt-ltb rest 10 h, byte_before l i (48 + rest % 10) (omega arith) inside)

  pub digit_more : 10 ≤ rest →
      last_digits (i - 1 - least) (rest / 10) ++ drop (i - 1) (set l (i - 1) (48 + rest % 10)) ≡ last_digits (i - least) rest ++ drop i l
  unfolding last_digits
  digit_more h =
      let e : i - least ≡ suc (i - 1 - least) = omega arith in
      rw (e, le-ltb rest 10 h, append_assoc, byte_before l i (48 + rest % 10) (omega arith) inside)

pub digits_none : (l : List ℕ) (i least rest : ℕ) → i ≤ least → last_digits (i - least) rest ++ drop i l ≡ drop i l
unfolding last_digits
digits_none l i least rest h = let e : i - least ≡ 0 = omega arith in rw e
