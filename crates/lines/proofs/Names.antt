-- Bytes compared from the front, and the names of the commands.
use Prim.Native.Nat.{ℕ, suc, ◌<◌, ◌≤◌}
use mathlib.Core.Path.{◌≡◌, refl, ap}
use mathlib.Core.List.{List, [], ◌∷◌}
use mathlib.Core.Bool.{Bool, true, false, cond, and-false}
use native.Mathlib.Omega.{arith}
use lib.ListN.{length}
use lib.Dec.{eqb}
use borrow.Author.Tests.{ne_eqb}
use Rattle.std.specs.Cmp.Lexicographic.{pointwise}
use Rattle.std.specs.Prelude.{None}
use Rattle.lines.specs.Line.{same, without_numbers, set_of, commit_of, abort_of, get_of, form_without_numbers, form_of}

-- `==` on slices is the same
pub same_is : (a b : List ℕ) → same a b ≡ pointwise eqb a b
unfolding same
same_is [] [] = refl
same_is [] (y ∷ b) = refl
same_is (x ∷ a) [] = refl
same_is (x ∷ a) (y ∷ b) = rw (same_is a b)

-- lists of different lengths are not the same
pub same_lengths : (a b : List ℕ) → (length a ≡ length b → ⊥) → same a b ≡ false
unfolding same
same_lengths [] [] h = absurd (h refl)
same_lengths [] (y ∷ b) h = refl
same_lengths (x ∷ a) [] h = refl
same_lengths (x ∷ a) (y ∷ b) h = rw (same_lengths a b (λ e. h (ap suc e))) (and-false (eqb x y))

-- a choice between equals
pub cond_same : {A : Type 0} (t : Bool) (x : A) → cond t x x ≡ x
cond_same true x = refl
cond_same false x = refl

-- No name has more than seven bytes, and no command takes more than four numbers.
pub long_name : (name vs : List ℕ) → 8 ≤ length name → form_of name vs ≡ None
unfolding form_of form_without_numbers
long_name name vs h =
    let apart : (word : List ℕ) → length word < 8 → same name word ≡ false = λ word k. same_lengths name word (λ e. omega arith) in
    rw (
      apart (98 ∷ 101 ∷ 103 ∷ 105 ∷ 110 ∷ []) (omega arith),
      apart (115 ∷ 101 ∷ 116 ∷ []) (omega arith),
      apart (99 ∷ 111 ∷ 109 ∷ 109 ∷ 105 ∷ 116 ∷ []) (omega arith),
      apart (97 ∷ 98 ∷ 111 ∷ 114 ∷ 116 ∷ []) (omega arith),
      apart (103 ∷ 101 ∷ 116 ∷ []) (omega arith),
      apart (109 ∷ 97 ∷ 114 ∷ 107 ∷ []) (omega arith),
      apart (99 ∷ 111 ∷ 112 ∷ 121 ∷ []) (omega arith),
      apart (99 ∷ 108 ∷ 111 ∷ 115 ∷ 101 ∷ []) (omega arith),
      apart (114 ∷ 101 ∷ 115 ∷ 116 ∷ 97 ∷ 114 ∷ 116 ∷ []) (omega arith),
    )

pub many_numbers : (name vs : List ℕ) → 5 ≤ length vs → form_of name vs ≡ None
unfolding form_of form_without_numbers without_numbers set_of commit_of abort_of get_of
many_numbers name vs h =
    let apart : (k : ℕ) → k < 5 → eqb (length vs) k ≡ false = λ k small. ne_eqb (length vs) k (λ e. omega arith) in
    simp (apart 0 (omega arith), apart 1 (omega arith), apart 2 (omega arith), apart 4 (omega arith), cond_same)
