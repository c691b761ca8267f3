-- Laws of `sum`, `mask` and `All`: how sums split over lists, tests and elements.
use mathlib.Core.Path.{◌≡◌, refl, sym, ap₂}
use mathlib.Core.List.{List, [], ◌∷◌, ◌++◌}
use mathlib.Core.Bool.{Bool, true, false}
use Prim.Native.Nat.{ℕ}
use Rattle.model.specs.Word.{◌⊕◌}
use Rattle.model.proofs.Ledger.Entry.{sum, mask, All}
use Rattle.model.proofs.Xor.{xor, ⊕-assoc, ⊕-zero-l}

pub mask_zero : (b : Bool) → mask b 0 ≡ 0
mask_zero true = refl
mask_zero false = refl

⊕-four : (a b c d : ℕ) → (a ⊕ b) ⊕ (c ⊕ d) ≡ (a ⊕ c) ⊕ (b ⊕ d)
⊕-four a b c d = simp xor

module _ {A : Type 0} where
  pub sum_append : (f : A → ℕ) (l m : List A) → sum f (l ++ m) ≡ sum f l ⊕ sum f m
  unfolding sum
  sum_append f [] m = sym (⊕-zero-l (sum f m))
  sum_append f (r ∷ l) m = rw (sum_append f l m) (sym (⊕-assoc (f r) (sum f l) (sum f m)))

  pub sum_ext : (f g : A → ℕ) (l : List A) → All (λ r. f r ≡ g r) l → sum f l ≡ sum g l
  unfolding sum
  sum_ext f g [] h = refl
  sum_ext f g (r ∷ l) h = ap₂ (λ (x y : ℕ). x ⊕ y) h.0 (sum_ext f g l h.1)

  pub sum_xor : (f g : A → ℕ) (l : List A) → sum (λ r. f r ⊕ g r) l ≡ sum f l ⊕ sum g l
  unfolding sum
  sum_xor f g [] = sym (⊕-zero-l 0)
  sum_xor f g (r ∷ l) = rw (sum_xor f g l) (⊕-four (f r) (g r) (sum f l) (sum g l))

  pub sum_zero : (f : A → ℕ) (l : List A) → All (λ r. f r ≡ 0) l → sum f l ≡ 0
  unfolding sum
  sum_zero f [] h = refl
  sum_zero f (r ∷ l) h = rw (h.0, sum_zero f l h.1) (⊕-zero-l 0)

  pub all_of : {P : A → Type 0} → ((r : A) → P r) → (m : List A) → All P m
  all_of h [] = tt
  all_of h (r ∷ m) = (h r, all_of h m)

  pub all_map : {P Q : A → Type 0} → ((r : A) → P r → Q r) → (m : List A) → All P m → All Q m
  all_map h [] p = tt
  all_map h (r ∷ m) p = (h r p.0, all_map h m p.1)

  pub all_zip : {P Q R : A → Type 0} → ((r : A) → P r → Q r → R r) → (m : List A) → All P m → All Q m → All R m
  all_zip h [] p q = tt
  all_zip h (r ∷ m) p q = (h r p.0 q.0, all_zip h m p.1 q.1)

  pub all_append : (P : A → Type 0) (l m : List A) → All P l → All P m → All P (l ++ m)
  all_append P [] m p q = q
  all_append P (r ∷ l) m p q = (p.0, all_append P l m p.1 q)

  pub all_right : (P : A → Type 0) (l m : List A) → All P (l ++ m) → All P m
  all_right P [] m p = p
  all_right P (r ∷ l) m p = all_right P l m p.1

  -- a test that does not depend on the element
  pub sum_mask : (b : Bool) (f : A → ℕ) (l : List A) → sum (λ r. mask b (f r)) l ≡ mask b (sum f l)
  sum_mask true f l = refl
  sum_mask false f l = sum_zero (λ r. 0) l (all_of (λ r. refl) l)
