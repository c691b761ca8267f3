-- Statements about every element of a list.
use mathlib.Core.Path.{◌≡◌, refl, sym, subst}
use mathlib.Core.Logic.{◌⊎◌, inl, inr}
use mathlib.Core.List.Memᴰ
use mathlib.Core.List.{List, [], ◌∷◌, ◌++◌, Memᴰ}
use Prim.Native.Nat.{ℕ, zero, suc, ◌<◌}
use native.Mathlib.Omega.{arith}
use lib.ListN.{length, get_or, take, drop}
use Rattle.model.specs.Below.{join_below}

module _ {A : Type 0} where
  abbrev pub Every : (A → Type 0) → List A → Type 0
  Every P l = (a : A) → Memᴰ a l → P a

  pub every_nil : (P : A → Type 0) → Every P []
  every_nil P a m = absurd (Memᴰ.not-nil m)

  pub every_cons : (P : A → Type 0) (x : A) (l : List A) → P x → Every P l → Every P (x ∷ l)
  every_cons P x l here rest a m = go (Memᴰ.cases_cons m)
    where
      go : (a ≡ x) ⊎ Memᴰ a l → P a
      go (inl e) = subst P (sym e) here
      go (inr m) = rest a m

  pub every_append : (P : A → Type 0) (l m : List A) → Every P l → Every P m → Every P (l ++ m)
  every_append P l m left right a h = go (Memᴰ.append_cases l h)
    where
      go : Memᴰ a l ⊎ Memᴰ a m → P a
      go (inl x) = left a x
      go (inr x) = right a x

  pub every_join : (P : A → Type 0) (f : ℕ → List A) (n : ℕ) → ((i : ℕ) → i < n → Every P (f i)) → Every P (join_below f n)
  unfolding join_below
  every_join P f zero h = every_nil P
  every_join P f (suc n) h = every_append P (join_below f n) (f n) (every_join P f n (λ i l. h i (omega arith))) (h n (omega arith))

-- what holds of every element holds of the first, of the others, and of every element of a part
module _ {A : Type 0} {P : A → Type 0} where
  pub first_of : {e : A} {es : List A} → Every P (e ∷ es) → P e
  first_of h = h _ (Memᴰ.head refl)

  pub others_of : {e : A} {es : List A} → Every P (e ∷ es) → Every P es
  others_of h a m = h a (Memᴰ.tail m)

  pub every_drop : (n : ℕ) (es : List A) → Every P es → Every P (drop n es)
  every_drop zero es h = h
  every_drop (suc n) [] h = h
  every_drop (suc n) (e ∷ es) h = every_drop n es (others_of h)

  pub every_take : (n : ℕ) (es : List A) → Every P es → Every P (take n es)
  every_take zero es h = every_nil P
  every_take (suc n) [] h = h
  every_take (suc n) (e ∷ es) h = every_cons P e (take n es) (first_of h) (every_take n es (others_of h))

  pub every_at : (n : ℕ) (es : List A) (d : A) → Every P es → n < length es → P (get_or es n d)
  every_at n [] d h l = absurd (omega arith)
  every_at zero (e ∷ es) d h l = first_of h
  every_at (suc n) (e ∷ es) d h l = every_at n es d (others_of h) (omega arith)
