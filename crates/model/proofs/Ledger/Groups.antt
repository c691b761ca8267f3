-- A sum that is 0 for each key is 0 over all the keys.
use mathlib.Core.Path.{◌≡◌, refl, ◌∙◌}
use mathlib.Core.List.{List, [], ◌∷◌}
use mathlib.Core.Bool.{Bool, true, false, ◌&&◌}
use Prim.Native.Nat.{ℕ, zero, suc, ◌<◌, ◌≤◌, max}
use native.Mathlib.Omega.{arith}
use lib.Dec.{ltb, eqb, leb-suc-zero}
use borrow.Author.Tests.{ltb-true, ltb-false, eqb-true, eqb-false, lt-ltb, le-ltb}
use Rattle.model.specs.Word.{◌⊕◌}
use Rattle.model.proofs.Ledger.Entry.{sum, mask, All}
use Rattle.model.proofs.Xor.{⊕-zero-l, ⊕-zero-r}
use Rattle.model.proofs.Ledger.Sums.{mask_zero, sum_ext, sum_xor, sum_zero, sum_mask, all_of, all_map}

-- a test at a number below `suc n`: below `n`, or at `n`
mask_suc : (P : ℕ → Bool) (n k x : ℕ) → mask (ltb k (suc n) && P k) x ≡ mask (ltb k n && P k) x ⊕ mask (P n) (mask (eqb k n) x)
mask_suc P n k x = go (ltb k n) (eqb k n) refl refl
  where
    go : (p q : Bool) → ltb k n ≡ p → eqb k n ≡ q
        → mask (ltb k (suc n) && P k) x ≡ mask (ltb k n && P k) x ⊕ mask (P n) (mask (eqb k n) x)
    go true true e d = absurd (omega (arith, ltb-true k n e, eqb-true k n d))
    go true false e d = rw (e, d, lt-ltb k (suc n) (omega (arith, ltb-true k n e))) (simp (mask_zero, ⊕-zero-r))
    go false true e d = rw (e, d, lt-ltb k (suc n) (omega (arith, eqb-true k n d)), eqb-true k n d) (simp ⊕-zero-l)
    go false false e d = rw (e, d, le-ltb k (suc n) (omega (arith, ltb-false k n e, eqb-false k n d))) (simp (mask_zero, ⊕-zero-r))

module _ {A : Type 0} (key : A → ℕ) (f : A → ℕ) (P : ℕ → Bool) (l : List A)
    (each : (t : ℕ) → P t ≡ true → sum (λ r. mask (eqb (key r) t) (f r)) l ≡ 0) where
  one : (b : Bool) (n : ℕ) → P n ≡ b → mask b (sum (λ r. mask (eqb (key r) n) (f r)) l) ≡ 0
  one true n e = each n e
  one false n e = refl

  below : (n : ℕ) → sum (λ r. mask (ltb (key r) n && P (key r)) (f r)) l ≡ 0
  below zero = sum_zero _ l (all_of none l)
    where
      none : (r : A) → mask (ltb (key r) 0 && P (key r)) (f r) ≡ 0
      none r = rw (leb-suc-zero (key r))
  below (suc n) =
      sum_ext _ _ l (all_of (λ r. mask_suc P n (key r) (f r)) l) ∙ sum_xor _ _ l
      ∙ rw (below n, sum_mask (P n) (λ r. mask (eqb (key r) n) (f r)) l, one (P n) n refl) (⊕-zero-l 0)

bound : {A : Type 0} (key : A → ℕ) → List A → ℕ
bound key [] = 0
bound key (r ∷ l) = max (suc (key r)) (bound key l)

all_below_lem : {A : Type 0} (key : A → ℕ) (l : List A) (n : ℕ) → bound key l ≤ n → All (λ r. key r < n) l
unfolding bound
all_below_lem key [] n h = tt
all_below_lem key (r ∷ l) n h = (omega arith, all_below_lem key l n (omega arith))

pub sum_by_key : {A : Type 0} (key f : A → ℕ) (P : ℕ → Bool) (l : List A)
    → ((t : ℕ) → P t ≡ true → sum (λ r. mask (eqb (key r) t) (f r)) l ≡ 0)
    → sum (λ r. mask (P (key r)) (f r)) l ≡ 0
sum_by_key {A} key f P l each =
    sum_ext _ _ l (all_map same l (all_below_lem key l (bound key l) (omega arith))) ∙ below key f P l each (bound key l)
  where
    same : (r : A) → key r < bound key l → mask (P (key r)) (f r) ≡ mask (ltb (key r) (bound key l) && P (key r)) (f r)
    same r h = rw (lt-ltb (key r) (bound key l) h)
