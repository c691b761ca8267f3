-- Laws of `pick`, `some` and `closed_in`: a list and what a test picks of it.
use mathlib.Core.Path.{◌≡◌, refl, ap, ◌∙◌}
use mathlib.Core.List.{List, [], ◌∷◌, ◌++◌}
use mathlib.Core.Bool.{Bool, true, false, not, ◌&&◌, ◌||◌, cond}
use Prim.Native.Nat.{ℕ}
use lib.Dec.{eqb}
use Rattle.model.specs.Word.{◌⊕◌}
use Rattle.model.proofs.Ledger.Entry.{sum, All, Entry, is_close, closed_in, some, pick}
use Rattle.model.proofs.Xor.{⊕-zero-l, ⊕-assoc, ⊕-left-comm}
use Rattle.model.proofs.Booleans.{true_false}

module _ {A : Type 0} where
  -- a list is its picks by a test and by its opposite
  pub sum_pick : (p : A → Bool) (f : A → ℕ) (l : List A) → sum f (pick p l) ⊕ sum f (pick (λ r. not (p r)) l) ≡ sum f l
  unfolding sum pick
  sum_pick p f [] = ⊕-zero-l 0
  sum_pick p f (r ∷ l) = go (p r) (sum_pick p f l)
    where
      go : (b : Bool) → sum f (pick p l) ⊕ sum f (pick (λ r. not (p r)) l) ≡ sum f l
          → sum f (cond b (r ∷ pick p l) (pick p l)) ⊕ sum f (cond (not b) (r ∷ pick (λ r. not (p r)) l) (pick (λ r. not (p r)) l)) ≡ f r ⊕ sum f l
      go true e = ⊕-assoc (f r) (sum f (pick p l)) (sum f (pick (λ r. not (p r)) l)) ∙ ap (λ (x : ℕ). f r ⊕ x) e
      go false e = ⊕-left-comm (sum f (pick p l)) (f r) (sum f (pick (λ r. not (p r)) l)) ∙ ap (λ (x : ℕ). f r ⊕ x) e

  pub all_pick : (P : A → Type 0) (p : A → Bool) (l : List A) → All P l → All P (pick p l)
  unfolding pick
  all_pick P p [] h = tt
  all_pick P p (r ∷ l) h = go (p r) (all_pick P p l h.1)
    where
      go : (b : Bool) → All P (pick p l) → All P (cond b (r ∷ pick p l) (pick p l))
      go true e = (h.0, e)
      go false e = e

  -- what was picked passed
  pub pick_all : (p : A → Bool) (l : List A) → All (λ r. p r ≡ true) (pick p l)
  unfolding pick
  pick_all p [] = tt
  pick_all p (r ∷ l) = go (p r) refl (pick_all p l)
    where
      go : (b : Bool) → p r ≡ b → All (λ r. p r ≡ true) (pick p l) → All (λ r. p r ≡ true) (cond b (r ∷ pick p l) (pick p l))
      go true d e = (d, e)
      go false d e = e

  pub some_append : (p : A → Bool) (l m : List A) → some p (l ++ m) ≡ (some p l || some p m)
  unfolding some
  some_append p [] m = refl
  some_append p (r ∷ l) m = go (p r) (some_append p l m)
    where
      go : (b : Bool) → some p (l ++ m) ≡ (some p l || some p m) → (b || some p (l ++ m)) ≡ ((b || some p l) || some p m)
      go true e = refl
      go false e = e

  pub some_none : (p : A → Bool) (l : List A) → All (λ r. p r ≡ false) l → some p l ≡ false
  unfolding some
  some_none p [] h = refl
  some_none p (r ∷ l) h = rw h.0 (some_none p l h.1)

  pub none_some : (p : A → Bool) (l : List A) → some p l ≡ false → All (λ r. p r ≡ false) l
  unfolding some
  none_some p [] h = tt
  none_some p (r ∷ l) h = go (p r) refl h (none_some p l)
    where
      go : (b : Bool) → p r ≡ b → b || some p l ≡ false → (some p l ≡ false → All (λ r. p r ≡ false) l) → (p r ≡ false) × All (λ r. p r ≡ false) l
      go true d x ih = true_false refl x
      go false d x ih = (d, ih x)

pub closed_append : (l m : List Entry) (t : ℕ) → closed_in (l ++ m) t ≡ (closed_in l t || closed_in m t)
unfolding closed_in
closed_append l m t = some_append (λ r. is_close r && eqb r.number t) l m

pub closed_pick : (p : Entry → Bool) (l : List Entry) (t : ℕ) → closed_in l t ≡ false → closed_in (pick p l) t ≡ false
unfolding closed_in
closed_pick p l t h = some_none (λ r. is_close r && eqb r.number t) (pick p l) (all_pick _ p l (none_some (λ r. is_close r && eqb r.number t) l h))
