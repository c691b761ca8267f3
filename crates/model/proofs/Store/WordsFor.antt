-- The words of a transaction's entries: in lists joined, picked from, and with one entry more.
use mathlib.Core.Path.{◌≡◌, refl, sym, ap, ◌∙◌}
use mathlib.Core.List.{List, [], ◌∷◌, ◌++◌, append_assoc}
use mathlib.Core.Bool.{Bool, true, false, cond, not}
use Prim.Native.Nat.{ℕ, ◌+◌, ◌<◌}
use native.Mathlib.Omega.{arith}
use native.Mathlib.Nat.{zero-add, add-zero, add_assoc}
use lib.Dec.{eqb}
use borrow.Author.Tests.{ne_eqb}
use Rattle.model.proofs.Ledger.Entry.{Entry, All, pick}
use Rattle.model.proofs.Ledger.Order.{size_of}
use Rattle.model.proofs.Store.View.{words_for}

-- the words of a transaction's entries, wherever they lie
pub words_for_append : (t : ℕ) (l m : List Entry) → words_for t (l ++ m) ≡ words_for t l + words_for t m
unfolding words_for
words_for_append t [] m = sym (zero-add (words_for t m))
words_for_append t (e ∷ l) m = rw (words_for_append t l m) (sym (add_assoc _ (words_for t l) (words_for t m)))

-- a number that the entries do not have has no words among them
pub words_for_none : (t : ℕ) (l : List Entry) → All (λ e. e.number < t) l → words_for t l ≡ 0
unfolding words_for
words_for_none t [] h = refl
words_for_none t (e ∷ l) h = rw (ne_eqb e.number t (λ x. omega (arith, h.0)), words_for_none t l h.1)

words_for_halves : (t : ℕ) (p : Entry → Bool) (l : List Entry) → words_for t (pick p l) + words_for t (pick (λ r. not (p r)) l) ≡ words_for t l
unfolding words_for pick
words_for_halves t p [] = refl
words_for_halves t p (e ∷ l) = go (p e) (words_for_halves t p l)
  where
    n : ℕ
    n = cond (eqb e.number t) (size_of e) 0

    go : (b : Bool) → words_for t (pick p l) + words_for t (pick (λ r. not (p r)) l) ≡ words_for t l
        → words_for t (cond b (e ∷ pick p l) (pick p l)) + words_for t (cond (not b) (e ∷ pick (λ r. not (p r)) l) (pick (λ r. not (p r)) l)) ≡ n + words_for t l
    go true h = omega arith
    go false h = omega arith

pub words_for_flush : (t : ℕ) (p : Entry → Bool) (F B : List Entry) → words_for t ((F ++ pick p B) ++ pick (λ r. not (p r)) B) ≡ words_for t (F ++ B)
words_for_flush t p F B = simp (append_assoc, words_for_append, words_for_halves)

-- picking leaves the words of a transaction, where what is not picked is of others
pub words_for_picked : (t : ℕ) (p : Entry → Bool) (l : List Entry) → All (λ q. p q ≡ false → eqb q.number t ≡ false) l
    → words_for t (pick p l) ≡ words_for t l
unfolding words_for pick
words_for_picked t p [] h = refl
words_for_picked t p (q ∷ l) h = go (p q) refl (words_for_picked t p l h.1)
  where
    n : ℕ
    n = cond (eqb q.number t) (size_of q) 0

    go : (b : Bool) → p q ≡ b → words_for t (pick p l) ≡ words_for t l → words_for t (cond b (q ∷ pick p l) (pick p l)) ≡ n + words_for t l
    go true e ih = ap (λ (k : ℕ). n + k) ih
    go false e ih = rw (h.0 e) (ih ∙ sym (zero-add (words_for t l)))

-- the words of a transaction's entries, with one entry more
pub words_for_more : (F B : List Entry) (e : Entry) (t : ℕ)
    → words_for t (F ++ (B ++ e ∷ [])) ≡ words_for t (F ++ B) + cond (eqb e.number t) (size_of e) 0
unfolding words_for
words_for_more F B e t = rw (← append_assoc F B (e ∷ []), words_for_append t (F ++ B) (e ∷ []), add-zero)

pub words_for_other : (F B : List Entry) (e : Entry) (t : ℕ) → (t ≡ e.number → ⊥) → words_for t (F ++ (B ++ e ∷ [])) ≡ words_for t (F ++ B)
words_for_other F B e t ne = words_for_more F B e t ∙ rw (ne_eqb e.number t (λ z. ne (sym z))) (add-zero (words_for t (F ++ B)))
