-- The write sets against the log, at one word: what a transaction has written is what its records come to.
use mathlib.Core.Path.{◌≡◌, refl, sym, ap, ◌∙◌}
use mathlib.Core.List.{List, [], ◌∷◌, ◌++◌}
use mathlib.Core.Bool.{Bool, true, false, cond}
use Prim.Native.Nat.{ℕ}
use lib.Dec.{eqb}
use borrow.Author.Tests.{eqb-true, eqb-false, eq-eqb, ne_eqb}
use Rattle.model.specs.Word.{◌⊕◌}
use Rattle.model.proofs.Xor.{xor, ⊕-zero-l, ⊕-zero-r}
use Rattle.model.proofs.Ledger.Entry.{mask, Entry, adds, Patch, patch, patched}
use Rattle.model.proofs.Ledger.State.{except}
use Rattle.model.proofs.Ledger.Sums.{mask_zero}
use Rattle.model.proofs.Ledger.Groups.{sum_by_key}
use Rattle.model.proofs.Ledger.Word.{of_txn, of_open, split_open, sum_snoc, except_open}
use Rattle.model.proofs.Booleans.{true_false}

pub patched_snoc : (w : ℕ) (es : List Patch) (e : Patch) (x : ℕ) → patched w (es ++ e ∷ []) x ≡ patch w e (patched w es x)
unfolding patched
patched_snoc w [] e x = refl
patched_snoc w (a ∷ es) e x = patched_snoc w es e (patch w a x)

-- Word `w`, committed as `res`; all records; the open transactions and their writes; the owner of the word's slot.
-- Nothing is claimed of transaction x: it is inside an abort (0: none is).
pub record WriteSets (x w res : ℕ) (L : List Entry) (O : ℕ → Bool) (writes : ℕ → List Patch) (owner : ℕ) : Type 0 where
  -- the writes come to what the transaction's records come to
  pub adds_up : (t : ℕ) → (t ≡ x → ⊥) → O t ≡ true → patched w (writes t) res ≡ res ⊕ of_txn w t L
  -- only the owner has touched the word
  pub no_record : (t : ℕ) → (t ≡ x → ⊥) → O t ≡ true → (t ≡ owner → ⊥) → of_txn w t L ≡ 0
  pub no_entry : (t : ℕ) → (t ≡ x → ⊥) → O t ≡ true → (t ≡ owner → ⊥) → (y : ℕ) → patched w (writes t) y ≡ y

-- an open transaction is not one that is shut
pub not_shut : (O : ℕ → Bool) (x t : ℕ) → O x ≡ false → O t ≡ true → t ≡ x → ⊥
not_shut O x t shut h e = true_false h (rw e shut)

-- the write sets depend on the sums and on the open transactions' writes alone
pub write_sets_same : (x w res : ℕ) (L M : List Entry) (O : ℕ → Bool) (f g : ℕ → List Patch) (owner : ℕ)
    → ((u : ℕ) → (u ≡ x → ⊥) → O u ≡ true → of_txn w u M ≡ of_txn w u L) → ((u : ℕ) → O u ≡ true → f u ≡ g u)
    → WriteSets x w res L O f owner → WriteSets x w res M O g owner
write_sets_same x w res L M O f g owner e d h = record {
  adds_up = λ t n o. rw (← d t o, e t n o) (h.adds_up t n o);
  no_record = λ t n o m. e t n o ∙ h.no_record t n o m;
  no_entry = λ t n o m y. rw (← d t o) (h.no_entry t n o m y);
}

-- where none is exempt, any may be
pub write_sets_exempt : (x y w res : ℕ) (L : List Entry) (O : ℕ → Bool) (writes : ℕ → List Patch) (owner : ℕ) → O x ≡ false
    → WriteSets x w res L O writes owner → WriteSets y w res L O writes owner
write_sets_exempt x y w res L O writes owner shut h = record {
  adds_up = λ t n o. h.adds_up t (not_shut O x t shut o) o;
  no_record = λ t n o. h.no_record t (not_shut O x t shut o) o;
  no_entry = λ t n o. h.no_entry t (not_shut O x t shut o) o;
}

-- one transaction's records are all there are of open ones
pub open_one : (w : ℕ) (O : ℕ → Bool) (t : ℕ) (L : List Entry) → O t ≡ true → ((s : ℕ) → O s ≡ true → (s ≡ t → ⊥) → of_txn w s L ≡ 0)
    → of_open w O L ≡ of_txn w t L
open_one w O t L open? h = split_open w O t L open? ∙ rw (sum_by_key (λ r. r.number) (adds w) (except O t) L each) (⊕-zero-l _)
  where
    each : (s : ℕ) → except O t s ≡ true → of_txn w s L ≡ 0
    each s e = h s (except_open O t s e).0 (except_open O t s e).1

-- a commit: the writes are put over the committed word
pub committed_writes : (x w v res : ℕ) (L : List Entry) (O : ℕ → Bool) (writes : ℕ → List Patch) (owner t : ℕ) → WriteSets x w res L O writes owner
    → (t ≡ x → ⊥) → O t ≡ true → res ≡ v ⊕ of_open w O L
    → patched w (writes t) res ≡ v ⊕ of_open w (except O t) L
committed_writes x w v res L O writes owner t h n open? book =
    h.adds_up t n open? ∙ rw (book, split_open w O t L open?) (cancel v (of_open w (except O t) L) (of_txn w t L))
  where
    cancel : (v o a : ℕ) → (v ⊕ (o ⊕ a)) ⊕ a ≡ v ⊕ o
    cancel v o a = simp xor

-- after it the other writes still add up
pub commit_others : (x w res : ℕ) (L : List Entry) (O : ℕ → Bool) (writes : ℕ → List Patch) (owner t : ℕ) → WriteSets x w res L O writes owner
    → (t ≡ x → ⊥) → O t ≡ true
    → WriteSets x w (patched w (writes t) res) L (except O t) writes owner
commit_others x w res L O writes owner t h m open? = record {
  adds_up = λ s n o. others s n (except_open O t s o).0 (except_open O t s o).1 (eqb t owner) refl;
  no_record = λ s n o. h.no_record s n (except_open O t s o).0;
  no_entry = λ s n o. h.no_entry s n (except_open O t s o).0;
}
  where
    others : (s : ℕ) → (s ≡ x → ⊥) → O s ≡ true → (s ≡ t → ⊥) → (d : Bool) → eqb t owner ≡ d
        → patched w (writes s) (patched w (writes t) res) ≡ patched w (writes t) res ⊕ of_txn w s L
    others s k o n true d =
        h.no_entry s k o (λ e. n (e ∙ sym (eqb-true t owner d))) (patched w (writes t) res)
        ∙ sym (rw (h.no_record s k o (λ e. n (e ∙ sym (eqb-true t owner d)))) (⊕-zero-r (patched w (writes t) res)))
    others s k o n false d = rw (h.no_entry t m open? (eqb-false t owner d) res) (h.adds_up s k o)

-- the writes with one more of transaction t
abbrev pub noted : (ℕ → List Patch) → ℕ → Patch → ℕ → List Patch
noted writes t e s = cond (eqb s t) (writes s ++ e ∷ []) (writes s)

final : (u v a res : ℕ) → res ≡ v ⊕ a → u ≡ res ⊕ (a ⊕ (v ⊕ u))
final u v a res h = rw h (simp xor)

-- an update of a slot that spans the word, by its owner or where it is free
pub updated_writes : (x w v res u : ℕ) (L : List Entry) (O : ℕ → Bool) (writes : ℕ → List Patch) (owner : ℕ) (r : Entry) (e : Patch)
    → WriteSets x w res L O writes owner → O x ≡ false → O r.number ≡ true → res ≡ v ⊕ of_open w O L
    → ((s : ℕ) → O s ≡ true → (s ≡ r.number → ⊥) → s ≡ owner → ⊥)
    → ((y : ℕ) → patch w e y ≡ u) → adds w r ≡ v ⊕ u
    → WriteSets x w res (L ++ r ∷ []) O (noted writes r.number e) r.number
updated_writes x w v res u L O writes owner r e h shut open? book free sets diff = record {
  adds_up = λ s k o. up s k o (eqb s r.number) refl;
  no_record = λ s k o n. rw (more s, ne_eqb r.number s (λ d. n (sym d)), h.no_record s k o (free s o n)) (⊕-zero-l 0);
  no_entry = λ s k o n y. rw (ne_eqb s r.number n) (h.no_entry s k o (free s o n) y);
}
  where
    more : (s : ℕ) → of_txn w s (L ++ r ∷ []) ≡ of_txn w s L ⊕ mask (eqb r.number s) (adds w r)
    more s = sum_snoc (λ r. mask (eqb r.number s) (adds w r)) [] L r

    up : (s : ℕ) → (s ≡ x → ⊥) → O s ≡ true → (d : Bool) → eqb s r.number ≡ d
        → patched w (noted writes r.number e s) res ≡ res ⊕ of_txn w s (L ++ r ∷ [])
    up s k o true d =
        rw (d, patched_snoc w (writes s) e res, sets (patched w (writes s) res), more s, eq-eqb r.number s (sym (eqb-true s r.number d)), diff)
        (final u v (of_txn w s L) res (book ∙ ap (λ (y : ℕ). v ⊕ y) (open_one w O s L o alone)))
      where
        alone : (z : ℕ) → O z ≡ true → (z ≡ s → ⊥) → of_txn w z L ≡ 0
        alone z y n = h.no_record z (not_shut O x z shut y) y (free z y (λ q. n (q ∙ sym (eqb-true s r.number d))))
    up s k o false d = rw (d, more s, ne_eqb r.number s (λ q. eqb-false s r.number d (sym q)), ⊕-zero-r (of_txn w s L)) (h.adds_up s k o)

-- an update of another slot
pub updated_elsewhere : (x w res : ℕ) (L : List Entry) (O : ℕ → Bool) (writes : ℕ → List Patch) (owner : ℕ) (r : Entry) (e : Patch)
    → WriteSets x w res L O writes owner → ((y : ℕ) → patch w e y ≡ y) → adds w r ≡ 0
    → WriteSets x w res (L ++ r ∷ []) O (noted writes r.number e) owner
updated_elsewhere x w res L O writes owner r e h sets diff = record {
  adds_up = λ s k o. entry s res ∙ h.adds_up s k o ∙ ap (λ (y : ℕ). res ⊕ y) (sym (more s));
  no_record = λ s k o n. more s ∙ h.no_record s k o n;
  no_entry = λ s k o n y. entry s y ∙ h.no_entry s k o n y;
}
  where
    more : (s : ℕ) → of_txn w s (L ++ r ∷ []) ≡ of_txn w s L
    more s = sum_snoc (λ r. mask (eqb r.number s) (adds w r)) [] L r ∙ rw (diff, mask_zero (eqb r.number s)) (⊕-zero-r (of_txn w s L))

    entry : (s y : ℕ) → patched w (noted writes r.number e s) y ≡ patched w (writes s) y
    entry s y = go (eqb s r.number)
      where
        go : (d : Bool) → patched w (cond d (writes s ++ e ∷ []) (writes s)) y ≡ patched w (writes s) y
        go true = patched_snoc w (writes s) e y ∙ sets (patched w (writes s) y)
        go false = refl
