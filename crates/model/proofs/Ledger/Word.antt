-- The invariant of one word of the page memory, and the steps that keep it.
use mathlib.Core.Path.{◌≡◌, refl, sym, ap, ◌∙◌}
use mathlib.Core.List.{List, [], ◌∷◌, ◌++◌, append_assoc}
use mathlib.Core.Bool.{Bool, true, false, not, ◌&&◌}
use Prim.Native.Nat.{ℕ}
use native.Mathlib.Omega.{arith}
use lib.Dec.{leb, eqb}
use borrow.Author.Tests.{eqb-true, eqb-false, ne_eqb}
use Rattle.model.specs.Word.{◌⊕◌}
use Rattle.model.proofs.Ledger.Entry.{sum, mask, All, Entry, adds, closed_in, chosen}
use Rattle.model.proofs.Xor.{xor, ⊕-zero-l, ⊕-zero-r, ⊕-assoc}
use Rattle.model.proofs.Ledger.Sums.{sum_append, sum_ext, sum_xor, sum_zero, all_of, all_map, all_append}
use Rattle.model.proofs.Ledger.State.{except}
use Rattle.model.proofs.Ledger.Crash.{crash}
use Rattle.model.proofs.Ledger.Groups.{sum_by_key}
use Rattle.model.proofs.Booleans.{true_false, both_fail}

-- the sums that the invariant speaks of
abbrev pub newer : ℕ → ℕ → List Entry → ℕ
newer w c l = sum (λ r. mask (leb c r.copy) (adds w r)) l

abbrev pub of_txn : ℕ → ℕ → List Entry → ℕ
of_txn w t l = sum (λ r. mask (eqb r.number t) (adds w r)) l

abbrev pub of_open : ℕ → (ℕ → Bool) → List Entry → ℕ
of_open w O l = sum (λ r. mask (O r.number) (adds w r)) l

-- what a restart makes of the word
abbrev pub restored : ℕ → ℕ → ℕ → List Entry → ℕ
restored w c b F = b ⊕ sum (λ r. mask (chosen (closed_in F) c r) (adds w r)) F

-- Word `w` is `b` in the backup of checkpoint `c`, `v` in the page memory and `res` committed; flushed and buffered records; the open transactions.
pub record Inv (w c b v res : ℕ) (F B : List Entry) (O : ℕ → Bool) : Type 0 where
  -- the page is the backup with the records that are not in it
  pub page : v ≡ b ⊕ newer w c (F ++ B)
  -- a buffered record is not in the backup
  pub late : All (λ r. mask (not (leb c r.copy)) (adds w r) ≡ 0) B
  -- the flushed log closes no open transaction, and none with a buffered record
  pub apart : All (λ r. closed_in F r.number ≡ false) B
  pub loose : (t : ℕ) → O t ≡ true → closed_in F t ≡ false
  -- the records of a transaction that is neither (aborted, and not yet flushed whole) cancel
  pub cancel : (t : ℕ) → closed_in F t ≡ false → O t ≡ false → of_txn w t (F ++ B) ≡ 0
  -- without the open transactions' records the page is the committed word
  pub book : res ≡ v ⊕ of_open w O (F ++ B)

-- a cut at any moment, and a restart gives the committed word
pub recovers_word : (w c b v res : ℕ) (F B : List Entry) (O : ℕ → Bool) → Inv w c b v res F B O → restored w c b F ≡ res
recovers_word w c b v res F B O h =
    crash w c b v F B O (record { page = h.page; late = h.late; apart = h.apart; open_loose = h.loose; cancel = none })
    ∙ sym h.book
  where
    none : sum (λ r. mask (not (closed_in F r.number) && not (O r.number)) (adds w r)) (F ++ B) ≡ 0
    none = sum_by_key (λ r. r.number) (adds w) (λ t. not (closed_in F t) && not (O t)) (F ++ B)
        (λ t e. h.cancel t (both_fail (closed_in F t) (O t) e).0 (both_fail (closed_in F t) (O t) e).1)

-- one record more
pub sum_snoc : (f : Entry → ℕ) (F B : List Entry) (r : Entry) → sum f (F ++ (B ++ r ∷ [])) ≡ sum f (F ++ B) ⊕ f r
unfolding sum
sum_snoc f F B r = ap (λ (l : List Entry). sum f l) (sym (append_assoc F B (r ∷ []))) ∙ sum_append f (F ++ B) (r ∷ []) ∙ rw (⊕-zero-r (f r))

-- transactions of which one is open and the other not are two
pub txn_differs : (O : ℕ → Bool) (s t : ℕ) → O s ≡ true → O t ≡ false → eqb s t ≡ false
txn_differs O s t p q = ne_eqb s t (λ e. absurd_bool (sym p ∙ ap O e ∙ q))
  where
    absurd_bool : true ≡ false → ⊥
    absurd_bool e = let z : ◌≡◌ {A = ℕ} 0 1 = cc in omega arith

pub swap_page : (b n a v : ℕ) → v ≡ b ⊕ n → v ⊕ a ≡ b ⊕ (n ⊕ a)
swap_page b n a v h = rw h (⊕-assoc b n a)

swap_book : (v a o res : ℕ) → res ≡ v ⊕ o → res ≡ (v ⊕ a) ⊕ (o ⊕ a)
swap_book v a o res h = rw h (simp xor)

-- a record that is not in the backup, or changes nothing here, counts in full
pub mask_late : (n : Bool) (x : ℕ) → mask (not n) x ≡ 0 → mask n x ≡ x
mask_late true x h = refl
mask_late false x h = sym h

-- an update, a compensation, a closing record in the buffer: a record of an open transaction, and the word changed by it
pub append_keeps : (w c b v res : ℕ) (F B : List Entry) (O : ℕ → Bool) (r : Entry) → Inv w c b v res F B O
    → mask (not (leb c r.copy)) (adds w r) ≡ 0 → O r.number ≡ true → Inv w c b (v ⊕ adds w r) res F (B ++ r ∷ []) O
append_keeps w c b v res F B O r h new open? = record {
  page = rw (sum_snoc (λ r. mask (leb c r.copy) (adds w r)) F B r, mask_late (leb c r.copy) (adds w r) new)
      (swap_page b (newer w c (F ++ B)) (adds w r) v h.page);
  late = all_append _ B (r ∷ []) h.late (new, tt);
  apart = all_append _ B (r ∷ []) h.apart (h.loose r.number open?, tt);
  loose = h.loose;
  cancel = λ t x y. rw (sum_snoc (λ r. mask (eqb r.number t) (adds w r)) F B r, txn_differs O r.number t open? y, h.cancel t x y) (⊕-zero-l 0);
  book = rw (sum_snoc (λ r. mask (O r.number) (adds w r)) F B r, open?) (swap_book v (adds w r) (of_open w O (F ++ B)) res h.book);
}

-- an open one that remains was open, and is another
pub except_open : (O : ℕ → Bool) (t u : ℕ) → except O t u ≡ true → (O u ≡ true) × (u ≡ t → ⊥)
except_open O t u x = go (O u) (eqb u t) refl refl x
  where
    go : (a b : Bool) → O u ≡ a → eqb u t ≡ b → a && not b ≡ true → (O u ≡ true) × (u ≡ t → ⊥)
    go true true p q z = true_false z refl
    go true false p q z = (p, eqb-false u t q)
    go false b p q z = true_false z refl

split_mask : (O : ℕ → Bool) (t s x : ℕ) → O t ≡ true → mask (O s) x ≡ mask (except O t s) x ⊕ mask (eqb s t) x
split_mask O t s x h = go (eqb s t) refl
  where
    go : (e : Bool) → eqb s t ≡ e → mask (O s) x ≡ mask (O s && not (eqb s t)) x ⊕ mask (eqb s t) x
    go true d = rw (d, eqb-true s t d, h) (sym (⊕-zero-l x))
    go false d = rw d (off (O s))
      where
        off : (o : Bool) → mask o x ≡ mask (o && true) x ⊕ 0
        off true = sym (⊕-zero-r x)
        off false = sym (⊕-zero-r 0)

pub split_open : (w : ℕ) (O : ℕ → Bool) (t : ℕ) (l : List Entry) → O t ≡ true → of_open w O l ≡ of_open w (except O t) l ⊕ of_txn w t l
split_open w O t l h = sum_ext _ _ l (all_of (λ r. split_mask O t r.number (adds w r) h) l) ∙ sum_xor _ _ l

except_cases : (O : ℕ → Bool) (t s : ℕ) → except O t s ≡ false → (o e : Bool) → O s ≡ o → eqb s t ≡ e
    → (X : Type 0) → (O s ≡ false → X) → (s ≡ t → X) → X
except_cases O t s h false e p q X f g = f p
except_cases O t s h true true p q X f g = g (eqb-true s t q)
except_cases O t s h true false p q X f g = absurd (omega (arith, (let z : ◌≡◌ {A = ℕ} 0 1 = cc in z)))

-- an abort's end: a transaction whose records cancel is no longer open
pub abort_keeps : (w c b v res : ℕ) (F B : List Entry) (O : ℕ → Bool) (t : ℕ) → Inv w c b v res F B O → O t ≡ true → of_txn w t (F ++ B) ≡ 0
    → Inv w c b v res F B (except O t)
abort_keeps w c b v res F B O t h open? zero? = record {
  page = h.page;
  late = h.late;
  apart = h.apart;
  loose = λ s x. h.loose s (except_open O t s x).0;
  cancel = λ s x y. except_cases O t s y (O s) (eqb s t) refl refl _ (h.cancel s x) (λ e. rw e zero?);
  book = h.book ∙ ap (λ (x : ℕ). v ⊕ x) (split_open w O t (F ++ B) open? ∙ rw zero? (⊕-zero-r _));
}

-- a flush, and a commit's: records move from the buffer to the log; a transaction that this closes is no longer open
pub flush_keeps : (w c b v res res' : ℕ) (F B F' B' : List Entry) (O O' : ℕ → Bool) → Inv w c b v res F B O
    → ((f : Entry → ℕ) → sum f (F' ++ B') ≡ sum f (F ++ B))
    → All (λ r. mask (not (leb c r.copy)) (adds w r) ≡ 0) B'
    → All (λ r. closed_in F' r.number ≡ false) B'
    → ((t : ℕ) → O' t ≡ true → closed_in F' t ≡ false)
    → ((t : ℕ) → closed_in F' t ≡ false → closed_in F t ≡ false)
    → ((t : ℕ) → closed_in F' t ≡ false → O' t ≡ false → O t ≡ false)
    → res' ≡ v ⊕ of_open w O' (F ++ B)
    → Inv w c b v res' F' B' O'
flush_keeps w c b v res res' F B F' B' O O' h same late apart loose mono gone book = record {
  page = rw (same (λ r. mask (leb c r.copy) (adds w r))) h.page;
  late = late;
  apart = apart;
  loose = loose;
  cancel = λ t x y. same (λ r. mask (eqb r.number t) (adds w r)) ∙ h.cancel t (mono t x) (gone t x y);
  book = book ∙ ap (λ (x : ℕ). v ⊕ x) (sym (same (λ r. mask (O' r.number) (adds w r))));
}

-- a checkpoint: the word in the backup that is being written, once the word's page is copied
pub record Copied (w n nb v : ℕ) (L : List Entry) : Type 0 where
  pub page : v ≡ nb ⊕ newer w n L

-- a step copies the page: no record of it has the new epoch
pub copy_page_lem : (w n v : ℕ) (L : List Entry) → newer w n L ≡ 0 → Copied w n v v L
copy_page_lem w n v L h = record { page = rw h (sym (⊕-zero-r v)) }

-- an update while it is written: the record has the new epoch, or changes nothing here
pub append_copied : (w n nb v : ℕ) (F B : List Entry) (r : Entry) → Copied w n nb v (F ++ B) → mask (not (leb n r.copy)) (adds w r) ≡ 0
    → Copied w n nb (v ⊕ adds w r) (F ++ (B ++ r ∷ []))
append_copied w n nb v F B r h new = record {
  page = rw (sum_snoc (λ r. mask (leb n r.copy) (adds w r)) F B r, mask_late (leb n r.copy) (adds w r) new)
      (swap_page nb (newer w n (F ++ B)) (adds w r) v h.page);
}

-- the end: the new epoch counts
pub switch_keeps : (w c n b nb v res : ℕ) (F : List Entry) (O : ℕ → Bool) → Inv w c b v res F [] O → Copied w n nb v (F ++ [])
    → Inv w n nb v res F [] O
switch_keeps w c n b nb v res F O h k = record { page = k.page; late = tt; apart = tt; loose = h.loose; cancel = h.cancel; book = h.book }

shed : (f : Entry → ℕ) (D R B : List Entry) → All (λ r. f r ≡ 0) D → sum f ((D ++ R) ++ B) ≡ sum f (R ++ B)
shed f D R B h = rw (append_assoc D R B) (sum_append f D (R ++ B) ∙ rw (sum_zero f D h) (⊕-zero-l _))

-- Flushed records before a new start go: of transactions that the flushed log closes, and in the backup. The buffer stays.
module _ (w c b v res : ℕ) (D R B : List Entry) (O : ℕ → Bool) (h : Inv w c b v res (D ++ R) B O)
    (old : All (λ r. mask (leb c r.copy) (adds w r) ≡ 0) D)
    (closed : All (λ r. closed_in (D ++ R) r.number ≡ true) D)
    (mono : (t : ℕ) → closed_in (D ++ R) t ≡ false → closed_in R t ≡ false)
    (last : (t : ℕ) → closed_in (D ++ R) t ≡ true → closed_in R t ≡ false → All (λ r. eqb r.number t ≡ false) R) where
  other : (t : ℕ) → closed_in (D ++ R) t ≡ false → (r : Entry) → closed_in (D ++ R) r.number ≡ true → mask (eqb r.number t) (adds w r) ≡ 0
  other t x r y = rw (ne_eqb r.number t (λ e. true_false y (rw e x)))

  not_open_lem : (r : Entry) → closed_in (D ++ R) r.number ≡ true → (o : Bool) → O r.number ≡ o → mask o (adds w r) ≡ 0
  not_open_lem r y true e = true_false y (h.loose r.number e)
  not_open_lem r y false e = refl

  -- no record of the transaction is left, or all that are left are all that there were
  left : (t : ℕ) → closed_in R t ≡ false → O t ≡ false → (k : Bool) → closed_in (D ++ R) t ≡ k → of_txn w t (R ++ B) ≡ 0
  left t x y false e = sym (shed _ D R B (all_map (other t e) D closed)) ∙ h.cancel t e y
  left t x y true e =
      sum_zero _ (R ++ B)
      (all_append _ R B (all_map gone R (last t e x)) (all_map (λ r z. gone r (ne_eqb r.number t (λ s. true_false e (rw s at z)))) B h.apart))
    where
      gone : (r : Entry) → eqb r.number t ≡ false → mask (eqb r.number t) (adds w r) ≡ 0
      gone r e = rw e

  pub drop_keeps : Inv w c b v res R B O
  drop_keeps = record {
    page = h.page ∙ ap (λ (x : ℕ). b ⊕ x) (shed _ D R B old);
    late = h.late;
    apart = all_map (λ r x. mono r.number x) B h.apart;
    loose = λ t x. mono t (h.loose t x);
    cancel = λ t x y. left t x y (closed_in (D ++ R) t) refl;
    book = h.book ∙ ap (λ (x : ℕ). v ⊕ x) (shed _ D R B (all_map (λ r y. not_open_lem r y (O r.number) refl) D closed));
  }

-- a restart's end, and a format: nothing is logged, and the backup is the page memory
pub fresh_word : (w c v : ℕ) → Inv w c v v v [] [] (λ t. false)
unfolding sum
fresh_word w c v = record {
  page = sym (⊕-zero-r v);
  late = tt;
  apart = tt;
  loose = λ t x. true_false x refl;
  cancel = λ t x y. refl;
  book = sym (⊕-zero-r v);
}
