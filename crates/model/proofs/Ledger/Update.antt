-- An update and a compensation: the record of a change is buffered, and the pages take its difference.
use mathlib.Core.Path.{◌≡◌, refl, sym, ◌∙◌}
use mathlib.Core.List.{List, [], ◌∷◌, ◌++◌, append_assoc}
use mathlib.Core.Bool.{Bool, true, false, not, cond}
use Prim.Native.Nat.{ℕ, ◌+◌, ◌-◌, ◌<◌, ◌≤◌}
use native.Mathlib.Omega.{arith}
use lib.Dec.{leb, eqb}
use lib.ListN.{length, get_or}
use borrow.Author.Tests.{ne_eqb, le-leb, lt-leb}
use Rattle.model.specs.Word.{◌⊕◌}
use Rattle.model.proofs.Xor.{⊕-zero-l, ⊕-zero-r}
use Rattle.model.proofs.Ledger.Entry.{mask, some, Entry, is_close, adds, share, spanning, closed_in, Patch, patch}
use Rattle.model.proofs.Ledger.State.{Ledger, logged, updated}
use Rattle.model.proofs.Ledger.Sums.{mask_zero}
use Rattle.model.proofs.Ledger.Picks.{closed_append}
use Rattle.model.proofs.Ledger.Word.{Inv, Copied, newer, of_txn, append_keeps, append_copied, sum_snoc, txn_differs}
use Rattle.model.proofs.Ledger.WriteSets.{WriteSets, write_sets_same, noted, updated_writes, updated_elsewhere}
use Rattle.model.proofs.Ledger.Good.{Good}

-- a change adds its difference within its slot, and nothing outside
pub adds_in : (w : ℕ) (r : Entry) → is_close r ≡ false → spanning r.at (length r.diff) w ≡ true → adds w r ≡ get_or r.diff (w - r.at) 0
unfolding adds share
adds_in w r c e = rw (c, e)

pub adds_out : (w : ℕ) (r : Entry) → spanning r.at (length r.diff) w ≡ false → adds w r ≡ 0
unfolding adds share
adds_out w r e = rw e (mask_zero (not (is_close r)))

-- ---- the record of a change, of an open transaction, with the epoch of its page
module _ {x size : ℕ} {a : Ledger} (r : Entry) (g : Good x size a) (opened : a.opened r.number ≡ true) (change : is_close r ≡ false)
    (copies : (w : ℕ) → w < size → spanning r.at (length r.diff) w ≡ true → a.copies w ≡ r.copy) where
  -- the record's epoch is late enough wherever it adds something
  high : (n w : ℕ) → w < size → n ≤ a.copies w → (b : Bool) → spanning r.at (length r.diff) w ≡ b
      → mask (not (leb n r.copy)) (adds w r) ≡ 0
  high n w i h true e = rw (le-leb n r.copy (omega (arith, copies w i e)))
  high n w i h false e = rw (adds_out w r e) (mask_zero (not (leb n r.copy)))

  -- and too early for a later checkpoint
  low : (n w : ℕ) → w < size → a.copies w < n → (b : Bool) → spanning r.at (length r.diff) w ≡ b → mask (leb n r.copy) (adds w r) ≡ 0
  low n w i h true e = rw (lt-leb n r.copy (omega (arith, copies w i e)))
  low n w i h false e = rw (adds_out w r e) (mask_zero (leb n r.copy))

  word : (w : ℕ) → w < size
      → Inv w a.epoch (a.current w) (a.pages w ⊕ adds w r) (a.committed w) a.flushed (a.buffered ++ r ∷ []) a.opened
  word w i =
      append_keeps w a.epoch (a.current w) (a.pages w) (a.committed w) a.flushed a.buffered a.opened r (g.words w i)
      (high a.epoch w i (g.numbers w i).0 (spanning r.at (length r.diff) w) refl) opened

  copied_word : (w : ℕ) → w < size → a.epoch < a.copies w
      → Copied w (a.epoch + 1) (a.other w) (a.pages w ⊕ adds w r) (a.flushed ++ (a.buffered ++ r ∷ []))
  copied_word w i h =
      append_copied w (a.epoch + 1) (a.other w) (a.pages w) a.flushed a.buffered r (g.copied w i h)
      (high (a.epoch + 1) w i (omega arith) (spanning r.at (length r.diff) w) refl)

  none_newer : (w n : ℕ) → w < size → a.copies w < n → newer w n (a.flushed ++ a.buffered) ≡ 0
      → newer w n (a.flushed ++ (a.buffered ++ r ∷ [])) ≡ 0
  none_newer w n i h e =
      sum_snoc (λ r. mask (leb n r.copy) (adds w r)) a.flushed a.buffered r
      ∙ rw (low n w i h (spanning r.at (length r.diff) w) refl, e) (⊕-zero-l 0)

  no_close : (u : ℕ) → closed_in (r ∷ []) u ≡ false
  unfolding closed_in some
  no_close u = rw change

  still : (u : ℕ) → closed_in (a.flushed ++ a.buffered) u ≡ false → closed_in (a.flushed ++ (a.buffered ++ r ∷ [])) u ≡ false
  still u h = rw (← append_assoc a.flushed a.buffered (r ∷ []), closed_append (a.flushed ++ a.buffered) (r ∷ []) u, h) (no_close u)

  -- the other transactions' records are the same
  others : (w u : ℕ) → (r.number ≡ u → ⊥) → of_txn w u (a.flushed ++ (a.buffered ++ r ∷ [])) ≡ of_txn w u (a.flushed ++ a.buffered)
  others w u n =
      sum_snoc (λ r. mask (eqb r.number u) (adds w r)) a.flushed a.buffered r
      ∙ rw (ne_eqb r.number u n) (⊕-zero-r (of_txn w u (a.flushed ++ a.buffered)))

  none_logged : (w u : ℕ) → w < size → a.next ≤ u → of_txn w u (a.flushed ++ (a.buffered ++ r ∷ [])) ≡ 0
  none_logged w u i h =
      sum_snoc (λ r. mask (eqb r.number u) (adds w r)) a.flushed a.buffered r
      ∙ rw (txn_differs a.opened r.number u opened (g.unused u h).1, g.unlogged w u i h) (⊕-zero-l 0)

-- ---- update
-- what its caller has shown
pub record MayUpdate (size : ℕ) (a : Ledger) (r : Entry) (value : List ℕ) : Type 0 where
  pub opened : a.opened r.number ≡ true
  pub change : is_close r ≡ false
  -- the difference of the slot's words and the value
  pub lengths : length r.diff ≡ length value
  pub differs : (w : ℕ) → w < size → spanning r.at (length value) w ≡ true → get_or r.diff (w - r.at) 0 ≡ a.pages w ⊕ get_or value (w - r.at) 0
  -- the slot is free or the transaction's own
  pub free : (w : ℕ) → w < size → spanning r.at (length value) w ≡ true → (u : ℕ) → a.opened u ≡ true → (u ≡ r.number → ⊥) → u ≡ a.owners w → ⊥
  -- the record has the epoch of its page
  pub copy : (w : ℕ) → w < size → spanning r.at (length value) w ≡ true → a.copies w ≡ r.copy

module _ {size : ℕ} {a : Ledger} {r : Entry} {value : List ℕ} (g : Good 0 size a) (may : MayUpdate size a r value) where
  write : Patch
  write = record { at = r.at; value = value }

  copies : (w : ℕ) → w < size → spanning r.at (length r.diff) w ≡ true → a.copies w ≡ r.copy
  copies w i e = may.copy w i (rw may.lengths at e)

  accounts : (w : ℕ) → w < size → (b : Bool) → spanning r.at (length value) w ≡ b
      → WriteSets 0 w (a.committed w) ((a.flushed ++ a.buffered) ++ r ∷ []) a.opened (noted a.writes r.number write) (cond b r.number (a.owners w))
  unfolding write patch
  accounts w i true e =
      updated_writes 0 w (a.pages w) (a.committed w) (get_or value (w - r.at) 0) (a.flushed ++ a.buffered) a.opened a.writes (a.owners w) r write
      (g.write_sets_lem w i) g.nobody may.opened (g.words w i).book (may.free w i e) (λ y. rw e)
      (adds_in w r may.change (rw may.lengths e) ∙ may.differs w i e)
  accounts w i false e =
      updated_elsewhere 0 w (a.committed w) (a.flushed ++ a.buffered) a.opened a.writes (a.owners w) r write
      (g.write_sets_lem w i) (λ y. rw e) (adds_out w r (rw may.lengths e))

  pub update_good : Good 0 size (updated a r value)
  unfolding updated write
  update_good = record {
    words = word r g may.opened may.change copies;
    write_sets_lem = λ w i. rw (← append_assoc a.flushed a.buffered (r ∷ [])) (accounts w i (spanning r.at (length value) w) refl);
    copied = copied_word r g may.opened may.change copies;
    numbers = g.numbers;
    unclosed = λ u o. still r g may.opened may.change copies u (g.unclosed u o);
    unused = λ u h. (still r g may.opened may.change copies u (g.unused u h).0, (g.unused u h).1);
    unlogged = none_logged r g may.opened may.change copies;
    older = λ w i h. none_newer r g may.opened may.change copies w (a.epoch + 1) i (omega arith) (g.older w i h);
    bounded = λ w n i h. none_newer r g may.opened may.change copies w n i (omega (arith, (g.numbers w i).1)) (g.bounded w n i h);
    nobody = g.nobody;
    counting = g.counting;
  }

-- ---- a compensation: inside the abort, nothing is claimed of the transaction's writes
pub compensate_good : {size : ℕ} {a : Ledger} (r : Entry) → Good r.number size a → a.opened r.number ≡ true → is_close r ≡ false
    → ((w : ℕ) → w < size → spanning r.at (length r.diff) w ≡ true → a.copies w ≡ r.copy) → Good r.number size (logged a r)
unfolding logged
compensate_good {size} {a} r g opened change copies = record {
  words = word r g opened change copies;
  write_sets_lem = λ w i. write_sets_same r.number w (a.committed w) (a.flushed ++ a.buffered) (a.flushed ++ (a.buffered ++ r ∷ [])) a.opened a.writes a.writes (a.owners w)
      (λ u n o. others r g opened change copies w u (λ e. n (sym e))) (λ u o. refl) (g.write_sets_lem w i);
  copied = copied_word r g opened change copies;
  numbers = g.numbers;
  unclosed = λ u o. still r g opened change copies u (g.unclosed u o);
  unused = λ u h. (still r g opened change copies u (g.unused u h).0, (g.unused u h).1);
  unlogged = none_logged r g opened change copies;
  older = λ w i h. none_newer r g opened change copies w (a.epoch + 1) i (omega arith) (g.older w i h);
  bounded = λ w n i h. none_newer r g opened change copies w n i (omega (arith, (g.numbers w i).1)) (g.bounded w n i h);
  nobody = g.nobody;
  counting = g.counting;
}
