-- The ledger's invariant, what it gives a reader, and how it begins: a format or a restart, and the begin of a transaction.
use mathlib.Core.Path.{◌≡◌, refl, sym, ap, ◌∙◌, fun_ext}
use mathlib.Core.List.{List, [], ◌++◌}
use mathlib.Core.Bool.{Bool, true, false, ◌||◌, cond}
use Prim.Native.Nat.{ℕ, ◌+◌, ◌<◌, ◌≤◌}
use native.Mathlib.Omega.{arith}
use lib.Dec.{eqb}
use borrow.Author.Tests.{eqb-true, eq-eqb, ne_eqb}
use Rattle.model.specs.Word.{◌⊕◌}
use Rattle.model.proofs.Xor.{xor, ⊕-zero-l, ⊕-zero-r}
use Rattle.model.proofs.Ledger.Entry.{sum, some, mask, Entry, adds, closed_in, chosen, patched}
use Rattle.model.proofs.Ledger.State.{Ledger, including, begun, fresh, Same}
use Rattle.model.proofs.Ledger.Sums.{sum_ext, sum_xor, all_of}
use Rattle.model.proofs.Ledger.Picks.{closed_append}
use Rattle.model.proofs.Ledger.Groups.{sum_by_key}
use Rattle.model.proofs.Ledger.Word.{Inv, Copied, newer, of_txn, of_open, recovers_word, fresh_word}
use Rattle.model.proofs.Ledger.WriteSets.{WriteSets, write_sets_same, write_sets_exempt, not_shut, open_one}
use Rattle.model.proofs.Booleans.{true_false, or_none}

-- The invariant of the words below `size`. Transaction x is inside an abort: its writes no longer count (0: there is none).
pub record Good (x size : ℕ) (a : Ledger) : Type 0 where
  pub words : (w : ℕ) → w < size → Inv w a.epoch (a.current w) (a.pages w) (a.committed w) a.flushed a.buffered a.opened
  pub write_sets_lem : (w : ℕ) → w < size → WriteSets x w (a.committed w) (a.flushed ++ a.buffered) a.opened a.writes (a.owners w)
  -- a page copied in this checkpoint has the next epoch, and lies in the other backup; what came later has that epoch
  pub copied : (w : ℕ) → w < size → a.epoch < a.copies w → Copied w (a.epoch + 1) (a.other w) (a.pages w) (a.flushed ++ a.buffered)
  pub numbers : (w : ℕ) → w < size → (a.epoch ≤ a.copies w) × (a.copies w ≤ a.epoch + 1)
  pub unclosed : (t : ℕ) → a.opened t ≡ true → closed_in (a.flushed ++ a.buffered) t ≡ false
  -- numbers not yet handed out
  pub unused : (t : ℕ) → a.next ≤ t → (closed_in (a.flushed ++ a.buffered) t ≡ false) × (a.opened t ≡ false)
  pub unlogged : (w t : ℕ) → w < size → a.next ≤ t → of_txn w t (a.flushed ++ a.buffered) ≡ 0
  -- the records' copies: no later than the page's, and never past the next checkpoint's
  pub older : (w : ℕ) → w < size → a.copies w ≤ a.epoch → newer w (a.epoch + 1) (a.flushed ++ a.buffered) ≡ 0
  pub bounded : (w n : ℕ) → w < size → a.epoch + 2 ≤ n → newer w n (a.flushed ++ a.buffered) ≡ 0
  -- number 0 is no transaction's
  pub nobody : a.opened 0 ≡ false
  pub counting : 1 ≤ a.next

-- ---- what it gives
-- after a cut, the current backup with restart's choice of the flushed records is the committed word
pub recovers : {x size : ℕ} {a : Ledger} → Good x size a → (w : ℕ) → w < size
    → a.current w ⊕ sum (λ r. mask (chosen (closed_in a.flushed) a.epoch r) (adds w r)) a.flushed ≡ a.committed w
recovers {a = a} g w i =
    recovers_word w a.epoch (a.current w) (a.pages w) (a.committed w) a.flushed a.buffered a.opened (g.words w i)

-- a word of an open owner's slot is the committed one with the owner's writes
pub plain_table_lem : {size : ℕ} {a : Ledger} → Good 0 size a → (w : ℕ) → w < size → a.opened (a.owners w) ≡ true
    → a.pages w ≡ patched w (a.writes (a.owners w)) (a.committed w)
plain_table_lem {size} {a} g w i o =
    sym ((g.write_sets_lem w i).adds_up t (not_shut a.opened 0 t g.nobody o) o ∙ twice (a.pages w) (of_txn w t L) (a.committed w) only)
  where
    t : ℕ
    t = a.owners w

    L : List Entry
    L = a.flushed ++ a.buffered

    only : a.committed w ≡ a.pages w ⊕ of_txn w t L
    only = (g.words w i).book ∙ ap (λ (y : ℕ). a.pages w ⊕ y)
        (open_one w a.opened t L o (λ s z n. (g.write_sets_lem w i).no_record s (not_shut a.opened 0 s g.nobody z) z n))

    twice : (v y c : ℕ) → c ≡ v ⊕ y → c ⊕ y ≡ v
    twice v y c e = rw e (simp xor)

-- and any other word is the committed one
pub plain_table_free : {size : ℕ} {a : Ledger} → Good 0 size a → (w : ℕ) → w < size → a.opened (a.owners w) ≡ false → a.pages w ≡ a.committed w
plain_table_free {size} {a} g w i o =
    sym ((g.words w i).book ∙ rw (sum_by_key (λ r. r.number) (adds w) a.opened (a.flushed ++ a.buffered) none) (⊕-zero-r (a.pages w)))
  where
    none : (t : ℕ) → a.opened t ≡ true → of_txn w t (a.flushed ++ a.buffered) ≡ 0
    none t z = (g.write_sets_lem w i).no_record t (not_shut a.opened 0 t g.nobody z) z (not_shut a.opened (a.owners w) t o z)

-- ---- a ledger that agrees, and an abort that begins
pub good_same : {x size : ℕ} {a b : Ledger} → Same size a b → Good x size a → Good x size b
good_same {x} {size} {a} {b} s g = record {
  words = λ w i. rw (← s.epoch, ← s.current w i, ← s.pages w i, ← s.committed w i, ← s.flushed, ← s.buffered, ← opened) (g.words w i);
  write_sets_lem = λ w i. rw (← s.committed w i, ← s.flushed, ← s.buffered, ← opened, ← s.owners w i)
      (write_sets_same x w (a.committed w) (a.flushed ++ a.buffered) (a.flushed ++ a.buffered) a.opened a.writes b.writes (a.owners w)
      (λ u n o. refl) s.writes (g.write_sets_lem w i));
  copied = λ w i. rw (← s.epoch, ← s.copies w i, ← s.other w i, ← s.pages w i, ← s.flushed, ← s.buffered) (g.copied w i);
  numbers = λ w i. rw (← s.epoch, ← s.copies w i) (g.numbers w i);
  unclosed = rw (← s.flushed, ← s.buffered, ← opened) g.unclosed;
  unused = rw (← s.flushed, ← s.buffered, ← opened, ← s.next) g.unused;
  unlogged = rw (← s.flushed, ← s.buffered, ← s.next) g.unlogged;
  older = λ w i. rw (← s.epoch, ← s.copies w i, ← s.flushed, ← s.buffered) (g.older w i);
  bounded = rw (← s.epoch, ← s.flushed, ← s.buffered) g.bounded;
  nobody = rw (← opened) g.nobody;
  counting = rw (← s.next) g.counting;
}
  where
    opened : a.opened ≡ b.opened
    opened = fun_ext s.opened

pub good_exempt : {size : ℕ} {a : Ledger} (x : ℕ) → Good 0 size a → Good x size a
good_exempt {size} {a} x g = record {
  words = g.words;
  write_sets_lem = λ w i. write_sets_exempt 0 x w (a.committed w) (a.flushed ++ a.buffered) a.opened a.writes (a.owners w) g.nobody (g.write_sets_lem w i);
  copied = g.copied;
  numbers = g.numbers;
  unclosed = g.unclosed;
  unused = g.unused;
  unlogged = g.unlogged;
  older = g.older;
  bounded = g.bounded;
  nobody = g.nobody;
  counting = g.counting;
}

-- ---- a format, and a restart's end
pub fresh_good : {size : ℕ} (c : ℕ) (words other owners : ℕ → ℕ) → Good 0 size (fresh c words other owners)
unfolding fresh sum closed_in some
fresh_good c words other owners = record {
  words = λ w i. fresh_word w c (words w);
  write_sets_lem = λ w i. record { adds_up = λ t n o. true_false o refl; no_record = λ t n o. true_false o refl; no_entry = λ t n o. true_false o refl };
  copied = λ w i h. absurd (omega arith);
  numbers = λ w i. omega arith;
  unclosed = λ t o. refl;
  unused = λ t h. (refl, refl);
  unlogged = λ w t i h. refl;
  older = λ w i h. refl;
  bounded = λ w n i h. refl;
  nobody = refl;
  counting = omega arith;
}

-- ---- begin
mask_including : (O : ℕ → Bool) (t u y : ℕ) → O t ≡ false → mask (including O t u) y ≡ mask (O u) y ⊕ mask (eqb u t) y
mask_including O t u y h = go (eqb u t) (O u) refl refl
  where
    go : (b o : Bool) → eqb u t ≡ b → O u ≡ o → mask (o || b) y ≡ mask o y ⊕ mask b y
    go true true e p = true_false p (rw (eqb-true u t e) h)
    go true false e p = sym (⊕-zero-l y)
    go false true e p = sym (⊕-zero-r y)
    go false false e p = sym (⊕-zero-l 0)

open_including : (w : ℕ) (O : ℕ → Bool) (t : ℕ) (L : List Entry) → O t ≡ false → of_txn w t L ≡ 0 → of_open w (including O t) L ≡ of_open w O L
open_including w O t L h e =
    sum_ext _ _ L (all_of (λ r. mask_including O t r.number (adds w r) h) L) ∙ sum_xor _ _ L ∙ rw e (⊕-zero-r (of_open w O L))

-- an open one is the new one or was open
pub newly : (O : ℕ → Bool) (t u : ℕ) (X : Type 0) → including O t u ≡ true → (u ≡ t → X) → (eqb u t ≡ false → O u ≡ true → X) → X
newly O t u X h f k = go (O u) (eqb u t) refl refl h
  where
    go : (o b : Bool) → O u ≡ o → eqb u t ≡ b → o || b ≡ true → X
    go o true p q z = f (eqb-true u t q)
    go true false p q z = k q p
    go false false p q z = true_false z refl

module _ {size : ℕ} {a : Ledger} (g : Good 0 size a) where
  new_closed : closed_in (a.flushed ++ a.buffered) a.next ≡ false
  new_closed = (g.unused a.next (omega arith)).0

  new_shut : a.opened a.next ≡ false
  new_shut = (g.unused a.next (omega arith)).1

  word : (w : ℕ) → w < size
      → Inv w a.epoch (a.current w) (a.pages w) (a.committed w) a.flushed a.buffered (including a.opened a.next)
  word w i = record {
    page = (g.words w i).page;
    late = (g.words w i).late;
    apart = (g.words w i).apart;
    loose = λ u o. newly a.opened a.next u _ o
        (λ e. rw e (or_none (closed_in a.flushed a.next) (closed_in a.buffered a.next)
        (sym (closed_append a.flushed a.buffered a.next) ∙ new_closed)).0)
        (λ n p. (g.words w i).loose u p);
    cancel = λ u y o. (g.words w i).cancel u y (or_none (a.opened u) (eqb u a.next) o).0;
    book = (g.words w i).book ∙ ap (λ (y : ℕ). a.pages w ⊕ y)
        (sym (open_including w a.opened a.next (a.flushed ++ a.buffered) new_shut (g.unlogged w a.next i (omega arith))));
  }

  accounts : (w : ℕ) → w < size → WriteSets 0 w (a.committed w) (a.flushed ++ a.buffered) (including a.opened a.next)
      (λ u. cond (eqb u a.next) [] (a.writes u)) (a.owners w)
  unfolding patched
  accounts w i = record {
    adds_up = λ u k o. newly a.opened a.next u _ o
        (λ e. rw (eq-eqb u a.next e, e, g.unlogged w a.next i (omega arith)) (sym (⊕-zero-r (a.committed w))))
        (λ n p. rw n ((g.write_sets_lem w i).adds_up u k p));
    no_record = λ u k o h. newly a.opened a.next u _ o
        (λ e. rw e (g.unlogged w a.next i (omega arith))) (λ n p. (g.write_sets_lem w i).no_record u k p h);
    no_entry = λ u k o h y. newly a.opened a.next u _ o
        (λ e. rw (eq-eqb u a.next e)) (λ n p. rw n ((g.write_sets_lem w i).no_entry u k p h y));
  }

  pub begin_good : Good 0 size (begun a)
  unfolding begun
  begin_good = record {
    words = word;
    write_sets_lem = accounts;
    copied = g.copied;
    numbers = g.numbers;
    unclosed = λ u o. newly a.opened a.next u _ o (λ e. rw e new_closed) (λ n p. g.unclosed u p);
    unused = λ u h. ((g.unused u (omega arith)).0, rw ((g.unused u (omega arith)).1, ne_eqb u a.next (λ e. omega arith)));
    unlogged = λ w u i h. g.unlogged w u i (omega arith);
    older = g.older;
    bounded = g.bounded;
    nobody = rw (g.nobody, ne_eqb 0 a.next (λ e. omega (arith, g.counting)));
    counting = omega (arith, g.counting);
  }
