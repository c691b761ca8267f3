-- A checkpoint: a page copied to the other backup, and the last store, which makes that backup count and shortens the log.
use mathlib.Core.Path.{◌≡◌, refl, sym, ap, ◌∙◌}
use mathlib.Core.List.{List, [], ◌++◌, append_assoc, append-nil}
use mathlib.Core.Bool.{Bool, true, false, not, or_comm, cond}
use Prim.Native.Nat.{ℕ, ◌+◌, ◌<◌, ◌≤◌}
use native.Mathlib.Omega.{arith}
use lib.Dec.{leb, eqb}
use borrow.Author.Tests.{leb-true, le-leb, ne_eqb}
use Rattle.model.specs.Word.{◌⊕◌}
use Rattle.model.proofs.Xor.{⊕-zero-l, ⊕-comm}
use Rattle.model.proofs.Ledger.Entry.{sum, mask, All, pick, Entry, adds, closed_in, some}
use Rattle.model.proofs.Ledger.State.{Ledger, copied, switched}
use Rattle.model.proofs.Ledger.Sums.{sum_append, sum_zero, all_map}
use Rattle.model.proofs.Ledger.Picks.{sum_pick, closed_pick, some_append}
use Rattle.model.proofs.Ledger.Word.{Inv, Copied, newer, copy_page_lem, flush_keeps, switch_keeps, drop_keeps}
use Rattle.model.proofs.Ledger.WriteSets.{write_sets_same}
use Rattle.model.proofs.Ledger.Good.{Good}
use Rattle.model.proofs.Ledger.Flush.{neither}
use Rattle.model.proofs.Booleans.{true_false}
use Rattle.model.proofs.Ledger.Lists.{some_halves}

-- ---- a page copied, which was not yet in this checkpoint
module _ {x size : ℕ} {a : Ledger} (in_page : ℕ → Bool) (before : (w : ℕ) → w < size → in_page w ≡ true → a.copies w ≤ a.epoch) (g : Good x size a) where
  copied_word : (w : ℕ) → w < size → (b : Bool) → in_page w ≡ b → a.epoch < cond b (a.epoch + 1) (a.copies w)
      → Copied w (a.epoch + 1) (cond b (a.pages w) (a.other w)) (a.pages w) (a.flushed ++ a.buffered)
  copied_word w i true e h = copy_page_lem w (a.epoch + 1) (a.pages w) (a.flushed ++ a.buffered) (g.older w i (before w i e))
  copied_word w i false e h = g.copied w i h

  number : (w : ℕ) → w < size → (b : Bool) → (a.epoch ≤ cond b (a.epoch + 1) (a.copies w)) × (cond b (a.epoch + 1) (a.copies w) ≤ a.epoch + 1)
  number w i true = omega arith
  number w i false = g.numbers w i

  still_older : (w : ℕ) → w < size → (b : Bool) → cond b (a.epoch + 1) (a.copies w) ≤ a.epoch → newer w (a.epoch + 1) (a.flushed ++ a.buffered) ≡ 0
  still_older w i true h = absurd (omega arith)
  still_older w i false h = g.older w i h

  pub copy_good : Good x size (copied a in_page)
  unfolding copied
  copy_good = record {
    words = g.words;
    write_sets_lem = g.write_sets_lem;
    copied = λ w i. copied_word w i (in_page w) refl;
    numbers = λ w i. number w i (in_page w);
    unclosed = g.unclosed;
    unused = g.unused;
    unlogged = g.unlogged;
    older = λ w i. still_older w i (in_page w);
    bounded = g.bounded;
    nobody = g.nobody;
    counting = g.counting;
  }

-- ---- the last store
-- what its caller has shown
pub record MaySwitch (size : ℕ) (a : Ledger) (retains : Entry → Bool) : Type 0 where
  -- all is flushed and copied
  pub none_buffered : a.buffered ≡ []
  pub all_copied : (w : ℕ) → w < size → a.epoch < a.copies w
  -- what goes is in the new backup, and of finished transactions
  pub old : (w : ℕ) → w < size → All (λ r. mask (leb (a.epoch + 1) r.copy) (adds w r) ≡ 0) (pick (λ r. not (retains r)) a.flushed)
  pub closed : All (λ r. closed_in a.flushed r.number ≡ true) (pick (λ r. not (retains r)) a.flushed)
  -- where a closing record goes, its transaction has nothing in what stays
  pub last : (t : ℕ) → closed_in a.flushed t ≡ true → closed_in (pick retains a.flushed) t ≡ false → All (λ r. eqb r.number t ≡ false) (pick retains a.flushed)

closed_split : (p : Entry → Bool) (l : List Entry) (t : ℕ) → closed_in (pick (λ r. not (p r)) l ++ pick p l) t ≡ closed_in l t
unfolding closed_in
closed_split p l t =
    some_append _ (pick (λ r. not (p r)) l) (pick p l) ∙ or_comm (some _ (pick (λ r. not (p r)) l)) (some _ (pick p l)) ∙ some_halves _ p l

mask_mono : (m n k y : ℕ) → m ≤ n → mask (leb m k) y ≡ 0 → mask (leb n k) y ≡ 0
mask_mono m n k y h e = go (leb n k) refl
  where
    go : (b : Bool) → leb n k ≡ b → mask b y ≡ 0
    go true d = sym (rw (le-leb m k (omega (arith, leb-true n k d)))) ∙ e
    go false d = refl

module _ {size : ℕ} {a : Ledger} {retains : Entry → Bool} (g : Good 0 size a) (may : MaySwitch size a retains) where
  D : List Entry
  D = pick (λ r. not (retains r)) a.flushed

  R : List Entry
  R = pick retains a.flushed

  perm : (f : Entry → ℕ) → sum f ((D ++ R) ++ []) ≡ sum f (a.flushed ++ a.buffered)
  unfolding D R
  perm f =
      rw (may.none_buffered, append-nil (D ++ R), append-nil a.flushed)
      (sum_append f D R ∙ ⊕-comm (sum f D) (sum f R) ∙ sum_pick retains f a.flushed)

  -- a sum that has nothing of what goes
  shed : (f : Entry → ℕ) → All (λ r. f r ≡ 0) D → sum f (R ++ []) ≡ sum f (a.flushed ++ a.buffered)
  shed f h = sym (sym (perm f) ∙ rw (append_assoc D R []) (sum_append f D (R ++ []) ∙ rw (sum_zero f D h) (⊕-zero-l (sum f (R ++ [])))))

  shed_newer : (w n : ℕ) → w < size → a.epoch + 1 ≤ n → newer w n (R ++ []) ≡ newer w n (a.flushed ++ a.buffered)
  unfolding D
  shed_newer w n i h =
      shed (λ r. mask (leb n r.copy) (adds w r)) (all_map (λ r e. mask_mono (a.epoch + 1) n r.copy (adds w r) h e) D (may.old w i))

  whole : (w : ℕ) → w < size → Inv w a.epoch (a.current w) (a.pages w) (a.committed w) (D ++ R) [] a.opened
  unfolding D R
  whole w i =
      flush_keeps w a.epoch (a.current w) (a.pages w) (a.committed w) (a.committed w) a.flushed a.buffered (D ++ R) [] a.opened a.opened
      (g.words w i) perm tt tt
      (λ t o. closed_split retains a.flushed t ∙ (g.words w i).loose t o)
      (λ t h. sym (closed_split retains a.flushed t) ∙ h) (λ t h o. o) (g.words w i).book

  word : (w : ℕ) → w < size → Inv w (a.epoch + 1) (a.other w) (a.pages w) (a.committed w) R [] a.opened
  unfolding D R
  word w i =
      drop_keeps w (a.epoch + 1) (a.other w) (a.pages w) (a.committed w) D R [] a.opened
      (switch_keeps w a.epoch (a.epoch + 1) (a.current w) (a.other w) (a.pages w) (a.committed w) (D ++ R) a.opened (whole w i)
      (record { page = (g.copied w i (may.all_copied w i)).page ∙ ap (λ (y : ℕ). a.other w ⊕ y) (sym (perm _)) }))
      (may.old w i)
      (all_map (λ r h. closed_split retains a.flushed r.number ∙ h) D may.closed)
      (λ t h. closed_pick retains a.flushed t (sym (closed_split retains a.flushed t) ∙ h))
      (λ t h k. may.last t (sym (closed_split retains a.flushed t) ∙ h) k)

  -- a transaction that is not closed has nothing in what goes
  not_there : (w t : ℕ) → closed_in a.flushed t ≡ false → (r : Entry) → closed_in a.flushed r.number ≡ true → mask (eqb r.number t) (adds w r) ≡ 0
  not_there w t h r k = rw (ne_eqb r.number t (λ e. true_false k (rw e h)))

  flat : (t : ℕ) → closed_in (a.flushed ++ a.buffered) t ≡ false → closed_in (R ++ []) t ≡ false
  unfolding R
  flat t h = rw (append-nil R) (closed_pick retains a.flushed t (neither a.flushed a.buffered t h).0)

  pub switch_good : Good 0 size (switched a retains)
  unfolding switched R D
  switch_good = record {
    words = word;
    write_sets_lem = λ w i. write_sets_same 0 w (a.committed w) (a.flushed ++ a.buffered) (R ++ []) a.opened a.writes a.writes (a.owners w)
        (λ u n o. shed (λ r. mask (eqb r.number u) (adds w r)) (all_map (not_there w u ((g.words w i).loose u o)) D may.closed)) (λ u o. refl) (g.write_sets_lem w i);
    copied = λ w i h. absurd (omega (arith, (g.numbers w i).1));
    numbers = λ w i. omega (arith, may.all_copied w i, (g.numbers w i).1);
    unclosed = λ u o. flat u (g.unclosed u o);
    unused = λ u h. (flat u (g.unused u h).0, (g.unused u h).1);
    unlogged = λ w u i h. (word w i).cancel u (rw (append-nil R) at (flat u (g.unused u h).0)) (g.unused u h).1;
    older = λ w i h. shed_newer w (a.epoch + 1 + 1) i (omega arith) ∙ g.bounded w (a.epoch + 1 + 1) i (omega arith);
    bounded = λ w n i h. shed_newer w n i (omega arith) ∙ g.bounded w n i (omega arith);
    nobody = g.nobody;
    counting = g.counting;
  }
