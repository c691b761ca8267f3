-- The two ends of a transaction: an abort's closing record, and a commit's flush.
use mathlib.Core.Path.{◌≡◌, refl, sym, ap, ◌∙◌}
use mathlib.Core.List.{List, [], ◌∷◌, ◌++◌, append_assoc}
use mathlib.Core.Bool.{Bool, true, false, not, ◌&&◌, ◌||◌}
use Prim.Native.Nat.{ℕ, ◌+◌, ◌<◌}
use lib.Dec.{leb, eqb}
use borrow.Author.Tests.{eqb-false, ne_eqb}
use Rattle.model.specs.Word.{◌⊕◌}
use Rattle.model.proofs.Xor.{xor, ⊕-zero-r, ⊕-assoc}
use Rattle.model.proofs.Ledger.Entry.{sum, some, mask, All, pick, Entry, is_close, adds, closed_in, on_disk, patched}
use Rattle.model.proofs.Ledger.State.{Ledger, except, aborted_by, committed_by}
use Rattle.model.proofs.Ledger.Sums.{mask_zero, sum_append, all_zip, all_right}
use Rattle.model.proofs.Ledger.Picks.{sum_pick, all_pick, closed_append, closed_pick}
use Rattle.model.proofs.Ledger.Word.{Inv, of_txn, append_keeps, abort_keeps, flush_keeps, sum_snoc, except_open}
use Rattle.model.proofs.Ledger.WriteSets.{WriteSets, write_sets_same, committed_writes, commit_others, not_shut}
use Rattle.model.proofs.Ledger.Good.{Good}
use Rattle.model.proofs.Ledger.Flush.{neither, elsewhere, stays}
use Rattle.model.proofs.Booleans.{true_false, or_none}

-- ---- a closing record adds nothing to a word, and closes its transaction alone
pub adds_close : (w : ℕ) (r : Entry) → is_close r ≡ true → adds w r ≡ 0
unfolding adds
adds_close w r c = rw c

masked_close : (w : ℕ) (r : Entry) → is_close r ≡ true → (b : Bool) → mask b (adds w r) ≡ 0
masked_close w r c b = rw (adds_close w r c) (mask_zero b)

pub closes_one : (r : Entry) → is_close r ≡ true → (u : ℕ) → closed_in (r ∷ []) u ≡ eqb r.number u
unfolding closed_in some
closes_one r c u = rw c (go (eqb r.number u))
  where
    go : (b : Bool) → b || false ≡ b
    go true = refl
    go false = refl

-- it has no part in any sum
close_none : (w : ℕ) (p : Entry → Bool) (F B : List Entry) (r : Entry) → is_close r ≡ true
    → sum (λ q. mask (p q) (adds w q)) (F ++ (B ++ r ∷ [])) ≡ sum (λ q. mask (p q) (adds w q)) (F ++ B)
close_none w p F B r c = sum_snoc (λ q. mask (p q) (adds w q)) F B r ∙ rw (masked_close w r c (p r)) (⊕-zero-r (sum (λ q. mask (p q) (adds w q)) (F ++ B)))

-- the closing record in the buffer, of a transaction that is still open
closing_word : {x size : ℕ} {a : Ledger} (r : Entry) → Good x size a → is_close r ≡ true → a.opened r.number ≡ true → (w : ℕ) → w < size
    → Inv w a.epoch (a.current w) (a.pages w) (a.committed w) a.flushed (a.buffered ++ r ∷ []) a.opened
closing_word {a = a} r g c opened w i =
    rw (adds_close w r c, ⊕-zero-r (a.pages w)) at
    (append_keeps w a.epoch (a.current w) (a.pages w) (a.committed w) a.flushed a.buffered a.opened r (g.words w i)
    (masked_close w r c (not (leb a.epoch r.copy))) opened)

-- ---- an abort's end: the transaction's records cancel
module _ {size : ℕ} {a : Ledger} (r : Entry) (g : Good r.number size a) (opened : a.opened r.number ≡ true) (c : is_close r ≡ true)
    (cancels : (w : ℕ) → w < size → of_txn w r.number (a.flushed ++ a.buffered) ≡ 0) where
  sums : (w : ℕ) (p : Entry → Bool) → sum (λ q. mask (p q) (adds w q)) (a.flushed ++ (a.buffered ++ r ∷ [])) ≡ sum (λ q. mask (p q) (adds w q)) (a.flushed ++ a.buffered)
  sums w p = close_none w p a.flushed a.buffered r c

  still : (u : ℕ) → (u ≡ r.number → ⊥) → closed_in (a.flushed ++ a.buffered) u ≡ false → closed_in (a.flushed ++ (a.buffered ++ r ∷ [])) u ≡ false
  still u n h =
      rw (← append_assoc a.flushed a.buffered (r ∷ []))
      (closed_append (a.flushed ++ a.buffered) (r ∷ []) u ∙ rw (h, closes_one r c u) (ne_eqb r.number u (λ e. n (sym e))))

  accounts : (w : ℕ) → w < size
      → WriteSets 0 w (a.committed w) (a.flushed ++ (a.buffered ++ r ∷ [])) (except a.opened r.number) a.writes (a.owners w)
  accounts w i = record {
    adds_up = λ u k o.
        let p : (a.opened u ≡ true) × (u ≡ r.number → ⊥) = except_open a.opened r.number u o in
        (g.write_sets_lem w i).adds_up u p.1 p.0 ∙ ap (λ (y : ℕ). a.committed w ⊕ y) (sym (sums w (λ q. eqb q.number u)));
    no_record = λ u k o n.
        let p : (a.opened u ≡ true) × (u ≡ r.number → ⊥) = except_open a.opened r.number u o in
        sums w (λ q. eqb q.number u) ∙ (g.write_sets_lem w i).no_record u p.1 p.0 n;
    no_entry = λ u k o n.
        let p : (a.opened u ≡ true) × (u ≡ r.number → ⊥) = except_open a.opened r.number u o in
        (g.write_sets_lem w i).no_entry u p.1 p.0 n;
  }

  pub abort_good : Good 0 size (aborted_by a r)
  unfolding aborted_by
  abort_good = record {
    words = λ w i.
        abort_keeps w a.epoch (a.current w) (a.pages w) (a.committed w) a.flushed (a.buffered ++ r ∷ []) a.opened r.number
        (closing_word r g c opened w i) opened (sums w (λ q. eqb q.number r.number) ∙ cancels w i);
    write_sets_lem = accounts;
    copied = λ w i h. record {
      page = (g.copied w i h).page ∙ ap (λ (y : ℕ). a.other w ⊕ y) (sym (sums w (λ q. leb (a.epoch + 1) q.copy)));
    };
    numbers = g.numbers;
    unclosed = λ u o. still u (except_open a.opened r.number u o).1 (g.unclosed u (except_open a.opened r.number u o).0);
    unused = λ u h. (still u (λ e. true_false opened (rw (sym e) (g.unused u h).1)) (g.unused u h).0, rw (g.unused u h).1);
    unlogged = λ w u i h. sums w (λ q. eqb q.number u) ∙ g.unlogged w u i h;
    older = λ w i h. sums w (λ q. leb (a.epoch + 1) q.copy) ∙ g.older w i h;
    bounded = λ w n i h. sums w (λ q. leb n q.copy) ∙ g.bounded w n i h;
    nobody = rw g.nobody;
    counting = g.counting;
  }

-- ---- commit: the flush of the transaction's disk, its closing record last
regroup : (f p n q : ℕ) → (f ⊕ (p ⊕ q)) ⊕ n ≡ (f ⊕ (p ⊕ n)) ⊕ q
regroup f p n q = simp xor

module _ {size : ℕ} {a : Ledger} (home : ℕ → ℕ) (r : Entry) (homed : All (λ q. q.disk ≡ home q.number) (a.flushed ++ a.buffered))
    (there : r.disk ≡ home r.number) (c : is_close r ≡ true) (opened : a.opened r.number ≡ true) (g : Good 0 size a) where
  gone : List Entry
  gone = pick (on_disk r.disk) a.buffered

  rest : List Entry
  rest = pick (λ q. not (on_disk r.disk q)) a.buffered

  log : List Entry
  log = a.flushed ++ (gone ++ r ∷ [])

  -- the records are the same, with the closing one more
  same : (f : Entry → ℕ) → sum f (log ++ rest) ≡ sum f (a.flushed ++ (a.buffered ++ r ∷ []))
  unfolding log gone rest
  same f =
      let last : List Entry = r ∷ [] in
      sum_append f log rest
      ∙ ap (λ (y : ℕ). y ⊕ sum f rest) (sum_append f a.flushed (gone ++ last) ∙ ap (λ (y : ℕ). sum f a.flushed ⊕ y) (sum_append f gone last))
      ∙ regroup (sum f a.flushed) (sum f gone) (sum f rest) (sum f last)
      ∙ ap (λ (y : ℕ). (sum f a.flushed ⊕ y) ⊕ sum f last) (sum_pick (on_disk r.disk) f a.buffered)
      ∙ ⊕-assoc (sum f a.flushed) (sum f a.buffered) (sum f last)
      ∙ sym (sum_append f a.flushed (a.buffered ++ last) ∙ ap (λ (y : ℕ). sum f a.flushed ⊕ y) (sum_append f a.buffered last))

  commit_sums : (w : ℕ) (p : Entry → Bool) → sum (λ q. mask (p q) (adds w q)) (log ++ rest) ≡ sum (λ q. mask (p q) (adds w q)) (a.flushed ++ a.buffered)
  commit_sums w p = same (λ q. mask (p q) (adds w q)) ∙ close_none w p a.flushed a.buffered r c

  closed_log : (u : ℕ) → closed_in log u ≡ (closed_in a.flushed u || (closed_in gone u || eqb r.number u))
  unfolding log
  closed_log u =
      closed_append a.flushed (gone ++ r ∷ []) u
      ∙ ap (λ (b : Bool). closed_in a.flushed u || b) (closed_append gone (r ∷ []) u ∙ ap (λ (b : Bool). closed_in gone u || b) (closes_one r c u))

  other_disk : (q : Entry) → eqb (home q.number) r.disk ≡ false → closed_in a.flushed q.number ≡ false → closed_in log q.number ≡ false
  unfolding gone
  other_disk q y z =
      closed_log q.number
      ∙ rw (
        z,
        elsewhere home a.buffered (all_right _ a.flushed a.buffered homed) r.disk q.number y,
        ne_eqb r.number q.number (λ e. eqb-false _ _ y (ap home (sym e) ∙ sym there)),
      )

  -- a transaction that was closed nowhere, and is another, is closed nowhere
  unclosed_log : (u : ℕ) → (u ≡ r.number → ⊥) → closed_in (a.flushed ++ a.buffered) u ≡ false → (closed_in log u ≡ false) × (closed_in (log ++ rest) u ≡ false)
  unfolding gone rest
  unclosed_log u n h =
      let p : (closed_in a.flushed u ≡ false) × (closed_in a.buffered u ≡ false) = neither a.flushed a.buffered u h in
      let m : closed_in log u ≡ false =
      closed_log u ∙ rw (p.0, closed_pick (on_disk r.disk) a.buffered u p.1, ne_eqb r.number u (λ e. n (sym e))) in
      (m, closed_append log rest u ∙ rw (m, closed_pick (λ q. not (on_disk r.disk q)) a.buffered u p.1))

  still_open : (u : ℕ) → except a.opened r.number u ≡ true → (closed_in log u ≡ false) × (closed_in (log ++ rest) u ≡ false)
  still_open u o =
      let p : (a.opened u ≡ true) × (u ≡ r.number → ⊥) = except_open a.opened r.number u o in
      unclosed_log u p.1 (g.unclosed u p.0)

  parts : (u : ℕ) → closed_in log u ≡ false → (closed_in a.flushed u ≡ false) × (eqb r.number u ≡ false)
  parts u h =
      let p : (closed_in a.flushed u ≡ false) × (closed_in gone u || eqb r.number u ≡ false) = or_none _ _ (sym (closed_log u) ∙ h) in
      (p.0, (or_none (closed_in gone u) (eqb r.number u) p.1).1)

  was_shut : (u : ℕ) → closed_in log u ≡ false → except a.opened r.number u ≡ false → a.opened u ≡ false
  was_shut u h o = go (a.opened u) (rw (ne_eqb u r.number (λ e. eqb-false r.number u (parts u h).1 (sym e))) at o)
    where
      go : (b : Bool) → b && true ≡ false → b ≡ false
      go true z = z
      go false z = refl

  not_none : r.number ≡ 0 → ⊥
  not_none = not_shut a.opened 0 r.number g.nobody opened

  committed_word : (w : ℕ) → w < size
      → Inv w a.epoch (a.current w) (a.pages w) (patched w (a.writes r.number) (a.committed w)) log rest (except a.opened r.number)
  unfolding rest
  committed_word w i =
      flush_keeps w a.epoch (a.current w) (a.pages w) (a.committed w) (patched w (a.writes r.number) (a.committed w))
      a.flushed (a.buffered ++ r ∷ []) log rest a.opened (except a.opened r.number) (closing_word r g c opened w i) same
      (all_pick _ (λ q. not (on_disk r.disk q)) a.buffered (g.words w i).late)
      (all_zip other_disk rest (stays home a.buffered (all_right _ a.flushed a.buffered homed) r.disk)
      (all_pick _ (λ q. not (on_disk r.disk q)) a.buffered (g.words w i).apart))
      (λ u o. (still_open u o).0) (λ u h. (parts u h).0) was_shut
      (committed_writes 0 w (a.pages w) (a.committed w) (a.flushed ++ a.buffered) a.opened a.writes (a.owners w) r.number
      (g.write_sets_lem w i) not_none opened (g.words w i).book
      ∙ ap (λ (y : ℕ). a.pages w ⊕ y) (sym (close_none w (λ q. except a.opened r.number q.number) a.flushed a.buffered r c)))

  pub commit_good : Good 0 size (committed_by a r)
  unfolding committed_by log gone rest
  commit_good = record {
    words = committed_word;
    write_sets_lem = λ w i.
        write_sets_same 0 w (patched w (a.writes r.number) (a.committed w)) (a.flushed ++ a.buffered) (log ++ rest) (except a.opened r.number)
        a.writes a.writes (a.owners w) (λ u n o. commit_sums w (λ q. eqb q.number u)) (λ u o. refl)
        (commit_others 0 w (a.committed w) (a.flushed ++ a.buffered) a.opened a.writes (a.owners w) r.number (g.write_sets_lem w i) not_none opened);
    copied = λ w i h. record { page = (g.copied w i h).page ∙ ap (λ (y : ℕ). a.other w ⊕ y) (sym (commit_sums w (λ q. leb (a.epoch + 1) q.copy))) };
    numbers = g.numbers;
    unclosed = λ u o. (still_open u o).1;
    unused = λ u h. ((unclosed_log u (λ e. true_false opened (rw (sym e) (g.unused u h).1)) (g.unused u h).0).1, rw (g.unused u h).1);
    unlogged = λ w u i h. commit_sums w (λ q. eqb q.number u) ∙ g.unlogged w u i h;
    older = λ w i h. commit_sums w (λ q. leb (a.epoch + 1) q.copy) ∙ g.older w i h;
    bounded = λ w n i h. commit_sums w (λ q. leb n q.copy) ∙ g.bounded w n i h;
    nobody = rw g.nobody;
    counting = g.counting;
  }
