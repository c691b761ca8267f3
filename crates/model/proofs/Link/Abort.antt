-- What an abort reads: the entries of its disk from its transaction's first on, and of these the transaction's updates.
use mathlib.Core.Path.{◌≡◌, refl, sym, ap, ap₂, ◌∙◌}
use mathlib.Core.List.{List, [], ◌∷◌, ◌++◌, append-nil}
use mathlib.Core.Bool.{Bool, true, false, cond, ◌&&◌, and-false}
use Prim.Native.Nat.{ℕ, ◌+◌, ◌<◌}
use native.Mathlib.Omega.{arith}
use native.Mathlib.Decide.{dec_lt}
use lib.Dec.{leb, eqb}
use lib.ListN.{length, length-append}
use borrow.Author.Tests.{eqb-true, eq-eqb}
use Rattle.model.specs.declared.Sizes.{Sizes}
use Rattle.model.specs.declared.Logs.{Logs}
use Rattle.model.specs.declared.Core.{Core}
use Rattle.model.specs.Word.{◌⊕◌}
use Rattle.model.specs.Sizes.{slot_base}
use Rattle.model.specs.Decode.{read_log}
use Rattle.model.specs.Scan.{end, scan, ring_then_buffer, Update, updates_in}
use Rattle.model.specs.World.{World}
use Rattle.model.specs.Memory.{buffer_of}
use Rattle.model.specs.State.{kept_of, tail_of, fill_of, end_of, is_open, has_update, first_at, place_of}
use Rattle.model.specs.Transaction.{disk_of}
use Rattle.model.specs.Abort.{abort_scan}
use Rattle.model.proofs.Xor.{⊕-comm, ⊕-zero-l, ⊕-zero-r}
use Rattle.model.proofs.Reader.{Holds, holds_append, read_holds}
use Rattle.model.proofs.Scan.{scan_end}
use Rattle.model.proofs.Reading.{ending}
use Rattle.model.proofs.RingThenBuffer.{read_as_one}
use Rattle.model.proofs.Growth.{tail_end}
use Rattle.model.proofs.Ledger.Entry.{Entry, is_close, record_of, mask, sum, All, pick, share, adds}
use Rattle.model.proofs.Ledger.Order.{words_of, on, Laid, boundary, entries_scan}
use Rattle.model.proofs.Ledger.Sums.{mask_zero, sum_append, all_append, all_right}
use Rattle.model.proofs.Ledger.Picks.{all_pick}
use Rattle.model.proofs.Ledger.Lists.{all_left, words_append}
use Rattle.model.proofs.Ledger.Positions.{Suffix, laid_append, boundary_suffix, boundary_left}
use Rattle.model.proofs.Link.Words.{Fit, Link, fit_on, scan_entries, log_end}

-- Entries that a reader holds from a start on: read from a boundary on, they are the entries from there on.
entries_from : (s : Sizes) (read : ℕ → ℕ) (start stop first : ℕ) (all : List Entry) → All (Fit s) all → Laid start all
    → Holds read start (words_of all) → stop ≡ start + length (words_of all) → boundary first start all ≡ true
    → scan s read stop first ≡ entries_scan (pick (λ r. leb first r.position) all)
entries_from s read start stop first all fit laid held ends edge =
    let kept : List Entry = pick (λ r. leb first r.position) all in
    let x : Suffix start first all kept = boundary_suffix start first all laid edge in
    let cut : start + length x.front ≡ first = omega (arith, x.cut) in
    let long = length-append x.front (words_of kept) in
    let same : length (words_of all) ≡ length (x.front ++ words_of kept) = ap length x.words in
    scan_entries s read stop first kept (all_pick (Fit s) _ all fit) x.laid
    (rw cut at (holds_append read start x.front (words_of kept) (rw x.words at held)).1) (omega arith)

ending_entries : (l : List Entry) → ending (entries_scan l) ≡ end
unfolding ending entries_scan
ending_entries [] = refl
ending_entries (r ∷ l) = ending_entries l

-- The log of a disk, its buffer included, holds the flushed entries and then the buffered ones.
module _ {s : Sizes} {l : Logs} {w : World} {F B : List Entry} (k : Link s l w F B) (d : ℕ) (below : d < s.disks) where
  abbrev reader : ℕ → ℕ
  reader = read_log s w.logs d (tail_of l d) (buffer_of w.work d (fill_of l d))

  pub log_holds : Holds reader (kept_of l d) (words_of (on d F ++ on d B))
  log_holds =
      rw (k.buffer d below, words_append)
      (read_holds s w.logs d (tail_of l d) (words_of (on d B)) (kept_of l d) (words_of (on d F)) (k.tail d below) (k.held d below))

  module _ (first : ℕ) (fit : All (Fit s) (F ++ B)) (laid : Laid (kept_of l d) (on d F ++ on d B))
      (edge : boundary first (kept_of l d) (on d F ++ on d B) ≡ true) where
    flushed_fit : All (Fit s) (on d F)
    flushed_fit = fit_on s d F (all_left (Fit s) F B fit)

    pub scan_from : scan s reader (end_of l d) first ≡ entries_scan (pick (λ r. leb first r.position) (on d F ++ on d B))
    scan_from =
        entries_from s reader (kept_of l d) (end_of l d) first (on d F ++ on d B)
        (all_append (Fit s) (on d F) (on d B) flushed_fit (fit_on s d B (all_right (Fit s) F B fit))) laid log_holds (log_end k d below) edge

    -- no flushed entry ends past the tail
    ring_well : ending (scan s reader (tail_of l d) first) ≡ end
    unfolding ending
    ring_well = go (dec_lt first (tail_of l d))
      where
        go : Dec (first < tail_of l d) → ending (scan s reader (tail_of l d) first) ≡ end
        go (yes low) =
            rw (entries_from s reader (kept_of l d) (tail_of l d) first (on d F) flushed_fit (laid_append (kept_of l d) (on d F) (on d B) laid).0
            (holds_append reader (kept_of l d) (words_of (on d F)) (words_of (on d B)) (rw words_append at log_holds)).0 (k.tail d below)
            (boundary_left first (kept_of l d) (on d F) (on d B) (omega (arith, k.tail d below)) edge))
            (ending_entries _)
        go (no high) = rw (scan_end s reader (tail_of l d) first (omega arith)) refl

    -- so up to the tail and then on it is read as one
    pub parts_from_lem : ring_then_buffer s reader (tail_of l d) (end_of l d) first
        ≡ entries_scan (pick (λ r. leb first r.position) (on d F ++ on d B))
    parts_from_lem = read_as_one s reader (tail_of l d) (end_of l d) (tail_end l d) first ring_well ∙ scan_from

-- so is what an abort reads, from its transaction's first record on
pub abort_scan_lem : (c : Core) (w : World) {F B : List Entry} (number d first : ℕ) → Link c.sizes c.logs w F B
    → is_open c.table number ≡ true → has_update c.table (place_of c.table number) ≡ true
    → disk_of c number ≡ d → first_at c.table (place_of c.table number) ≡ first → d < c.sizes.disks
    → All (Fit c.sizes) (F ++ B) → Laid (kept_of c.logs d) (on d F ++ on d B)
    → boundary first (kept_of c.logs d) (on d F ++ on d B) ≡ true
    → abort_scan c w number ≡ entries_scan (pick (λ r. leb first r.position) (on d F ++ on d B))
unfolding abort_scan
abort_scan_lem c w number d first k is_open_lem has there from below fit laid edge =
    rw (is_open_lem, has, there, from) (parts_from_lem k d below first fit laid edge)

-- What a list of updates adds to word w.
unfoldable pub sum_updates : Sizes → ℕ → List Update → ℕ
sum_updates s w us = sum (λ u. share (slot_base s u.page u.slot) u.diff w) us

-- an entry in front: a closing record is none of them, a change is one if it is an update of the transaction
module _ (t : ℕ) (r : Entry) (l : List Entry) where
  updates_close : is_close r ≡ true → updates_in t (entries_scan (r ∷ l)) ≡ updates_in t (entries_scan l)
  unfolding updates_in entries_scan record_of
  updates_close e = rw e

  abbrev as_update : Update
  as_update = record { position = r.position; page = r.page; slot = r.slot; diff = r.diff }

  updates_change : is_close r ≡ false → (b : Bool) → eqb r.kind 0 && eqb r.number t ≡ b
      → updates_in t (entries_scan (r ∷ l)) ≡ updates_in t (entries_scan l) ++ cond b (as_update ∷ []) []
  unfolding updates_in entries_scan record_of
  updates_change e b x = rw (e, x)

module _ (s : Sizes) (w t : ℕ) where
  adds_close : (r : Entry) → is_close r ≡ true → mask (eqb r.number t) (adds w r) ≡ 0
  unfolding adds
  adds_close r e = rw e (mask_zero (eqb r.number t))

  adds_change : (r : Entry) → is_close r ≡ false → Fit s r → adds w r ≡ share (slot_base s r.page r.slot) r.diff w
  unfolding adds
  adds_change r e fit = rw e (ap (λ (at : ℕ). share at r.diff w) (fit.slotted e))

  -- the updates of transaction t that are read add what its records add, if all of these are updates
  pub updates_add : (l : List Entry) → All (λ r. r.number ≡ t → r.kind ≡ 0) l → All (Fit s) l
      → sum_updates s w (updates_in t (entries_scan l)) ≡ sum (λ r. mask (eqb r.number t) (adds w r)) l
  unfolding sum_updates updates_in entries_scan sum
  updates_add [] h fit = refl
  updates_add (r ∷ l) h fit = go (is_close r) refl (eqb r.number t) refl (updates_add l h.1 fit.1)
    where
      rest : ℕ
      rest = sum (λ q. mask (eqb q.number t) (adds w q)) l

      f : Update → ℕ
      f u = share (slot_base s u.page u.slot) u.diff w

      go : (b : Bool) → is_close r ≡ b → (c : Bool) → eqb r.number t ≡ c → sum f (updates_in t (entries_scan l)) ≡ rest
          → sum f (updates_in t (entries_scan (r ∷ l))) ≡ mask (eqb r.number t) (adds w r) ⊕ rest
      go true e c x ih =
          ap (sum f) (updates_close t r l e) ∙ ih ∙ sym (⊕-zero-l rest) ∙ ap (λ (y : ℕ). y ⊕ rest) (sym (adds_close r e))
      go false e true x ih =
          let update : eqb r.kind 0 && eqb r.number t ≡ true = rw (eq-eqb r.kind 0 (h.0 (eqb-true r.number t x))) x in
          rw x
          (ap (sum f) (updates_change t r l e true update)
          ∙ sum_append f (updates_in t (entries_scan l)) (as_update t r l ∷ [])
          ∙ ap₂ (λ (y z : ℕ). y ⊕ z) ih (⊕-zero-r (f (as_update t r l)))
          ∙ ⊕-comm rest (f (as_update t r l))
          ∙ ap (λ (y : ℕ). y ⊕ rest) (sym (adds_change r e fit.0)))
      go false e false x ih =
          let other : eqb r.kind 0 && eqb r.number t ≡ false = rw x (and-false (eqb r.kind 0)) in
          rw x (ap (sum f) (updates_change t r l e false other ∙ append-nil (updates_in t (entries_scan l))) ∙ ih ∙ sym (⊕-zero-l rest))
