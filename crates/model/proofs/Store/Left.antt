-- What an accepted abort takes back: its transaction's updates, all of them, with room for their compensations.
use mathlib.Core.Path.{◌≡◌, refl, sym, ap, ◌∙◌}
use mathlib.Core.List.{List, [], ◌∷◌, ◌++◌}
use mathlib.Core.Bool.{Bool, true, false, cond, ◌&&◌, and-false}
use Prim.Native.Nat.{ℕ, ◌+◌, ◌≤◌, ◌<◌}
use lib.Dec.{leb, eqb}
use borrow.Author.Tests.{le-leb, eqb-false, ne_eqb}
use Rattle.model.specs.declared.Sizes.{Sizes}
use Rattle.model.specs.declared.Core.{Core}
use Rattle.model.specs.Word.{◌⊕◌}
use Rattle.model.specs.Sizes.{ring_of}
use Rattle.model.specs.Record.{Record, change, close, update_kind}
use Rattle.model.specs.Scan.{Scan, item, updates_in, update_words}
use Rattle.model.specs.World.{World}
use Rattle.model.specs.State.{limit, kept_of, end_of, is_open, place_of, first_at, has_update, sound}
use Rattle.model.specs.Refusal.{accepted, verdict}
use Rattle.model.specs.Transaction.{disk_of}
use Rattle.model.specs.Abort.{abort_scan, updates_left, abort_rows}
use Rattle.model.specs.Reference.{Reference}
use Rattle.model.specs.History.{Told}
use Rattle.model.proofs.RoundTrip.{WellFormed}
use Rattle.model.proofs.Places.{open_place}
use Rattle.model.proofs.Xor.{⊕-zero-l}
use Rattle.model.proofs.Ledger.Entry.{Entry, record_of, All, sum, pick, mask, adds, on_disk}
use Rattle.model.proofs.Ledger.Order.{on, entries_scan}
use Rattle.model.proofs.Ledger.Sums.{sum_zero, all_append, all_map}
use Rattle.model.proofs.Ledger.Picks.{all_pick}
use Rattle.model.proofs.Ledger.Lists.{on_append}
use Rattle.model.proofs.Ledger.Word.{of_txn}
use Rattle.model.proofs.Link.Words.{Fit}
use Rattle.model.proofs.Link.Abort.{sum_updates, abort_scan_lem, updates_add}
use Rattle.model.proofs.Store.View.{Serving}
use Rattle.model.proofs.Store.Rows.{serving_sound_lem}
use Rattle.model.proofs.Growth.{Small}
use Rattle.model.proofs.Booleans.{true_false}
use Rattle.model.proofs.Store.Accepted.{small_buffers, open_below, own_room, abort_accepted}
use Rattle.model.proofs.Store.Compensation.{Slotted}

-- picking leaves a sum that what is not picked adds nothing to
pub sum_picked : {A : Type 0} (p : A → Bool) (f : A → ℕ) (l : List A) → All (λ q. p q ≡ false → f q ≡ 0) l → sum f (pick p l) ≡ sum f l
unfolding sum pick
sum_picked p f [] h = refl
sum_picked p f (q ∷ l) h = go (p q) refl (sum_picked p f l h.1)
  where
    go : (b : Bool) → p q ≡ b → sum f (pick p l) ≡ sum f l → sum f (cond b (q ∷ pick p l) (pick p l)) ≡ f q ⊕ sum f l
    go true e ih = ap (λ (y : ℕ). f q ⊕ y) ih
    go false e ih = ih ∙ sym (⊕-zero-l (sum f l)) ∙ ap (λ (y : ℕ). y ⊕ sum f l) (sym (h.0 e))

-- an update read from a record that fits names its slot
update_slotted : (s : Sizes) (t p : ℕ) (q : Record) (rest : Scan) → WellFormed s q → All (Slotted s) (updates_in t rest)
    → All (Slotted s) (updates_in t (item p q rest))
unfolding updates_in
update_slotted s t p (close kind n) rest f h = h
update_slotted s t p (change kind page slot n copy diff) rest f h =
    all_append (Slotted s) (updates_in t rest) _ h (go (eqb kind update_kind && eqb n t))
  where
    go : (b : Bool) → All (Slotted s) (cond b (record { position = p; page = page; slot = slot; diff = diff } ∷ []) [])
    go true = (record { page_in = f.page_in; slot_in = f.slot_in; width = f.width_eq }, tt)
    go false = tt

pub updates_slotted : (s : Sizes) (t : ℕ) (l : List Entry) → All (Fit s) l → All (Slotted s) (updates_in t (entries_scan l))
unfolding updates_in entries_scan
updates_slotted s t [] h = tt
updates_slotted s t (q ∷ l) h = update_slotted s t q.position (record_of q) (entries_scan l) h.0.formed (updates_slotted s t l h.1)

-- The updates that an abort of an open transaction reads.
module _ {home : ℕ → ℕ} {puts : Told} {c : Core} {w : World} {r : Reference} {F B : List Entry} (g : Serving 0 home puts c w r F B)
    (t : ℕ) (opened : is_open c.table t ≡ true) (below : disk_of c t < c.sizes.disks) where
  abbrev s : Sizes
  s = c.sizes

  abbrev d : ℕ
  d = disk_of c t

  abbrev place : ℕ
  place = place_of c.table t

  -- the entries of its disk, and of these the ones from its first on
  abbrev pub there : List Entry
  there = on d F ++ on d B

  abbrev pub from : List Entry
  from = pick (λ q. leb (first_at c.table place) q.position) there

  pub all_there : (P : Entry → Type 0) → All P (F ++ B) → All P there
  unfolding on
  all_there P h = rw (← on_append d F B) (all_pick P (on_disk d) (F ++ B) h)

  pub all_from : (P : Entry → Type 0) → All P (F ++ B) → All P from
  all_from P h = all_pick P _ there (all_there P h)

  -- what lies before its first entry, or on another disk, is of others
  pub early : All (λ q. leb (first_at c.table (place_of c.table t)) q.position ≡ false → eqb q.number t ≡ false) (F ++ B)
  early =
      all_map (λ q h k. ne_eqb q.number t (λ e. true_false (le-leb _ _ (h e).first) k)) (F ++ B) (g.accounts.own t opened)

  pub away : All (λ q. on_disk (disk_of c t) q ≡ false → eqb q.number t ≡ false) (F ++ B)
  unfolding on_disk
  away =
      all_map (λ q h k. ne_eqb q.number t (λ e. eqb-false q.disk d k (h ∙ ap home e ∙ g.accounts.homes t opened))) (F ++ B)
      g.safe.ordered.homed

  -- a transaction without an update has no entry, and nothing to take back
  module _ (none : has_update c.table place ≡ false) where
    pub none_left : updates_left c w t ≡ []
    unfolding updates_left abort_scan updates_in
    none_left = rw (none, and-false (is_open c.table t))

    pub none_logged : (i : ℕ) → of_txn i t (F ++ B) ≡ 0
    none_logged i =
        sum_zero _ (F ++ B)
        (all_map (λ q h. rw (ne_eqb q.number t (λ e. true_false (h e).has none))) (F ++ B) (g.accounts.own t opened))

  -- else they are the updates among its entries, and add what these add
  module _ (has : has_update c.table place ≡ true) where
    pub scanned : abort_scan c w t ≡ entries_scan from
    scanned =
        abort_scan_lem c w t d (first_at c.table place) g.safe.link opened has refl refl below g.safe.fit (g.safe.ordered.laid d below)
        (g.accounts.firsts t opened has)

    pub left_slotted : All (Slotted s) (updates_left c w t)
    unfolding updates_left
    left_slotted = rw scanned (updates_slotted s t from (all_from (Fit s) g.safe.fit))

    same_sum : (i : ℕ) → of_txn i t from ≡ of_txn i t (F ++ B)
    unfolding on
    same_sum i =
        sum_picked _ _ there (all_there _ (all_map (λ q h k. other q (h k)) (F ++ B) early))
        ∙ ap (of_txn i t) (sym (on_append d F B))
        ∙ sum_picked _ _ (F ++ B) (all_map (λ q h k. other q (h k)) (F ++ B) away)
      where
        other : (q : Entry) → eqb q.number t ≡ false → mask (eqb q.number t) (adds i q) ≡ 0
        other q h = rw h

    pub left_sum : (i : ℕ) → sum_updates s i (updates_left c w t) ≡ of_txn i t (F ++ B)
    unfolding updates_left
    left_sum i =
        ap (λ (x : Scan). sum_updates s i (updates_in t x)) scanned
        ∙ updates_add s i t from (all_from _ (all_map (λ q h e. (h e).kind (open_place c.table t opened).0) (F ++ B) (g.accounts.own t opened)))
        (all_from (Fit s) g.safe.fit)
        ∙ same_sum i

-- What an accepted abort may rely on.
pub record MayAbort (c : Core) (w : World) (t : ℕ) : Type 0 where
  pub opened : is_open c.table t ≡ true
  pub below : disk_of c t < c.sizes.disks
  pub small : Small c.sizes c.logs
  -- the compensations and the closing record fit the ring and the bound of positions
  pub room : end_of c.logs (disk_of c t) + (update_words (updates_left c w t) + 2) ≤ kept_of c.logs (disk_of c t) + ring_of c.sizes (disk_of c t)
  pub in_limit : end_of c.logs (disk_of c t) + (update_words (updates_left c w t) + 2) ≤ limit

pub may_abort : (c : Core) (w : World) (t : ℕ) → sound c ≡ true → verdict (abort_rows c w t) ≡ accepted → MayAbort c w t
may_abort c w t s ok =
    let a = abort_accepted c w t s ok in
    let good = serving_sound_lem c a.serving s in
    let room = own_room c t good a.opened (update_words (updates_left c w t) + 2) a.words in
    record {
      opened = a.opened;
      below = open_below c t good a.opened;
      small = small_buffers c good;
      room = room.0;
      in_limit = room.1;
    }
