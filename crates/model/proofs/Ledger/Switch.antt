-- What a checkpoint's last store may take off the log: a start that is at most the remembered end
-- and each open transaction's first position leaves out only what nobody needs any more.
use mathlib.Core.Path.{◌≡◌, refl, sym, ap, ◌∙◌}
use mathlib.Core.List.{List, ◌++◌}
use mathlib.Core.Bool.{Bool, true, false, not, ◌&&◌}
use Prim.Native.Nat.{ℕ, ◌+◌, ◌≤◌, ◌<◌}
use native.Mathlib.Omega.{arith}
use lib.Dec.{leb, eqb}
use borrow.Author.Tests.{leb-true, leb-false, lt-leb, le-leb, ne_eqb, not-true}
use Rattle.model.proofs.Ledger.Entry.{Entry, mask, All, adds, is_close, closed_in, pick}
use Rattle.model.proofs.Ledger.Order.{on, boundary, Ordered}
use Rattle.model.proofs.Ledger.Sums.{all_map, all_zip, mask_zero}
use Rattle.model.proofs.Ledger.Picks.{all_pick, pick_all}
use Rattle.model.proofs.Ledger.Lists.{all_left, some_pick}
use Rattle.model.proofs.Ledger.Ordered.{Before, closes_number, from_start, all_from_start, switch_from_start}
use Rattle.model.proofs.Booleans.{true_false}
use Rattle.model.proofs.Ledger.Close.{adds_close}

-- What the positions of the entries, flushed (F) and buffered (B), say at a checkpoint's end: an open transaction's lie from its first
-- position on, every other transaction is closed, and the changes before the remembered ends (`marks`) are in the backup that now counts.
pub record Placed (O : ℕ → Bool) (first marks : ℕ → ℕ) (c : ℕ) (F B : List Entry) : Type 0 where
  pub opened : All (λ r. O r.number ≡ true → first r.number ≤ r.position) (F ++ B)
  pub closed_or_open : All (λ r. O r.number ≡ false → closed_in (F ++ B) r.number ≡ true) (F ++ B)
  pub early : All (λ r. r.position < marks r.disk → is_close r ≡ false → r.copy ≤ c) (F ++ B)

-- Entries, each transaction's on one disk and its closing record last: it is kept with any other.
closed_from_start : (home start' : ℕ → ℕ) (l : List Entry) → All (λ r. r.disk ≡ home r.number) l → All (λ r. All (Before r) l) l
    → All (λ r. closed_in (pick (from_start start') l) r.number ≡ closed_in l r.number) (pick (from_start start') l)
unfolding closed_in
closed_from_start home start' l homed last = all_zip one (pick (from_start start') l) (pick_all (from_start start') l)
    (all_pick _ (from_start start') l (all_zip (λ r a b. (a, b)) l homed last))
  where
    one : (r : Entry) → from_start start' r ≡ true → (r.disk ≡ home r.number) × All (Before r) l
        → closed_in (pick (from_start start') l) r.number ≡ closed_in l r.number
    one r k h = some_pick _ (from_start start') l (all_zip too l homed h.1)
      where
        too : (q : Entry) → q.disk ≡ home q.number → Before r q → is_close q && eqb q.number r.number ≡ true → from_start start' q ≡ true
        too q e b c =
            let same : start' q.disk ≡ start' r.disk = ap start' (e ∙ ap home (closes_number q r.number c) ∙ sym h.0) in
            le-leb (start' q.disk) q.position (omega (arith, leb-true (start' r.disk) r.position k, b c))

-- Any later starts.
module _ {disks : ℕ} {start home : ℕ → ℕ} {F B : List Entry} (o : Ordered disks start home F B) (start' : ℕ → ℕ) where
  -- the flushed entries
  pub from_start_closed : All (λ r. closed_in (pick (from_start start') F) r.number ≡ closed_in F r.number) (pick (from_start start') F)
  from_start_closed = closed_from_start home start' F (all_left _ F B o.homed) (all_map (λ r h. all_left (Before r) F B h) F (all_left _ F B o.last))

  -- so a transaction whose closing record goes has no entry left
  pub switch_last : (t : ℕ) → closed_in F t ≡ true → closed_in (pick (from_start start') F) t ≡ false
      → All (λ r. eqb r.number t ≡ false) (pick (from_start start') F)
  switch_last t x y = all_map one (pick (from_start start') F) from_start_closed
    where
      one : (r : Entry) → closed_in (pick (from_start start') F) r.number ≡ closed_in F r.number → eqb r.number t ≡ false
      one r h = ne_eqb r.number t (λ e. true_false x (sym (rw e at h) ∙ y))

  -- those and the buffered ones, all of which stay
  pub from_start_closed_all : ((d : ℕ) → d < disks → boundary (start' d) (start d) (on d F) ≡ true)
      → All (λ r. closed_in (pick (from_start start') F ++ B) r.number ≡ closed_in (F ++ B) r.number) (pick (from_start start') F ++ B)
  from_start_closed_all cut = rw (switch_from_start o start' cut) at (closed_from_start home start' (F ++ B) o.homed o.last)

  -- The starts that a checkpoint takes.
  module _ {O : ℕ → Bool} {first marks : ℕ → ℕ} {c : ℕ} (p : Placed O first marks c F B) where
    -- what is kept is placed as before
    pub placed_from_start : ((d : ℕ) → d < disks → boundary (start' d) (start d) (on d F) ≡ true) → Placed O first marks c (pick (from_start start') F) B
    placed_from_start cut = record {
      opened = all_from_start o start' _ p.opened;
      closed_or_open = all_zip (λ r same h no. same ∙ h no) (pick (from_start start') F ++ B) (from_start_closed_all cut) (all_from_start o start' _ p.closed_or_open);
      early = all_from_start o start' _ p.early;
    }

    before : (r : Entry) → not (from_start start' r) ≡ true → r.position < start' r.disk
    before r x = leb-false (start' r.disk) r.position (not-true (from_start start' r) x)

    -- what goes is in the backup that now counts
    pub switch_old : ((d : ℕ) → d < disks → start' d ≤ marks d) → (w : ℕ)
        → All (λ r. mask (leb (c + 1) r.copy) (adds w r) ≡ 0) (pick (λ r. not (from_start start' r)) F)
    switch_old low w = all_zip one (pick (λ r. not (from_start start' r)) F) (pick_all _ F)
        (all_pick _ (λ r. not (from_start start' r)) F (all_zip (λ r a b. (a, b)) F (all_left _ F B o.inside) (all_left _ F B p.early)))
      where
        one : (r : Entry) → not (from_start start' r) ≡ true → (r.disk < disks) × (r.position < marks r.disk → is_close r ≡ false → r.copy ≤ c)
            → mask (leb (c + 1) r.copy) (adds w r) ≡ 0
        one r x h = go (is_close r) refl
          where
            go : (b : Bool) → is_close r ≡ b → mask (leb (c + 1) r.copy) (adds w r) ≡ 0
            go true e = rw (adds_close w r e) (mask_zero (leb (c + 1) r.copy))
            go false e =
                let old : r.copy ≤ c = h.1 (omega (arith, before r x, low r.disk h.0)) e in
                rw (lt-leb (c + 1) r.copy (omega arith))

    -- and of closed transactions; where something is buffered, the closing record may be in the buffer
    pub switch_closed : All (λ r. O r.number ≡ true → start' r.disk ≤ first r.number) F
        → All (λ r. closed_in (F ++ B) r.number ≡ true) (pick (λ r. not (from_start start' r)) F)
    switch_closed reach = all_zip one (pick (λ r. not (from_start start' r)) F) (pick_all _ F)
        (all_pick _ (λ r. not (from_start start' r)) F (all_zip (λ r a b. (a, b)) F (all_zip (λ r a b. (a, b)) F reach (all_left _ F B p.opened)) (all_left _ F B p.closed_or_open)))
      where
        one : (r : Entry) → not (from_start start' r) ≡ true
            → ((O r.number ≡ true → start' r.disk ≤ first r.number) × (O r.number ≡ true → first r.number ≤ r.position))
            × (O r.number ≡ false → closed_in (F ++ B) r.number ≡ true)
            → closed_in (F ++ B) r.number ≡ true
        one r x h = go (O r.number) refl
          where
            go : (b : Bool) → O r.number ≡ b → closed_in (F ++ B) r.number ≡ true
            go true e = absurd (omega (arith, before r x, h.0.0 e, h.0.1 e))
            go false e = h.1 e
