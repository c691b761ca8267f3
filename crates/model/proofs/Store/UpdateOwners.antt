-- Write sets and slot owners after an update: its slot has its transaction's number, whose write set has the write; others stand.
use mathlib.Core.Path.{◌≡◌, refl, sym, ap, ◌∙◌}
use mathlib.Core.List.{List, [], ◌∷◌, ◌++◌}
use mathlib.Core.Bool.{Bool, true, false, cond, ◌&&◌, ◌||◌, or-true, or-false}
use Prim.Native.Nat.{ℕ, ◌+◌, ◌≤◌, ◌<◌}
use native.Mathlib.Omega.{arith}
use native.Mathlib.Decide.{ℕ_discrete, dec_lt}
use lib.Dec.{eqb}
use lib.ListN.{length, set}
use lib.Seq.{get_or-set_same, get_or-set_other}
use borrow.Author.Tests.{eq-eqb}
use Rattle.model.specs.declared.Sizes.{Sizes}
use Rattle.model.specs.declared.Core.{Core}
use Rattle.model.specs.Sizes.{total, slots_in, slot_base}
use Rattle.model.specs.World.{World}
use Rattle.model.specs.Memory.{owner_at, owner_of, work_words}
use Rattle.model.specs.State.{is_open}
use Rattle.model.specs.Reference.{Reference, Write, WriteSet, writes_of, writes_slot, added, has_set}
use Rattle.model.proofs.Bounds.{Bounded}
use Rattle.model.proofs.Geometry.{page_of, slot_start_lem, slot_base_step, slot_base_mono}
use Rattle.model.proofs.Slots.{Fits}
use Rattle.model.proofs.WriteSets.{added_writes, writes_added}
use Rattle.model.proofs.Ledger.Entry.{All}
use Rattle.model.proofs.Ledger.Sums.{all_append}
use Rattle.model.proofs.Store.View.{Owners}
use Rattle.model.proofs.Store.Same.{slot_lt}
use Rattle.model.proofs.Store.UpdateRoom.{Allowed, slot_changed, noted}

-- a write that fits, added to sets of writes that do
pub fits_added : (s : Sizes) (n : ℕ) (e : Write) → Fits s e → (sets : List WriteSet) → All (λ (x : WriteSet). All (Fits s) x.writes) sets
    → All (λ (x : WriteSet). All (Fits s) x.writes) (added n e sets)
unfolding added
fits_added s n e fit [] h = tt
fits_added s n e fit (x ∷ xs) h = go (eqb x.number n) (fits_added s n e fit xs h.1)
  where
    go : (b : Bool) → All (λ (x : WriteSet). All (Fits s) x.writes) (added n e xs)
        → All (λ (x : WriteSet). All (Fits s) x.writes) (cond b (record { number = n; writes = x.writes ++ e ∷ [] } ∷ xs) (x ∷ added n e xs))
    go true rest = (all_append (Fits s) x.writes (e ∷ []) h.0 (fit, tt), h.1)
    go false rest = (h.0, rest)

-- two slots that begin at the same word are one
module _ (s : Sizes) (b : Bounded s) where
  later_slot : (page i j : ℕ) → page < s.pages → i < j → slot_base s page i < slot_base s page j
  later_slot page i j p h =
      omega (arith, slot_base_step s page i, slot_base_mono s page (i + 1) j (omega arith), (b.used page p).width_min)

  page_at_lem : (page slot : ℕ) → page < s.pages → slot < slots_in s page → page_of s (slot_base s page slot) ≡ page
  page_at_lem page slot p q =
      let width = (b.used page p).width_min in
      (slot_start_lem s page slot (slot_base s page slot) p q (omega arith) (omega arith)).1

  slot_same : (page i j : ℕ) → page < s.pages → slot_base s page i ≡ slot_base s page j → i ≡ j
  slot_same page i j p e = go (dec_lt i j) (dec_lt j i)
    where
      go : Dec (i < j) → Dec (j < i) → i ≡ j
      go (yes h) d = absurd (omega (arith, later_slot page i j p h))
      go (no h) (yes k) = absurd (omega (arith, later_slot page j i p k))
      go (no h) (no k) = omega arith

  pub one_slot : (p i q j : ℕ) → p < s.pages → i < slots_in s p → q < s.pages → j < slots_in s q → slot_base s p i ≡ slot_base s q j
      → (p ≡ q) × (i ≡ j)
  one_slot p i q j hp hi hq hj e =
      let same : p ≡ q = sym (page_at_lem p i hp hi) ∙ ap (page_of s) e ∙ page_at_lem q j hq hj in
      (same, slot_same q i j hq (rw same at e))

-- a write set with one write more
pub writes_slot_more : (page slot : ℕ) (l : List Write) (e : Write)
    → writes_slot page slot (l ++ e ∷ []) ≡ writes_slot page slot l || (eqb e.page page && eqb e.slot slot)
unfolding writes_slot
writes_slot_more page slot [] e = or-false _
writes_slot_more page slot (x ∷ l) e = go (eqb x.page page && eqb x.slot slot) (writes_slot_more page slot l e)
  where
    new : Bool
    new = eqb e.page page && eqb e.slot slot

    go : (t : Bool) → writes_slot page slot (l ++ e ∷ []) ≡ writes_slot page slot l || new
        → t || writes_slot page slot (l ++ e ∷ []) ≡ (t || writes_slot page slot l) || new
    go true h = refl
    go false h = h

-- a write set has the writes that it had
writes_slot_kept : (page slot number : ℕ) (e : Write) (r : Reference) → has_set number r.write_sets ≡ true → (t : ℕ)
    → writes_slot page slot (writes_of t r.write_sets) ≡ true → writes_slot page slot (writes_of t (added number e r.write_sets)) ≡ true
writes_slot_kept page slot number e r has t h = rw (added_writes number e r.write_sets has t) (go (eqb t number))
  where
    go : (b : Bool) → writes_slot page slot (cond b (writes_of t r.write_sets ++ e ∷ []) (writes_of t r.write_sets)) ≡ true
    go true = rw (writes_slot_more page slot (writes_of t r.write_sets) e, h)
    go false = h

-- The world v has the owners of w.
module _ {c : Core} {w : World} {r : Reference} (own : Owners c w r) (bounds : Bounded c.sizes)
    (number page slot : ℕ) (value : List ℕ) (may : Allowed c w number page slot value)
    (has : has_set number r.write_sets ≡ true) (less : number < c.next)
    (v : World) (long : work_words c.sizes (total c.sizes) ≤ length v.work)
    (same : (i : ℕ) → i < total c.sizes → owner_of c.sizes v.work i ≡ owner_of c.sizes w.work i) where
  abbrev s : Sizes
  s = c.sizes

  abbrev at : ℕ
  at = slot_base s page slot

  abbrev write : Write
  write = record { page = page; slot = slot; value = value }

  abbrev owner : ℕ → ℕ → ℕ
  owner p i = owner_of s (set v.work (owner_at s at) number) (slot_base s p i)

  module _ (p i : ℕ) (hp : p < s.pages) (hi : i < slots_in s p) where
    mine : slot_base s p i ≡ at → owner p i ≡ number
    unfolding owner_of owner_at work_words
    mine e = rw e (get_or-set_same v.work (owner_at s at) number 0 (omega (arith, slot_lt s bounds page slot may.page_lt may.slot_lt)))

    others : (slot_base s p i ≡ at → ⊥) → owner p i ≡ owner_of s w.work (slot_base s p i)
    unfolding owner_of owner_at
    others ne =
        get_or-set_other v.work (owner_at s at) (owner_at s (slot_base s p i)) number 0 (λ x. ne (omega arith))
        ∙ same (slot_base s p i) (slot_lt s bounds p i hp hi)

    owner_below : owner p i < c.next
    owner_below = go (ℕ_discrete (slot_base s p i) at)
      where
        go : Dec (slot_base s p i ≡ at) → owner p i < c.next
        go (yes e) = rw (mine e) less
        go (no ne) = rw (others ne) (own.below p i hp hi)

    owner_writes : is_open c.table (owner p i) ≡ true → writes_slot p i (writes_of (owner p i) (added number write r.write_sets)) ≡ true
    owner_writes o = go (ℕ_discrete (slot_base s p i) at)
      where
        go : Dec (slot_base s p i ≡ at) → writes_slot p i (writes_of (owner p i) (added number write r.write_sets)) ≡ true
        go (yes e) =
            let one = one_slot s bounds p i page slot hp hi may.page_lt may.slot_lt e in
            rw (
              mine e,
              writes_added number write r.write_sets has,
              writes_slot_more p i (writes_of number r.write_sets) write,
              eq-eqb page p (sym one.0),
              eq-eqb slot i (sym one.1),
            )
            (or-true (writes_slot p i (writes_of number r.write_sets)))
        go (no ne) =
            rw (others ne)
            (writes_slot_kept p i number write r has (owner_of s w.work (slot_base s p i)) (own.written p i hp hi (rw (others ne) at o)))

  -- f is the state after the update
  pub owners_updated : (f : Core) → f.sizes ≡ c.sizes → f.next ≡ c.next → ((t : ℕ) → is_open f.table t ≡ is_open c.table t)
      → Owners f (slot_changed s v at value number) (noted r number page slot value)
  owners_updated f sizes next opened =
      record {
        below = rw (sizes, next) owner_below;
        written = rw sizes (λ p i hp hi o. owner_writes p i hp hi (sym (opened (owner p i)) ∙ o));
      }
