-- While the store is open, its page memory is a plain table of slots: the committed contents with the open write sets over them.
use mathlib.Core.Path.{◌≡◌, refl, sym, ap, subst, ◌∙◌}
use mathlib.Core.List.{List, [], map}
use mathlib.Core.Bool.{Bool, true, false, not, and-eq-true_iff, ◌&&◌}
use Prim.Native.Nat.{ℕ, ◌<◌}
use native.Mathlib.Omega.{arith}
use native.Mathlib.Decide.{ℕ_discrete}
use lib.Dec.{leb, eqb}
use lib.ListN.{get_or}
use lib.Seq.{ext_get_or}
use borrow.Author.Tests.{leb-false, eqb-false, ne_eqb, not-true}
use Rattle.model.specs.declared.Sizes.{Sizes}
use Rattle.model.specs.declared.Core.{Core}
use Rattle.model.specs.Sizes.{total, slots_in, slot_base}
use Rattle.model.specs.World.{World}
use Rattle.model.specs.Memory.{owner_of}
use Rattle.model.specs.State.{is_open}
use Rattle.model.specs.Refusal.{verdict, accepted}
use Rattle.model.specs.Causes.{locked, slot_missing}
use Rattle.model.specs.Transaction.{read_rows, read_words, slot_words}
use Rattle.model.specs.Reference.{Reference, Write, WriteSet, writes_of, plain_table, writes_slot, written_by_other, slot_index, words_in, has_set}
use Rattle.model.specs.Call.{look, read}
use Rattle.model.specs.Machine.{Machine, outcome, result}
use Rattle.model.specs.History.{Told}
use Rattle.model.specs.Promise.{PlainTable}
use Rattle.model.proofs.KeptBases.{slot_words_lem, lock_of}
use Rattle.model.proofs.Geometry.{slot_start, slot_start_lem}
use Rattle.model.proofs.Lengths.{lengths_right_lem}
use Rattle.model.proofs.Slots.{patch_of, Fits, Shaped, words_length, words_at_lem}
use Rattle.model.proofs.Ledger.Entry.{Entry, All, patched}
use Rattle.model.proofs.Ledger.Sums.{all_map, all_zip}
use Rattle.model.proofs.Ledger.Good.{plain_table_lem, plain_table_free}
use Rattle.model.proofs.Restart.Taken.{taken_call}
use Rattle.model.proofs.Store.View.{view, Serving, Served}
use Rattle.model.proofs.Store.Same.{slot_lt}
use Rattle.model.proofs.Booleans.{true_false, or_none, both_ways}
use Rattle.model.proofs.Verdict.{row_passed}
use Rattle.model.proofs.LaidOver.{own_writes, fold_sets, laid_shaped, laid_word, Idle, fold_none, fold_one, found_other, other_found, patched_fixed}

-- what an accepted read finds of its slot
read_slot : (c : Core) (w : World) (reader page slot : ℕ) → verdict (read_rows c w reader page slot) ≡ accepted
    → (page < c.sizes.pages) × (slot < slots_in c.sizes page)
unfolding read_rows slot_missing
read_slot c w reader page slot v =
    let r5 = (row_passed _ _ (row_passed _ _ (row_passed _ _ v).1).1).1 in
    let r8 = or_none (leb c.sizes.pages page) (leb (slots_in c.sizes page) slot) (row_passed _ _ r5).0 in
    (leb-false _ _ r8.0, leb-false _ _ r8.1)

module _ {home : ℕ → ℕ} {puts : Told} {c : Core} {w : World} {r : Reference} {F B : List Entry} (g : Serving 0 home puts c w r F B) where
  abbrev s : Sizes
  s = c.sizes

  -- the owner of a word's slot
  owner : ℕ → ℕ
  owner i = owner_of s w.work (slot_start s i)

  open_set : (t : ℕ) → has_set t r.write_sets ≡ true → is_open c.table t ≡ true
  open_set t h = g.sets.has t ∙ h

  not_nobody : (t : ℕ) → is_open c.table t ≡ true → t ≡ 0 → ⊥
  unfolding view
  not_nobody t o e = true_false (subst (λ (n : ℕ). is_open c.table n ≡ true) e o) g.safe.good.nobody

  -- a transaction that does not own a word's slot has no write to the word
  idle : (i : ℕ) → i < total s → All (Idle s i (owner i)) r.write_sets
  unfolding Idle owner view
  idle i h = all_map one r.write_sets (own_writes r.write_sets g.sets.distinct)
    where
      one : (x : WriteSet) → (writes_of x.number r.write_sets ≡ x.writes) × (has_set x.number r.write_sets ≡ true) → Idle s i (owner i) x
      one x k ne v =
          ap (λ (l : List Write). patched i (map (patch_of s) l) v) (sym k.0)
          ∙ (g.safe.good.write_sets_lem i h).no_entry x.number (not_nobody x.number (open_set x.number k.1)) (open_set x.number k.1) ne v

  page_word : (i : ℕ) → i < total s → get_or w.pages i 0 ≡ fold_sets s i r.write_sets (get_or (words_in r.committed) i 0)
  unfolding owner view
  page_word i h = go (is_open c.table (owner i)) refl
    where
      go : (b : Bool) → is_open c.table (owner i) ≡ b → get_or w.pages i 0 ≡ fold_sets s i r.write_sets (get_or (words_in r.committed) i 0)
      go true o =
          plain_table_lem g.safe.good i h o
          ∙ sym (fold_one s i (owner i) r.write_sets g.sets.distinct (sym (g.sets.has (owner i)) ∙ o) (idle i h) _)
      go false o =
          plain_table_free g.safe.good i h o
          ∙ sym (fold_none s i (owner i) r.write_sets (sym (g.sets.has (owner i)) ∙ o) (idle i h) _)

  shaped : Shaped s (plain_table r)
  unfolding plain_table
  shaped = rw g.safe.sizes (laid_shaped s r.write_sets r.committed g.safe.shaped g.sets.fits)

  pages_plain : w.pages ≡ words_in (plain_table r)
  unfolding plain_table
  pages_plain =
      let long = (lengths_right_lem s (total s) w g.safe.devices.lengths).pages in
      ext_get_or 0 _ _ (long ∙ sym (words_length s (plain_table r) shaped))
      (λ i h. page_word i (rw long at h) ∙ sym (rw g.safe.sizes (laid_word s r.write_sets r.committed g.safe.shaped g.sets.fits i)))

  -- a slot's words are its value in the table
  pub slot_value : (page slot : ℕ) → page < s.pages → slot < slots_in s page → slot_words c w page slot ≡ get_or (plain_table r) (slot_index r.sizes page slot) []
  slot_value page slot p q =
      rw (slot_words_lem c g.safe.devices.bases w page slot (omega (arith, g.safe.devices.bounds.pages_max)), pages_plain)
      (words_at_lem s (plain_table r) shaped page slot p q ∙ ap (λ (z : Sizes). get_or (plain_table r) (slot_index z page slot) []) (sym g.safe.sizes))

  read_value : (reader page slot : ℕ) → verdict (read_rows c w reader page slot) ≡ accepted
      → read_words c w reader page slot ≡ get_or (plain_table r) (slot_index r.sizes page slot) []
  unfolding read_words
  read_value reader page slot v = rw v (slot_value page slot (read_slot c w reader page slot v).0 (read_slot c w reader page slot v).1)

  -- a slot that somebody else owns has a write of the owner; a write of somebody else makes him its owner
  module _ (page slot : ℕ) (p : page < s.pages) (q : slot < slots_in s page) where
    holder : ℕ
    holder = owner_of s w.work (slot_base s page slot)

    base_lt : slot_base s page slot < total s
    base_lt = slot_lt s g.safe.devices.bounds page slot p q

    holder_owner : owner (slot_base s page slot) ≡ holder
    unfolding owner holder
    holder_owner =
        ap (owner_of s w.work)
        (slot_start_lem s page slot (slot_base s page slot) p q (omega arith) (omega (arith, (g.safe.devices.bounds.used page p).width_min))).0

    writer_holds : (x : WriteSet) → All (Fits s) x.writes → Idle s (slot_base s page slot) (owner (slot_base s page slot)) x
        → writes_slot page slot x.writes ≡ true → x.number ≡ holder
    unfolding Idle
    writer_holds x fits idles h = go (ℕ_discrete x.number holder)
      where
        go : Dec (x.number ≡ holder) → x.number ≡ holder
        go (yes e) = e
        go (no ne) =
            let none = idles (λ e. ne (e ∙ holder_owner)) in
            let z : ◌≡◌ {A = ℕ} 0 1 =
            sym (none 0) ∙ patched_fixed s page slot (g.safe.devices.bounds.used page p).width_min x.writes fits h 0 1 ∙ none 1 in
            absurd (omega arith)

    locked_written : (number : ℕ) → locked c w number page slot ≡ written_by_other number page slot r.write_sets
    unfolding is_open holder
    locked_written number = both_ways _ _ to from
      where
        lock : locked c w number page slot ≡ (is_open c.table holder && not (eqb holder number))
        lock = lock_of c g.safe.devices.bases w page slot (omega (arith, g.safe.devices.bounds.pages_max)) number

        to : locked c w number page slot ≡ true → written_by_other number page slot r.write_sets ≡ true
        to h =
            let k = (and-eq-true_iff (is_open c.table holder) (not (eqb holder number))).0 (sym lock ∙ h) in
            found_other number page slot holder r.write_sets (sym (g.sets.has holder) ∙ k.0) (g.owners.written page slot p q k.0)
            (eqb-false holder number (not-true _ k.1))

        from : written_by_other number page slot r.write_sets ≡ true → locked c w number page slot ≡ true
        from h =
            other_found number page slot (λ (x : WriteSet). (All (Fits s) x.writes × Idle s (slot_base s page slot) (owner (slot_base s page slot)) x) × (has_set x.number r.write_sets ≡ true))
            r.write_sets known h (locked c w number page slot ≡ true) found
          where
            known : All (λ (x : WriteSet). (All (Fits s) x.writes × Idle s (slot_base s page slot) (owner (slot_base s page slot)) x) × (has_set x.number r.write_sets ≡ true)) r.write_sets
            known =
                all_zip (λ x a b. (a, b.1)) r.write_sets (all_zip (λ x a b. (a, b)) r.write_sets g.sets.fits (idle (slot_base s page slot) base_lt))
                (own_writes r.write_sets g.sets.distinct)

            found : (x : WriteSet) → (All (Fits s) x.writes × Idle s (slot_base s page slot) (owner (slot_base s page slot)) x) × (has_set x.number r.write_sets ≡ true)
                → (x.number ≡ number → ⊥) → writes_slot page slot x.writes ≡ true → locked c w number page slot ≡ true
            found x k ne h =
                let same : x.number ≡ holder = writer_holds x k.0.0 k.0.1 h in
                lock ∙ rw (sym (ap (is_open c.table) same) ∙ open_set x.number k.1, ne_eqb holder number (λ e. ne (same ∙ e)))

-- the promise of specs/Promise.antt
pub plain : {puts : Told} (m : Machine) (r : Reference) → Served puts m.core m.world r → PlainTable m r
unfolding outcome result
plain m r g =
    record {
      sizes = g.serving.safe.sizes;
      pages = pages_plain g.serving;
      reads = λ reader page slot o. read_value g.serving reader page slot (taken_call (look (read reader page slot)) m.core m.world o).accepted;
      opened = g.serving.sets.has;
      locks = λ number page slot p q. locked_written g.serving page slot p q number;
    }
