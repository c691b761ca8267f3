-- The new starts of a checkpoint are the told ones: the mark, or the first record put by a transaction that is still open.
use mathlib.Core.Path.{◌≡◌, refl, sym, ap, ◌∙◌}
use mathlib.Core.Logic.{◌⊎◌, inl, inr}
use mathlib.Core.List.{List, [], ◌∷◌, ◌++◌}
use mathlib.Core.Bool.{Bool, true, false, ◌||◌}
use Prim.Native.Nat.{ℕ, ◌+◌, ◌≤◌, ◌<◌}
use native.Mathlib.Omega.{arith}
use native.Mathlib.Decide.{ℕ_discrete}
use lib.Dec.{ltb, eqb}
use lib.ListN.{get_or}
use borrow.Author.Tests.{lt-ltb, ltb-true, eqb-true, eq-eqb, ne_eqb}
use Rattle.model.specs.declared.Core.{Core}
use Rattle.model.specs.Scan.{Update, updates_in, update_words, oldest}
use Rattle.model.specs.World.{World}
use Rattle.model.specs.State.{places, start_of, number_at, disk_at_place, is_open, place_of, first_at, reserved_at, has_update}
use Rattle.model.specs.Causes.{when_open}
use Rattle.model.specs.Transaction.{disk_of}
use Rattle.model.specs.Checkpoint.{new_start}
use Rattle.model.specs.Reference.{Reference, WriteSet, has_set}
use Rattle.model.specs.History.{Told, updates_put, start_put, or_oldest}
use Rattle.model.specs.LogPromise.{log_scan}
use Rattle.model.proofs.Booleans.{true_false, or_right}
use Rattle.model.proofs.Meaning.{Holds, new_start_lem}
use Rattle.model.proofs.Updates.{update_words_none, update_words_first}
use Rattle.model.proofs.Growth.{kept_start}
use Rattle.model.proofs.Places.{open_place, place_open, place_holds, served_is, served_here}
use Rattle.model.proofs.Ledger.Entry.{Entry, on_disk}
use Rattle.model.proofs.Ledger.Order.{on}
use Rattle.model.proofs.Ledger.Sums.{all_zip}
use Rattle.model.proofs.Ledger.Lists.{on_append}
use Rattle.model.proofs.Ledger.Picks.{all_pick, pick_all}
use Rattle.model.proofs.Link.Words.{placed_entries}
use Rattle.model.proofs.Store.View.{Serving}
use Rattle.model.proofs.Store.Told.{updates_none, updates_among}
use Rattle.model.proofs.Store.Truth.{log_entries, reserved_true, first_true}

-- no update of the list lies before n
unfoldable NoneBefore : ℕ → List Update → Type 0
NoneBefore n [] = Unit {0}
NoneBefore n (u ∷ us) = n ≤ oldest (u ∷ us)

-- The told start is the least of the mark and of the first positions.
module _ (puts : Told) (d : ℕ) where
  start_mark : (sets : List WriteSet) → start_put puts sets d ≤ puts.marks d
  unfolding start_put
  start_mark [] = omega arith
  start_mark (x ∷ xs) = go (updates_put puts d x.number) (start_mark xs)
    where
      go : (us : List Update) → start_put puts xs d ≤ puts.marks d → or_oldest (start_put puts xs d) us ≤ puts.marks d
      go [] h = h
      go (u ∷ us) h = omega arith

  start_first : (sets : List WriteSet) (t : ℕ) → has_set t sets ≡ true → NoneBefore (start_put puts sets d) (updates_put puts d t)
  unfolding start_put has_set NoneBefore
  start_first [] t h = true_false h refl
  start_first (x ∷ xs) t h = go (eqb x.number t) refl h (start_first xs t)
    where
      least : ℕ
      least = start_put puts xs d

      own : (us : List Update) → NoneBefore (or_oldest least us) us
      own [] = tt
      own (u ∷ us) = omega arith

      other : (vs us : List Update) → NoneBefore least us → NoneBefore (or_oldest least vs) us
      other vs [] k = tt
      other [] (u ∷ us) k = k
      other (v ∷ vs) (u ∷ us) k = omega arith

      go : (b : Bool) → eqb x.number t ≡ b → b || has_set t xs ≡ true → (has_set t xs ≡ true → NoneBefore least (updates_put puts d t))
          → NoneBefore (or_oldest least (updates_put puts d x.number)) (updates_put puts d t)
      go true e k ih = rw (eqb-true x.number t e) (own (updates_put puts d t))
      go false e k ih = other (updates_put puts d x.number) (updates_put puts d t) (ih k)

  start_least : (n : ℕ) (sets : List WriteSet) → n ≤ puts.marks d → ((t : ℕ) → has_set t sets ≡ true → NoneBefore n (updates_put puts d t))
      → n ≤ start_put puts sets d
  unfolding start_put has_set NoneBefore
  start_least n [] h k = h
  start_least n (x ∷ xs) h k =
      go (updates_put puts d x.number) (k x.number (rw (eq-eqb x.number x.number refl)))
      (start_least n xs h (λ t y. k t (or_right (eqb x.number t) (has_set t xs) y)))
    where
      go : (us : List Update) → NoneBefore n us → n ≤ start_put puts xs d → n ≤ or_oldest (start_put puts xs d) us
      go [] a b = b
      go (u ∷ us) a b = omega arith

module _ {home : ℕ → ℕ} {puts : Told} {c : Core} {w : World} {r : Reference} {F B : List Entry} (g : Serving 0 home puts c w r F B)
    (d : ℕ) (below : d < c.sizes.disks) where
  -- an open transaction's updates put on a disk are those that the log has there
  updates_read : (t : ℕ) → is_open c.table t ≡ true → updates_put puts d t ≡ updates_in t (log_scan c w d)
  updates_read t o =
      updates_among g t o d below
      ∙ ap (updates_in t)
      (placed_entries (start_of c.logs d) (on d F ++ on d B) (rw (kept_start c.logs d) at (g.safe.ordered.laid d below)) ∙ sym (log_entries g d below))

  -- on a disk that is not its own it has put none
  none_elsewhere : (t : ℕ) → is_open c.table t ≡ true → (disk_of c t ≡ d → ⊥) → updates_put puts d t ≡ []
  unfolding on on_disk
  none_elsewhere t o ne =
      updates_among g t o d below
      ∙ updates_none t (start_of c.logs d) (on d F ++ on d B)
      (rw (← on_append d F B)
      (all_zip
      (λ e at here. ne_eqb e.number t (λ same. ne (sym (g.accounts.homes t o) ∙ ap home (sym same) ∙ sym at ∙ eqb-true e.disk d here)))
      (on d (F ++ B)) (all_pick _ (on_disk d) (F ++ B) g.safe.ordered.homed) (pick_all (on_disk d) (F ++ B))))

  -- on its own disk the table knows how many words they have, and where the first is
  module _ (t : ℕ) (o : is_open c.table t ≡ true) (here : disk_of c t ≡ d) where
    words_told : reserved_at c.table (place_of c.table t) ≡ 2 + update_words (updates_put puts d t)
    words_told = rw (updates_read t o, ← here) (reserved_true g t o)

    first_told : has_update c.table (place_of c.table t) ≡ true → oldest (updates_put puts d t) ≡ first_at c.table (place_of c.table t)
    first_told has = rw (updates_read t o, ← here) (first_true g t o has)

  -- no open transaction has a record before the new start
  none_before : (t : ℕ) → is_open c.table t ≡ true → NoneBefore (new_start c d) (updates_put puts d t)
  unfolding NoneBefore has_update disk_of
  none_before t o = go (ℕ_discrete (disk_of c t) d)
    where
      own : (here : disk_of c t ≡ d) (us : List Update) → updates_put puts d t ≡ us → NoneBefore (new_start c d) us
      own here [] e = tt
      own here (u ∷ us) e =
          let at = open_place c.table t o in
          let words = ap update_words e ∙ update_words_first u us in
          let has : ltb 2 (reserved_at c.table (place_of c.table t)) ≡ true =
          lt-ltb 2 (reserved_at c.table (place_of c.table t)) (omega (arith, words_told t o here, words)) in
          let there : number_at c.table (place_of c.table t) ≡ t = place_holds c.table t at.1 in
          let first = (new_start_lem c d).at_most_first (place_of c.table t) at.1 (served_here c.table d (place_of c.table t) (λ z. at.0 (sym there ∙ z)) here, has) in
          omega (arith, first, sym (ap oldest e) ∙ first_told t o here has)

      go : Dec (disk_of c t ≡ d) → NoneBefore (new_start c d) (updates_put puts d t)
      go (yes here) = own here (updates_put puts d t) refl
      go (no ne) = rw (none_elsewhere t o ne) tt

  -- the told start is no later than the first position of a place that counts
  reached : (i : ℕ) → i < places → Holds c.table d i → start_put puts r.write_sets d ≤ first_at c.table i
  unfolding NoneBefore has_update disk_of
  reached i l h =
      let t : ℕ = number_at c.table i in
      let at = served_is c.table d i h.0 in
      let place : place_of c.table t ≡ i = g.accounts.tabled.distinct i l at.0 in
      let o : is_open c.table t ≡ true = place_open c.table t at.0 (rw place l) in
      let here : disk_at_place c.table (place_of c.table t) ≡ d = rw place at.1 in
      rw place at (own t o here (rw place h.1) (updates_put puts d t) refl (start_first puts d r.write_sets t (sym (g.sets.has t) ∙ o)))
    where
      own : (t : ℕ) (o : is_open c.table t ≡ true) (here : disk_of c t ≡ d) → has_update c.table (place_of c.table t) ≡ true
          → (us : List Update) → updates_put puts d t ≡ us → NoneBefore (start_put puts r.write_sets d) us
          → start_put puts r.write_sets d ≤ first_at c.table (place_of c.table t)
      own t o here has [] e k =
          absurd (omega (arith, ltb-true 2 (reserved_at c.table (place_of c.table t)) has, words_told t o here, ap update_words e ∙ update_words_none))
      own t o here has (u ∷ us) e k = omega (arith, sym (ap oldest e) ∙ first_told t o here has)

  -- so the new start is the told one
  pub new_start_told : when_open c.stage ≡ false → new_start c d ≡ start_put puts r.write_sets d
  new_start_told copying =
      let s = new_start_lem c d in
      let mark : get_or c.checkpoint.ends d 0 ≡ puts.marks d = g.marks copying d below in
      let least = start_least puts d (new_start c d) r.write_sets (omega (arith, s.at_most_end)) (λ t h. none_before t (g.sets.has t ∙ h)) in
      omega (arith, least, go s.one_of mark)
    where
      go : (new_start c d ≡ get_or c.checkpoint.ends d 0)
          ⊎ ((i : ℕ) × (i < places) × Holds c.table d i × (new_start c d ≡ first_at c.table i))
          → get_or c.checkpoint.ends d 0 ≡ puts.marks d → start_put puts r.write_sets d ≤ new_start c d
      go (inl e) mark = omega (arith, start_mark puts d r.write_sets)
      go (inr x) mark = omega (arith, reached x.0 x.1 x.2, x.3)
