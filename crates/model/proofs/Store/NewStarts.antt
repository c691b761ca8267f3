-- The new starts of a checkpoint: each is a boundary of its disk's log, and nobody needs what lies before them.
use mathlib.Core.Path.{◌≡◌, refl, sym, subst, ◌∙◌}
use mathlib.Core.Logic.{◌⊎◌, inl, inr}
use mathlib.Core.List.{List, [], ◌∷◌, ◌++◌, append-nil}
use mathlib.Core.Bool.{Bool, true, false, ◌&&◌, ◌||◌, and-eq-true_iff}
use Prim.Native.Nat.{ℕ, ◌+◌, ◌≤◌, ◌<◌}
use native.Mathlib.Omega.{arith}
use lib.Dec.{leb, eqb}
use lib.ListN.{get_or}
use borrow.Author.Tests.{lt-ltb, le-leb, lt-leb, eqb-true, eq-eqb, ne_eqb}
use Rattle.model.specs.declared.Core.{Core}
use Rattle.model.specs.Sizes.{total}
use Rattle.model.specs.World.{World}
use Rattle.model.specs.Memory.{copy_of}
use Rattle.model.specs.State.{places, kept_of, number_at, first_at, reserved_at, has_update, place_of, is_open}
use Rattle.model.specs.Causes.{when_open}
use Rattle.model.specs.Checkpoint.{new_start}
use Rattle.model.specs.Transaction.{disk_of}
use Rattle.model.specs.Reference.{Reference}
use Rattle.model.specs.History.{Told}
use Rattle.model.proofs.Meaning.{Holds, new_start_lem}
use Rattle.model.proofs.Geometry.{page_of, page_in}
use Rattle.model.proofs.Places.{open_place, place_open, place_holds, served_is, served_here}
use Rattle.model.proofs.Ledger.Entry.{Entry, some, All, pick}
use Rattle.model.proofs.Ledger.Order.{Ordered, size_of, on, Laid, boundary}
use Rattle.model.proofs.Ledger.Sums.{all_map, all_zip}
use Rattle.model.proofs.Ledger.Lists.{all_left, pick_whole, some_pick}
use Rattle.model.proofs.Ledger.Positions.{size_ge, laid_from, boundary_more, boundary_from}
use Rattle.model.proofs.Ledger.Ordered.{from_start, on_switch}
use Rattle.model.proofs.Ledger.Checkpoint.{MaySwitch}
use Rattle.model.proofs.Ledger.Switch.{Placed, switch_old, switch_closed, switch_last}
use Rattle.model.proofs.Store.View.{view, Own, words_for, Serving, before}
use Rattle.model.proofs.Booleans.{true_false}
use Rattle.model.proofs.Store.WordsFor.{words_for_picked}

-- a boundary from s on is one of the entries from s on
boundary_kept : (p s q : ℕ) (l : List Entry) → Laid p l → boundary s p l ≡ true → boundary q p l ≡ true → s ≤ q
    → boundary q s (pick (λ r. leb s r.position) l) ≡ true
unfolding boundary pick
boundary_kept p s q [] h b k m = eq-eqb q s (omega (arith, eqb-true s p b, eqb-true q p k))
boundary_kept p s q (r ∷ l) h b k m = go (eqb s p) refl b (boundary_kept (p + size_of r) s q l h.1)
  where
    go : (t : Bool) → eqb s p ≡ t → t || boundary s (p + size_of r) l ≡ true
        → (boundary s (p + size_of r) l ≡ true → boundary q (p + size_of r) l ≡ true → s ≤ q
        → boundary q s (pick (λ r. leb s r.position) l) ≡ true)
        → boundary q s (pick (λ r. leb s r.position) (r ∷ l)) ≡ true
    go true e x ih =
        let same : s ≡ p = eqb-true s p e in
        let all = all_map (λ r y. le-leb p r.position y) (r ∷ l) (laid_from p (r ∷ l) h) in
        subst (λ (z : ℕ). boundary q z (pick (λ r. leb z r.position) (r ∷ l)) ≡ true) (sym same)
        (subst (λ (m : List Entry). boundary q p m ≡ true) (sym (pick_whole (λ r. leb p r.position) (r ∷ l) all)) k)
    go false e x ih =
        let late : p + size_of r ≤ s = boundary_from s (p + size_of r) l x in
        let two = size_ge r in
        rw (lt-leb s r.position (omega (arith, h.0))) (ih x (rw (ne_eqb q p (λ z. omega arith)) at k) m)

-- so it is one of what is kept of a disk's log, the buffered entries among it
pub boundary_later : {disks : ℕ} {start home : ℕ → ℕ} {F B : List Entry} → Ordered disks start home F B → (start' : ℕ → ℕ) (d q : ℕ)
    → d < disks → boundary (start' d) (start d) (on d F) ≡ true → boundary q (start d) (on d F ++ on d B) ≡ true → start' d ≤ q
    → boundary q (start' d) (on d (pick (from_start start') F) ++ on d B) ≡ true
boundary_later {start = start} {F = F} {B = B} o start' d q h cut b m =
    rw (on_switch o start' d h cut)
    (boundary_kept (start d) (start' d) q (on d F ++ on d B) (o.laid d h) (boundary_more (start' d) (start d) (on d F) (on d B) cut) b m)

-- what holds of each open transaction's entries, as a property of all entries
open_entries : (O : ℕ → Bool) (P : ℕ → Entry → Type 0) (l : List Entry)
    → ((t : ℕ) → O t ≡ true → All (λ e. e.number ≡ t → P t e) l) → All (λ e. O e.number ≡ true → P e.number e) l
open_entries O P [] h = tt
open_entries O P (e ∷ l) h = ((λ o. (h e.number o).0 refl), open_entries O P l (λ t o. (h t o).1))

-- where an open transaction's first record lies, and the end of a disk that the checkpoint's begin remembered
abbrev pub first_position : Core → ℕ → ℕ
first_position c t = first_at c.table (place_of c.table t)

abbrev pub mark_of : Core → ℕ → ℕ
mark_of c d = get_or c.checkpoint.ends d 0

module _ {home : ℕ → ℕ} {puts : Told} {c : Core} {w : World} {r : Reference} {F : List Entry} (g : Serving 0 home puts c w r F [])
    (copying : when_open c.stage ≡ false) (copied : c.sizes.pages ≤ c.checkpoint.copied) where
  flat : (P : Entry → Type 0) → All P (F ++ []) → All P F
  flat P h = all_left P F [] h

  flat_on : (d : ℕ) → on d F ++ on d [] ≡ on d F
  unfolding on pick
  flat_on d = append-nil (on d F)

  -- an open transaction's first record begins at a boundary of its disk's log
  first_boundary : (t : ℕ) → is_open c.table t ≡ true → has_update c.table (place_of c.table t) ≡ true
      → boundary (first_position c t) (kept_of c.logs (disk_of c t)) (on (disk_of c t) F) ≡ true
  first_boundary t o h = rw (flat_on (disk_of c t)) at (g.accounts.firsts t o h)

  -- and so a new start is one: it is such a first position or a remembered end
  pub new_boundary : (d : ℕ) → d < c.sizes.disks → boundary (new_start c d) (kept_of c.logs d) (on d F) ≡ true
  unfolding disk_of
  new_boundary d h = go (new_start_lem c d).one_of
    where
      go : (new_start c d ≡ mark_of c d)
          ⊎ ((i : ℕ) × (i < places) × Holds c.table d i × (new_start c d ≡ first_at c.table i))
          → boundary (new_start c d) (kept_of c.logs d) (on d F) ≡ true
      go (inl e) = rw (e, ← flat_on d) (g.copies.ends copying d h)
      go (inr x) =
          let i : ℕ = x.0 in
          let t : ℕ = number_at c.table i in
          let at = served_is c.table d i x.2.0 in
          let place : place_of c.table t ≡ i = g.accounts.tabled.distinct i x.1 at.0 in
          let o : is_open c.table t ≡ true = place_open c.table t at.0 (rw place x.1) in
          rw x.3 (rw (place, at.1) at (first_boundary t o (rw place x.2.1)))

  own_entries : All (λ e. is_open c.table e.number ≡ true → Own 0 c e.number e) F
  own_entries = open_entries (is_open c.table) (Own 0 c) F (λ t o. flat _ (g.accounts.own t o))

  -- the new start of a disk is no later than the first record of an open transaction there
  pub start_early : (t : ℕ) → is_open c.table t ≡ true → has_update c.table (place_of c.table t) ≡ true
      → new_start c (disk_of c t) ≤ first_position c t
  unfolding disk_of
  start_early t o h =
      let at = open_place c.table t o in
      let there : number_at c.table (place_of c.table t) ≡ t = place_holds c.table t at.1 in
      (new_start_lem c (disk_of c t)).at_most_first (place_of c.table t) at.1
      (served_here c.table (disk_of c t) (place_of c.table t) (λ z. at.0 (sym there ∙ z)) refl, h)

  reach : All (λ e. is_open c.table e.number ≡ true → new_start c e.disk ≤ first_position c e.number) F
  reach = all_zip one F own_entries (flat _ g.safe.ordered.homed)
    where
      one : (e : Entry) → (is_open c.table e.number ≡ true → Own 0 c e.number e) → e.disk ≡ home e.number
          → is_open c.table e.number ≡ true → new_start c e.disk ≤ first_position c e.number
      one e own at o = rw (at ∙ g.accounts.homes e.number o) (start_early e.number o (own o).has)

  -- so the entries of an open transaction are all kept
  except_open : All (λ e. is_open c.table e.number ≡ true → from_start (new_start c) e ≡ true) F
  except_open = all_zip one F own_entries reach
    where
      one : (e : Entry) → (is_open c.table e.number ≡ true → Own 0 c e.number e)
          → (is_open c.table e.number ≡ true → new_start c e.disk ≤ first_position c e.number)
          → is_open c.table e.number ≡ true → from_start (new_start c) e ≡ true
      one e own low here = le-leb (new_start c e.disk) e.position (omega (arith, (own here).first, low here))

  -- and a transaction to come has none
  pub live_from_start : (t : ℕ) → (t < c.next → is_open c.table t ≡ true) → All (λ e. e.number ≡ t → from_start (new_start c) e ≡ true) F
  live_from_start t o =
      all_zip (λ e k used same. k (rw same (o (omega (arith, same))))) F except_open (flat _ g.accounts.numbered)

  open_kept : (t : ℕ) → is_open c.table t ≡ true → All (λ e. e.number ≡ t → from_start (new_start c) e ≡ true) F
  open_kept t o = live_from_start t (λ l. o)

  -- its first one among them, and as many words as are reserved
  pub first_stays : (t : ℕ) → is_open c.table t ≡ true → has_update c.table (place_of c.table t) ≡ true
      → some (λ e. eqb e.number t && eqb e.position (first_position c t)) (pick (from_start (new_start c)) F ++ []) ≡ true
  first_stays t o h =
      rw (append-nil (pick (from_start (new_start c)) F))
      (some_pick _ (from_start (new_start c)) F
      (all_map (λ e k both. k (eqb-true e.number t ((and-eq-true_iff _ _).0 both).0)) F (open_kept t o))
      ∙ (rw (append-nil F) at (g.accounts.started t o h)))

  pub reserved_stays : (t : ℕ) → is_open c.table t ≡ true → (t ≡ 0 → ⊥)
      → reserved_at c.table (place_of c.table t) ≡ 2 + words_for t (pick (from_start (new_start c)) F ++ [])
  reserved_stays t o ne =
      rw (append-nil (pick (from_start (new_start c)) F), words_for_picked t (from_start (new_start c)) F (all_map (λ e h f. ne_eqb e.number t (λ z. true_false (h z) f)) F (open_kept t o)))
      (rw (append-nil F) at (g.accounts.reserved t o ne))

  -- where the entries lie at the checkpoint's end
  pub placed : Placed (is_open c.table) (first_position c) (mark_of c) c.epoch F []
  unfolding before
  placed =
      record {
        opened = all_map (λ e h o. (h o).first) (F ++ []) (open_entries (is_open c.table) (Own 0 c) (F ++ []) g.accounts.own);
        closed_or_open = g.accounts.closed_or_open;
        early = all_map (λ e h l. h (rw (copying, lt-ltb e.position (get_or c.checkpoint.ends e.disk 0) l))) (F ++ []) g.copies.early;
      }

  -- every page has the checkpoint's copy number
  pub page_copied_lem : (p : ℕ) → p < c.sizes.pages → copy_of c.sizes w.work p ≡ c.epoch + 1
  page_copied_lem p h = rw (lt-ltb p c.checkpoint.copied (omega arith)) at (g.copies.pages p h)

  -- the last store may be made
  pub may : MaySwitch (total c.sizes) (view c w r F []) (from_start (new_start c))
  unfolding view
  may =
      record {
        none_buffered = refl;
        all_copied = λ i h. omega (arith, page_copied_lem (page_of c.sizes i) (page_in c.sizes i h).0);
        old = λ i h. switch_old g.safe.ordered (new_start c) placed (λ d l. (new_start_lem c d).at_most_end) i;
        closed = rw (append-nil F) at (switch_closed g.safe.ordered (new_start c) placed reach);
        last = switch_last g.safe.ordered (new_start c);
      }
