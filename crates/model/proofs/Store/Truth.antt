-- While the store is open its logs hold what the calls put there, and its state says what is true.
use mathlib.Core.Path.{◌≡◌, refl, sym, ap, ◌∙◌}
use mathlib.Core.List.{List, [], ◌∷◌, ◌++◌, append-nil}
use mathlib.Core.Bool.{Bool, true, false, cond, ◌&&◌, ◌||◌, and-false, and-eq-true_iff}
use Prim.Native.Nat.{ℕ, ◌+◌, ◌≤◌, ◌<◌}
use native.Mathlib.Omega.{arith}
use lib.Dec.{leb, eqb}
use borrow.Author.Tests.{le-leb, eqb-true, eqb-false, eq-eqb, ne_eqb}
use Rattle.model.specs.declared.Core.{Core}
use Rattle.model.specs.Scan.{Scan, Update, updates_in, update_words, oldest}
use Rattle.model.specs.World.{World}
use Rattle.model.specs.State.{start_of, kept_of, is_open, place_of, first_at, has_update, reserved_at}
use Rattle.model.specs.Transaction.{disk_of}
use Rattle.model.specs.Reference.{Reference}
use Rattle.model.specs.Machine.{Machine}
use Rattle.model.specs.History.{Told}
use Rattle.model.specs.LogPromise.{log_scan, Truth}
use Rattle.model.proofs.Ledger.Entry.{Entry, record_of, is_close, some, All, pick, on_disk}
use Rattle.model.proofs.Ledger.Order.{on, size_of, Laid, boundary, entries_scan}
use Rattle.model.proofs.Ledger.Sums.{all_map, all_append, all_right}
use Rattle.model.proofs.Ledger.Picks.{all_pick}
use Rattle.model.proofs.Ledger.Lists.{all_left, pick_whole, on_append, some_pick}
use Rattle.model.proofs.Ledger.Positions.{size_ge, laid_from, boundary_start}
use Rattle.model.proofs.Growth.{kept_start}
use Rattle.model.proofs.Link.Abort.{scan_from}
use Rattle.model.proofs.Store.View.{words_for, Serving, Served, open_used}
use Rattle.model.proofs.Places.{open_place}
use Rattle.model.proofs.Store.AbortRows.{update_words_lem}
use Rattle.model.proofs.Booleans.{true_false}
use Rattle.model.proofs.Store.WordsFor.{words_for_picked}

module _ {home : ℕ → ℕ} {puts : Told} {c : Core} {w : World} {r : Reference} {F B : List Entry} (g : Serving 0 home puts c w r F B)
    (d : ℕ) (below : d < c.sizes.disks) where
  -- the entries of the disk
  abbrev entries : List Entry
  entries = on d F ++ on d B

  laid : Laid (start_of c.logs d) entries
  laid = rw (kept_start c.logs d) at (g.safe.ordered.laid d below)

  at_start : boundary (start_of c.logs d) (kept_of c.logs d) entries ≡ true
  at_start = rw (kept_start c.logs d) (boundary_start (start_of c.logs d) entries)

  from_start_lem : pick (λ e. leb (start_of c.logs d) e.position) entries ≡ entries
  from_start_lem = pick_whole _ entries (all_map (λ e h. le-leb _ _ h) entries (laid_from (start_of c.logs d) entries laid))

  -- the log reads as them
  pub log_entries : log_scan c w d ≡ entries_scan entries
  unfolding log_scan
  log_entries =
      scan_from g.safe.link d below (start_of c.logs d) g.safe.fit (g.safe.ordered.laid d below) at_start
      ∙ ap entries_scan from_start_lem

-- the position of a transaction's first entry
first_in : ℕ → List Entry → ℕ
first_in t [] = 0
first_in t (e ∷ l) = cond (eqb e.number t) e.position (first_in t l)

oldest_last : (us : List Update) (u : Update) → oldest (us ++ u ∷ []) ≡ u.position
unfolding oldest
oldest_last [] u = refl
oldest_last (v ∷ []) u = refl
oldest_last (v ∷ x ∷ us) u = oldest_last (x ∷ us) u

-- the oldest update that a reader finds is the first entry
oldest_first : (t : ℕ) (l : List Entry) → All (λ e. e.number ≡ t → e.kind ≡ 0) l → oldest (updates_in t (entries_scan l)) ≡ first_in t l
unfolding updates_in entries_scan first_in record_of is_close oldest
oldest_first t [] h = refl
oldest_first t (e ∷ l) h = go (is_close e) refl (eqb e.number t) refl (oldest_first t l h.1)
  where
    go : (b : Bool) → is_close e ≡ b → (k : Bool) → eqb e.number t ≡ k → oldest (updates_in t (entries_scan l)) ≡ first_in t l
        → oldest (updates_in t (entries_scan (e ∷ l))) ≡ cond k e.position (first_in t l)
    go true c true x ih = true_false c (rw (h.0 (eqb-true e.number t x)))
    go true c false x ih = rw c ih
    go false c true x ih =
        rw (c, eq-eqb e.kind 0 (h.0 (eqb-true e.number t x)), x)
        (oldest_last (updates_in t (entries_scan l)) (record { position = e.position; page = e.page; slot = e.slot; diff = e.diff }))
    go false c false x ih = rw (c, x, and-false, append-nil) ih

-- an entry that lies at f among those from p on: f is no earlier
found_from : (t f p : ℕ) (l : List Entry) → Laid p l → some (λ e. eqb e.number t && eqb e.position f) l ≡ true → p ≤ f
unfolding some
found_from t f p [] laid s = true_false s refl
found_from t f p (e ∷ l) laid s =
    go (eqb e.number t) (eqb e.position f) refl s (λ k. found_from t f (p + size_of e) l laid.1 k)
  where
    go : (a b : Bool) → eqb e.position f ≡ b → (a && b || some (λ e. eqb e.number t && eqb e.position f) l) ≡ true
        → (some (λ e. eqb e.number t && eqb e.position f) l ≡ true → p + size_of e ≤ f) → p ≤ f
    go true true x s ih = omega (arith, laid.0, eqb-true e.position f x)
    go true false x s ih = omega (arith, ih s)
    go false b x s ih = omega (arith, ih s)

-- where none of its entries lies before f and one lies there, that one is the first
first_is : (t f p : ℕ) (l : List Entry) → Laid p l → All (λ e. e.number ≡ t → f ≤ e.position) l
    → some (λ e. eqb e.number t && eqb e.position f) l ≡ true → first_in t l ≡ f
unfolding first_in some
first_is t f p [] laid h s = true_false s refl
first_is t f p (e ∷ l) laid h s =
    go (eqb e.number t) (eqb e.position f) refl refl s (λ k. found_from t f (p + size_of e) l laid.1 k)
    (λ k. first_is t f (p + size_of e) l laid.1 h.1 k)
  where
    go : (a b : Bool) → eqb e.number t ≡ a → eqb e.position f ≡ b
        → (a && b || some (λ e. eqb e.number t && eqb e.position f) l) ≡ true
        → (some (λ e. eqb e.number t && eqb e.position f) l ≡ true → p + size_of e ≤ f)
        → (some (λ e. eqb e.number t && eqb e.position f) l ≡ true → first_in t l ≡ f)
        → cond a e.position (first_in t l) ≡ f
    go true true x y s later ih = eqb-true e.position f y
    go true false x y s later ih =
        absurd (omega (arith, later s, laid.0, h.0 (eqb-true e.number t x), size_ge e))
    go false b x y s later ih = ih s

module _ {home : ℕ → ℕ} {puts : Told} {c : Core} {w : World} {r : Reference} {F B : List Entry} (g : Serving 0 home puts c w r F B)
    (t : ℕ) (o : is_open c.table t ≡ true) where
  d : ℕ
  d = disk_of c t

  below : d < c.sizes.disks
  unfolding d
  below = g.accounts.disks t o

  some_number : t ≡ 0 → ⊥
  some_number = (open_place c.table t o).0

  -- its entries lie on its disk
  elsewhere : All (λ e. on_disk d e ≡ false → eqb e.number t ≡ false) (F ++ B)
  unfolding on_disk d
  elsewhere = all_map away (F ++ B) g.safe.ordered.homed
    where
      away : (e : Entry) → e.disk ≡ home e.number → eqb e.disk (disk_of c t) ≡ false → eqb e.number t ≡ false
      away e h n = ne_eqb e.number t (λ x. eqb-false e.disk (disk_of c t) n (h ∙ ap home x ∙ g.accounts.homes t o))

  there : (P : Entry → Type 0) → All P (F ++ B) → All P (on d F ++ on d B)
  unfolding on
  there P h = all_append P (on d F) (on d B) (all_pick P _ F (all_left P F B h)) (all_pick P _ B (all_right P F B h))

  kinds : All (λ e. e.number ≡ t → e.kind ≡ 0) (on d F ++ on d B)
  kinds = there _ (all_map (λ e h n. (h n).kind some_number) (F ++ B) (g.accounts.own t o))

  words_here : words_for t (F ++ B) ≡ words_for t (on d F ++ on d B)
  unfolding on
  words_here = sym (words_for_picked t (on_disk d) (F ++ B) elsewhere) ∙ ap (words_for t) (on_append d F B)

  pub reserved_true : reserved_at c.table (place_of c.table t) ≡ 2 + update_words (updates_in t (log_scan c w (disk_of c t)))
  unfolding d
  reserved_true =
      g.accounts.reserved t o some_number
      ∙ ap (λ (n : ℕ). 2 + n)
      (words_here ∙ sym (ap (λ (z : Scan). update_words (updates_in t z)) (log_entries g d below) ∙ update_words_lem t _ kinds))

  -- and so does the one at its first position
  started_here : (f : ℕ) → some (λ e. eqb e.number t && eqb e.position f) (F ++ B) ≡ true
      → some (λ e. eqb e.number t && eqb e.position f) (on d F ++ on d B) ≡ true
  unfolding on on_disk d
  started_here f k =
      rw (← on_append (disk_of c t) F B)
      (some_pick (λ e. eqb e.number t && eqb e.position f) (on_disk (disk_of c t)) (F ++ B) (all_map here (F ++ B) g.safe.ordered.homed) ∙ k)
    where
      here : (e : Entry) → e.disk ≡ home e.number → eqb e.number t && eqb e.position f ≡ true → eqb e.disk (disk_of c t) ≡ true
      here e h x =
          eq-eqb e.disk (disk_of c t)
          (h ∙ ap home (eqb-true e.number t ((and-eq-true_iff (eqb e.number t) (eqb e.position f)).0 x).0) ∙ g.accounts.homes t o)

  pub first_true : has_update c.table (place_of c.table t) ≡ true
      → oldest (updates_in t (log_scan c w (disk_of c t))) ≡ first_at c.table (place_of c.table t)
  unfolding d
  first_true h =
      ap (λ (z : Scan). oldest (updates_in t z)) (log_entries g d below)
      ∙ oldest_first t _ kinds
      ∙ first_is t _ (kept_of c.logs d) _ (g.safe.ordered.laid d below)
      (there _ (all_map (λ e k n. (k n).first) (F ++ B) (g.accounts.own t o)))
      (started_here _ (g.accounts.started t o h))

-- the promise of the state
pub truth : {puts : Told} (m : Machine) (r : Reference) → Served puts m.core m.world r → Truth m
truth m r g =
    let s = g.serving in
    record {
      sizes = s.safe.devices.sizes;
      epoch = s.safe.devices.epoch;
      starts = s.safe.devices.starts;
      order = λ disk h. omega (arith, kept_start m.core.logs disk, s.safe.link.tail disk h);
      tails = s.safe.link.stored;
      reserved = reserved_true s;
      first = first_true s;
      pages = s.copies.pages;
      numbers = λ t o. (open_used s.safe t o).1;
    }
