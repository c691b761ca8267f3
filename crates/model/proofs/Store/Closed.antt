-- A transaction closed: the table, the write sets and the log's accounts without it, and the others as they were.
use mathlib.Core.Path.{◌≡◌, refl, sym, ap, ◌∙◌}
use mathlib.Core.List.{List, [], ◌∷◌, ◌++◌, append_assoc}
use mathlib.Core.Bool.{Bool, true, false, cond, not, ◌&&◌, ◌||◌, or-true, and-true}
use Prim.Native.Nat.{ℕ, ◌+◌, ◌<◌}
use native.Mathlib.Decide.{ℕ_discrete}
use lib.Dec.{eqb}
use borrow.Author.Tests.{eq-eqb, ne_eqb}
use Rattle.model.specs.declared.Table.{Table}
use Rattle.model.specs.declared.Logs.{Logs}
use Rattle.model.specs.declared.Core.{Core}
use Rattle.model.specs.Sizes.{total, slots_in, slot_base}
use Rattle.model.specs.World.{World}
use Rattle.model.specs.Memory.{owner_of}
use Rattle.model.specs.State.{kept_of, reserved_at, place_of, disk_at_place, first_at, has_update, is_open, without, with_log}
use Rattle.model.specs.Transaction.{disk_of}
use Rattle.model.specs.Reference.{Reference, Write, WriteSet, writes_of, writes_slot, removed, has_set}
use Rattle.model.specs.History.{Put, records_on}
use Rattle.model.proofs.Bounds.{Bounded}
use Rattle.model.proofs.WriteSets.{distinct_removed, removed_has, writes_removed_other}
use Rattle.model.proofs.SetPlace.{SameAt, other_same}
use Rattle.model.proofs.Places.{Tabled, open_place, close_other, close_open, close_tabled, places_apart}
use Rattle.model.proofs.Ledger.Entry.{Entry, record_of, is_close, some, All, closed_in, on_disk}
use Rattle.model.proofs.Ledger.Order.{on, boundary}
use Rattle.model.proofs.Ledger.Sums.{all_map}
use Rattle.model.proofs.Ledger.Picks.{some_append, closed_append}
use Rattle.model.proofs.Ledger.Word.{except_open}
use Rattle.model.proofs.Ledger.Lists.{all_flush, some_halves, closed_flush, on_flush, on_more, off_more}
use Rattle.model.proofs.Ledger.Close.{closes_one}
use Rattle.model.proofs.Store.View.{words_for, Accounts, Sets, Owners, Since}
use Rattle.model.proofs.Store.Same.{slot_lt}
use Rattle.model.proofs.Store.Flush.{left}
use Rattle.model.proofs.Booleans.{true_false}
use Rattle.model.proofs.Store.OneMore.{all_more, told_more, boundary_logged}
use Rattle.model.proofs.Store.WordsFor.{words_for_flush, words_for_other}

-- Another open transaction has its place, its disk, its updates, its first record and its reserved words as before.
module _ (t : Table) (ok : Tabled t) (n : ℕ) (opened : is_open t n ≡ true) (u : ℕ) (also : is_open t u ≡ true) (ne : u ≡ n → ⊥) where
  place_same : place_of (without t n) u ≡ place_of t u
  place_same = close_other t ok n opened u ne (open_place t u also).0

  there : SameAt t (without t n) (place_of t u)
  unfolding without
  there = other_same t (place_of t n) 0 0 0 0 _ _ (place_of t u) (places_apart t u n also opened ne)

  pub disk_kept : disk_at_place (without t n) (place_of (without t n) u) ≡ disk_at_place t (place_of t u)
  disk_kept = rw place_same there.disk

  pub first_kept : first_at (without t n) (place_of (without t n) u) ≡ first_at t (place_of t u)
  first_kept = rw place_same there.first

  pub reserved_kept : reserved_at (without t n) (place_of (without t n) u) ≡ reserved_at t (place_of t u)
  reserved_kept = rw place_same there.reserved

  pub has_kept : has_update (without t n) (place_of (without t n) u) ≡ has_update t (place_of t u)
  unfolding has_update
  has_kept = rw (place_same, there.reserved)

-- one that is open after the close was open before it, and is another
pub was_open : (t : Table) → Tabled t → (n : ℕ) → is_open t n ≡ true → (u : ℕ) → is_open (without t n) u ≡ true
    → (is_open t u ≡ true) × (u ≡ n → ⊥)
was_open t ok n opened u o = except_open (is_open t) n u (sym (close_open t ok n opened u) ∙ o)

-- A property of all the write sets: of those without one, and of the writes of each.
pub all_removed : (P : WriteSet → Type 0) (n : ℕ) (sets : List WriteSet) → All P sets → All P (removed n sets)
unfolding removed
all_removed P n [] h = tt
all_removed P n (x ∷ xs) h = go (eqb x.number n) (all_removed P n xs h.1)
  where
    go : (b : Bool) → All P (removed n xs) → All P (cond b xs (x ∷ removed n xs))
    go true k = h.1
    go false k = (h.0, k)

pub all_writes : (P : Write → Type 0) (n : ℕ) (sets : List WriteSet) → All (λ (x : WriteSet). All P x.writes) sets
    → All P (writes_of n sets)
unfolding writes_of
all_writes P n [] h = tt
all_writes P n (x ∷ xs) h = go (eqb x.number n) (all_writes P n xs h.1)
  where
    go : (b : Bool) → All P (writes_of n xs) → All P (cond b x.writes (writes_of n xs))
    go true k = h.0
    go false k = k

-- the reference without the set of the closed transaction
pub sets_closed : {c : Core} {r : Reference} → Tabled c.table → (n : ℕ) → is_open c.table n ≡ true → Sets c r → (l : Logs) (q : Reference)
    → q.write_sets ≡ removed n r.write_sets → Sets (with_log c l (without c.table n)) q
unfolding with_log
sets_closed {c} {r} ok n opened h l q e =
    record {
      distinct = rw e (distinct_removed n r.write_sets h.distinct);
      has =
          λ t. close_open c.table ok n opened t ∙ ap (λ (b : Bool). b && not (eqb t n)) (h.has t)
          ∙ sym (removed_has n r.write_sets h.distinct t) ∙ ap (has_set t) (sym e);
      fits = rw e (all_removed _ n r.write_sets h.fits);
    }

-- The owners stay: of those that are still open, none is the closed transaction, and their sets are kept.
pub owners_closed : {c : Core} {w v : World} {r : Reference} → Tabled c.table → (n : ℕ) → is_open c.table n ≡ true → Bounded c.sizes
    → Owners c w r → ((i : ℕ) → i < total c.sizes → owner_of c.sizes v.work i ≡ owner_of c.sizes w.work i) → (l : Logs) (q : Reference)
    → q.write_sets ≡ removed n r.write_sets → Owners (with_log c l (without c.table n)) v q
unfolding with_log
owners_closed {c} {w} {v} {r} ok n opened b h same l q e =
    record {
      below = λ page slot p k. rw (word page slot p k) (h.below page slot p k);
      written = λ page slot p k. rw (word page slot p k) (λ o. still page slot (was_open c.table ok n opened _ o) (h.written page slot p k));
    }
  where
    word : (page slot : ℕ) → page < c.sizes.pages → slot < slots_in c.sizes page
        → owner_of c.sizes v.work (slot_base c.sizes page slot) ≡ owner_of c.sizes w.work (slot_base c.sizes page slot)
    word page slot p k = same _ (slot_lt c.sizes b page slot p k)

    still : (page slot : ℕ) {u : ℕ} → (is_open c.table u ≡ true) × (u ≡ n → ⊥)
        → (is_open c.table u ≡ true → writes_slot page slot (writes_of u r.write_sets) ≡ true)
        → writes_slot page slot (writes_of u q.write_sets) ≡ true
    still page slot {u} k has = rw (e, writes_removed_other n r.write_sets u k.1) (has k.0)

-- A closing record e added to the log: F and B become L and M, which have the same entries and e.
module _ {x : ℕ} {home : ℕ → ℕ} {c : Core} {F B : List Entry} (a : Accounts x home c F B) (e : Entry) (L M : List Entry)
    (opened : is_open c.table e.number ≡ true) (closes : is_close e ≡ true)
    (exempt : (u : ℕ) → (u ≡ e.number → ⊥) → is_open c.table u ≡ true → u ≡ x → ⊥)
    (moved : (P : Entry → Type 0) → All P (F ++ B) → P e → All P (L ++ M))
    (closed : (t : ℕ) → closed_in (L ++ M) t ≡ (closed_in (F ++ B) t || eqb e.number t))
    (bounds : (q p d : ℕ) → boundary q p (on d F ++ on d B) ≡ true → boundary q p (on d L ++ on d M) ≡ true)
    (l : Logs) (kept_same : (d : ℕ) → kept_of l d ≡ kept_of c.logs d) (known : e.number < c.next)
    (found : (p : Entry → Bool) → some p (F ++ B) ≡ true → some p (L ++ M) ≡ true)
    (words : (t : ℕ) → (t ≡ e.number → ⊥) → words_for t (L ++ M) ≡ words_for t (F ++ B)) where
  abbrev table : Table
  table = without c.table e.number

  open_before : (u : ℕ) → is_open table u ≡ true → (is_open c.table u ≡ true) × (u ≡ e.number → ⊥)
  open_before = was_open c.table a.tabled e.number opened

  disk_same : (u : ℕ) → is_open table u ≡ true → disk_at_place table (place_of table u) ≡ disk_of c u
  unfolding disk_of
  disk_same u o = disk_kept c.table a.tabled e.number opened u (open_before u o).0 (open_before u o).1

  first_same : (u : ℕ) → is_open table u ≡ true → first_at table (place_of table u) ≡ first_at c.table (place_of c.table u)
  first_same u o = first_kept c.table a.tabled e.number opened u (open_before u o).0 (open_before u o).1

  has_same : (u : ℕ) → is_open table u ≡ true → has_update table (place_of table u) ≡ has_update c.table (place_of c.table u)
  has_same u o = has_kept c.table a.tabled e.number opened u (open_before u o).0 (open_before u o).1

  reserved_same : (u : ℕ) → is_open table u ≡ true → reserved_at table (place_of table u) ≡ reserved_at c.table (place_of c.table u)
  reserved_same u o = reserved_kept c.table a.tabled e.number opened u (open_before u o).0 (open_before u o).1

  -- a transaction that is not open is closed in the log, now also this one
  closed_or_open : (t : ℕ) → (is_open c.table t ≡ false → closed_in (F ++ B) t ≡ true) → is_open table t ≡ false → closed_in (L ++ M) t ≡ true
  closed_or_open t h o = closed t ∙ go (ℕ_discrete e.number t)
    where
      go : Dec (e.number ≡ t) → (closed_in (F ++ B) t || eqb e.number t) ≡ true
      go (yes k) = rw (eq-eqb e.number t k) (or-true (closed_in (F ++ B) t))
      go (no k) =
          let shut : is_open c.table t ≡ false =
          sym (and-true (is_open c.table t))
          ∙ rw (ne_eqb t e.number (λ z. k (sym z))) at (sym (close_open c.table a.tabled e.number opened t) ∙ o) in
          rw (h shut)

  pub accounts_closed : Accounts 0 home (with_log c l table) L M
  unfolding with_log disk_of
  accounts_closed =
      record {
        tabled = close_tabled c.table a.tabled e.number opened;
        homes = λ u o. a.homes u (open_before u o).0 ∙ sym (disk_same u o);
        own =
            λ u o. moved _
            (all_map (λ q h n. record { has = has_same u o ∙ (h n).has; first = rw (first_same u o) (h n).first; kind = λ z. (h n).kind (exempt u (open_before u o).1 (open_before u o).0) }) (F ++ B)
            (a.own u (open_before u o).0))
            (λ n. absurd ((open_before u o).1 (sym n)));
        firsts =
            λ u o h. rw (first_same u o, disk_same u o, kept_same)
            (bounds _ _ (disk_of c u) (a.firsts u (open_before u o).0 (sym (has_same u o) ∙ h)));
        disks = λ u o. rw (disk_same u o) (a.disks u (open_before u o).0);
        started = λ u o h. rw (first_same u o) (found _ (a.started u (open_before u o).0 (sym (has_same u o) ∙ h)));
        reserved =
            λ u o z. let k = open_before u o in
            reserved_same u o ∙ a.reserved u k.0 (exempt u k.1 k.0) ∙ ap (λ (n : ℕ). 2 + n) (sym (words u k.1));
        closed_or_open =
            moved _ (all_map (λ q h. closed_or_open q.number h) (F ++ B) a.closed_or_open) (closed_or_open e.number (λ o. true_false opened o));
        numbered = moved _ a.numbered known;
      }

-- One entry more: what the log had, it has, and the words of other transactions are as many.
module _ (F B : List Entry) (e : Entry) where
  pub found_more : (p : Entry → Bool) → some p (F ++ B) ≡ true → some p (F ++ (B ++ e ∷ [])) ≡ true
  found_more p h = rw (← append_assoc F B (e ∷ []), some_append p (F ++ B) (e ∷ []), h)

-- A commit's lists: the closing record behind the buffered entries of its disk, and all of these flushed.
module _ (F B : List Entry) (e : Entry) where
  abbrev pub committed_log : List Entry
  committed_log = F ++ (on e.disk B ++ e ∷ [])

  pub lists : (X : List Entry → List Entry → Type 0) → X (F ++ on e.disk (B ++ e ∷ [])) (left e.disk (B ++ e ∷ []))
      → X committed_log (left e.disk B)
  lists X h = rw (on_more e.disk B e refl, off_more e.disk B e refl) at h

  pub moved : (P : Entry → Type 0) → All P (F ++ B) → P e → All P (committed_log ++ left e.disk B)
  unfolding on
  moved P h p = lists (λ L M. All P (L ++ M)) (all_flush P (on_disk e.disk) F (B ++ e ∷ []) (all_more P F B e h p))

  pub closed : is_close e ≡ true → (t : ℕ) → closed_in (committed_log ++ left e.disk B) t ≡ (closed_in (F ++ B) t || eqb e.number t)
  unfolding on
  closed closes t =
      lists (λ L M. closed_in (L ++ M) t ≡ (closed_in (F ++ B) t || eqb e.number t))
      (closed_flush (on_disk e.disk) F (B ++ e ∷ []) t ∙ ap (λ (L : List Entry). closed_in L t) (sym (append_assoc F B (e ∷ [])))
      ∙ closed_append (F ++ B) (e ∷ []) t ∙ ap (λ (b : Bool). closed_in (F ++ B) t || b) (closes_one e closes t))

  pub bounds : (q p d : ℕ) → boundary q p (on d F ++ on d B) ≡ true
      → boundary q p (on d committed_log ++ on d (left e.disk B)) ≡ true
  bounds q p d h =
      lists (λ L M. boundary q p (on d L ++ on d M) ≡ true)
      (rw (on_flush e.disk F (B ++ e ∷ []) d) (boundary_logged q p d F B e h))

  pub found : (p : Entry → Bool) → some p (F ++ B) ≡ true → some p (committed_log ++ left e.disk B) ≡ true
  unfolding on
  found p h =
      lists (λ L M. some p (L ++ M) ≡ true) (simp (append_assoc, some_append, some_halves) (simp some_append at (found_more F B e p h)))

  pub words : (t : ℕ) → (t ≡ e.number → ⊥) → words_for t (committed_log ++ left e.disk B) ≡ words_for t (F ++ B)
  unfolding on
  words t ne =
      lists (λ L M. words_for t (L ++ M) ≡ words_for t (F ++ B))
      (words_for_flush t (on_disk e.disk) F (B ++ e ∷ []) ∙ words_for_other F B e t ne)

  -- the call put the closing record
  pub told : {b s m n : ℕ} {o : ℕ → Bool} (puts : List Put) (d : ℕ) → Since b s m n o (records_on d puts) (on d F ++ on d B)
      → Since b s m n o (records_on d (puts ++ record { disk = e.disk; content = record_of e } ∷ [])) (on d committed_log ++ on d (left e.disk B))
  told {b} {s} {m} {n} {o} puts d k =
      lists (λ L M. Since b s m n o (records_on d (puts ++ record { disk = e.disk; content = record_of e } ∷ [])) (on d L ++ on d M))
      (rw (on_flush e.disk F (B ++ e ∷ []) d) (told_more puts F B e (record { disk = e.disk; content = record_of e }) refl refl d k))
