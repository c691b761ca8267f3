-- An abort finds no fault in a store that serves: the log that it reads is well formed, and its updates have the words reserved for them.
use Rattle.std.specs.Prelude.{None, Option}
use mathlib.Core.Path.{◌≡◌, refl, sym, ap, ◌∙◌}
use mathlib.Core.List.{List, [], ◌∷◌, ◌++◌, append-nil}
use mathlib.Core.Bool.{Bool, true, false, cond, ◌&&◌, and-false}
use Prim.Native.Nat.{ℕ, ◌+◌, ◌-◌, ◌≤◌}
use native.Mathlib.Omega.{arith}
use native.Mathlib.Nat.{zero-add}
use lib.Dec.{eqb}
use borrow.Author.Tests.{le-ltb, eqb-true, eq-eqb}
use Rattle.model.specs.declared.Core.{Core}
use Rattle.model.specs.declared.BadRecord.{BadRecord}
use Rattle.model.specs.Record.{encode}
use Rattle.model.specs.Scan.{Scan, Update, fault_in, updates_in, update_words}
use Rattle.model.specs.World.{World}
use Rattle.model.specs.State.{place_of, is_open, reserved_at, has_update}
use Rattle.model.specs.Transaction.{disk_of}
use Rattle.model.specs.Abort.{abort_scan, updates_left, abort_fault}
use Rattle.model.specs.Reference.{Reference}
use Rattle.model.specs.History.{Told}
use Rattle.model.proofs.Places.{open_place}
use Rattle.model.proofs.Updates.{update_words_none, update_words_first, update_words_append}
use Rattle.model.proofs.Ledger.Entry.{Entry, record_of, is_close, All}
use Rattle.model.proofs.Ledger.Order.{size_of, on, entries_scan}
use Rattle.model.proofs.Ledger.Sums.{all_map}
use Rattle.model.proofs.Ledger.Lists.{on_append}
use Rattle.model.proofs.Store.View.{words_for, Serving, Served}
use Rattle.model.proofs.Store.Left.{from, all_there, all_from, early, away, scanned}
use Rattle.model.proofs.Booleans.{true_false}
use Rattle.model.proofs.Store.WordsFor.{words_for_picked}

-- the updates of a transaction have the words of its entries, if all of these are updates
pub update_words_lem : (t : ℕ) (l : List Entry) → All (λ q. q.number ≡ t → q.kind ≡ 0) l → update_words (updates_in t (entries_scan l)) ≡ words_for t l
unfolding updates_in entries_scan words_for record_of is_close size_of encode
update_words_lem t [] h = update_words_none
update_words_lem t (q ∷ l) h = go (is_close q) refl (eqb q.number t) refl (update_words_lem t l h.1)
  where
    go : (b : Bool) → is_close q ≡ b → (k : Bool) → eqb q.number t ≡ k → update_words (updates_in t (entries_scan l)) ≡ words_for t l
        → update_words (updates_in t (entries_scan (q ∷ l))) ≡ cond k (size_of q) 0 + words_for t l
    go true e true x ih = true_false e (rw (h.0 (eqb-true q.number t x)))
    go true e false x ih = rw e (ih ∙ sym (zero-add (words_for t l)))
    go false e true x ih =
        rw (e, eq-eqb q.kind 0 (h.0 (eqb-true q.number t x)), x)
        (let u : Update = record { position = q.position; page = q.page; slot = q.slot; diff = q.diff } in
        omega (arith, update_words_append (updates_in t (entries_scan l)) (u ∷ []), update_words_first u [], update_words_none))
    go false e false x ih = rw (e, x, and-false, append-nil) (ih ∙ sym (zero-add (words_for t l)))

-- no entry is malformed
fault_entries : (disk : ℕ) (l : List Entry) (rest : Option BadRecord) → fault_in disk (entries_scan l) rest ≡ rest
unfolding fault_in entries_scan
fault_entries disk [] rest = refl
fault_entries disk (q ∷ l) rest = fault_entries disk l rest

-- a scan without a fault, and updates of no more words than are reserved for them
none_bad : (c : Core) (w : World) (t : ℕ) → ((rest : Option BadRecord) → fault_in (disk_of c t) (abort_scan c w t) rest ≡ rest)
    → update_words (updates_left c w t) ≤ reserved_at c.table (place_of c.table t) - 2 → abort_fault c w t ≡ None
unfolding abort_fault
none_bad c w t clean fits = clean _ ∙ rw (le-ltb _ _ fits)

-- a transaction that is not open, or has no update: nothing is read
pub nothing_bad : (c : Core) (w : World) (t : ℕ) → is_open c.table t && has_update c.table (place_of c.table t) ≡ false → abort_fault c w t ≡ None
unfolding abort_scan updates_left updates_in fault_in
nothing_bad c w t none = none_bad c w t (λ rest. rw none) (rw (none, update_words_none) (omega arith))

module _ {home : ℕ → ℕ} {puts : Told} {c : Core} {w : World} {r : Reference} {F B : List Entry} (g : Serving 0 home puts c w r F B)
    (t : ℕ) (opened : is_open c.table t ≡ true) (has : has_update c.table (place_of c.table t) ≡ true) where
  -- its updates have as many words as its entries
  pub words_left : update_words (updates_left c w t) ≡ words_for t (F ++ B)
  unfolding updates_left on
  words_left =
      let below = g.accounts.disks t opened in
      ap (λ (x : Scan). update_words (updates_in t x)) (scanned g t opened below has)
      ∙ update_words_lem t (from g t opened below)
      (all_from g t opened below _ (all_map (λ q h e. (h e).kind (open_place c.table t opened).0) (F ++ B) (g.accounts.own t opened)))
      ∙ words_for_picked t _ _ (all_there g t opened below _ (early g t opened below))
      ∙ ap (words_for t) (sym (on_append (disk_of c t) F B))
      ∙ words_for_picked t _ (F ++ B) (away g t opened below)

  updates_fine : abort_fault c w t ≡ None
  updates_fine =
      none_bad c w t
      (λ rest. rw (scanned g t opened (g.accounts.disks t opened) has) (fault_entries (disk_of c t) _ rest))
      (omega (arith, words_left, g.accounts.reserved t opened (open_place c.table t opened).0))

-- Whatever transaction is asked for, an abort of a store that serves finds no fault.
pub abort_never_bad : {puts : Told} {c : Core} {w : World} {r : Reference} → Served puts c w r → (number : ℕ) → abort_fault c w number ≡ None
abort_never_bad {c = c} {w = w} g number = go (is_open c.table number) refl (has_update c.table (place_of c.table number)) refl
  where
    go : (o : Bool) → is_open c.table number ≡ o → (h : Bool) → has_update c.table (place_of c.table number) ≡ h → abort_fault c w number ≡ None
    go true opened true has = updates_fine g.serving number opened has
    go true opened false none = nothing_bad c w number (rw (opened, none))
    go false shut h x = nothing_bad c w number (rw shut)
