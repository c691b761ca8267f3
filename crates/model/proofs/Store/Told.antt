-- What an update and an abort append is what is told of them: the one from the plain table, the other from what was put before.
use mathlib.Core.Path.{◌≡◌, refl, sym, ap, ◌∙◌}
use mathlib.Core.List.{List, [], ◌∷◌, ◌++◌, map, append-nil}
use mathlib.Core.Bool.{Bool, true, false, cond, and-false}
use Prim.Native.Nat.{ℕ, ◌+◌, ◌<◌}
use lib.Dec.{leb, eqb}
use lib.ListN.{length}
use borrow.Author.Tests.{ne_eqb}
use Rattle.model.specs.declared.Core.{Core}
use Rattle.model.specs.Word.{xors}
use Rattle.model.specs.Sizes.{slots_in}
use Rattle.model.specs.Record.{Record, change, update_kind, encode_all}
use Rattle.model.specs.Scan.{Update, placed, updates_in}
use Rattle.model.specs.World.{World}
use Rattle.model.specs.Memory.{copy_of}
use Rattle.model.specs.State.{start_of, is_open, place_of, first_at, has_update}
use Rattle.model.specs.Transaction.{disk_of, update_record}
use Rattle.model.specs.Abort.{updates_left}
use Rattle.model.specs.Reference.{Reference}
use Rattle.model.specs.History.{Told, update_put, updates_put}
use Rattle.model.proofs.RoundTrip.{updates_append}
use Rattle.model.proofs.Ledger.Entry.{Entry, record_of, is_close, All, pick}
use Rattle.model.proofs.Growth.{kept_start}
use Rattle.model.proofs.Ledger.Order.{on, entries_scan}
use Rattle.model.proofs.Ledger.Sums.{all_map}
use Rattle.model.proofs.Link.Words.{placed_entries}
use Rattle.model.proofs.Store.View.{Serving, run_at}
use Rattle.model.proofs.Store.PlainTable.{slot_value}
use Rattle.model.proofs.Store.Left.{there, all_there, early, none_left, scanned}
use Rattle.model.proofs.Booleans.{true_false}

-- entries of others have none of a transaction's updates
pub updates_none : (t p : ℕ) (l : List Entry) → All (λ e. eqb e.number t ≡ false) l → updates_in t (placed p (map record_of l)) ≡ []
unfolding updates_in placed record_of
updates_none t p [] h = refl
updates_none t p (e ∷ l) h = go (is_close e) refl (λ q. updates_none t q l h.1)
  where
    go : (b : Bool) → is_close e ≡ b → ((q : ℕ) → updates_in t (placed q (map record_of l)) ≡ []) → updates_in t (placed p (map record_of (e ∷ l))) ≡ []
    go true c ih = rw c (ih _)
    go false c ih = rw (c, h.0, and-false (eqb e.kind 0), ih)

-- so they do not matter to the updates of a transaction
updates_picked : (t : ℕ) (p : Entry → Bool) (l : List Entry) → All (λ e. p e ≡ false → eqb e.number t ≡ false) l
    → updates_in t (entries_scan (pick p l)) ≡ updates_in t (entries_scan l)
unfolding updates_in entries_scan record_of pick
updates_picked t p [] h = refl
updates_picked t p (e ∷ l) h = go (p e) refl (is_close e) refl (updates_picked t p l h.1)
  where
    go : (b : Bool) → p e ≡ b → (c : Bool) → is_close e ≡ c → updates_in t (entries_scan (pick p l)) ≡ updates_in t (entries_scan l)
        → updates_in t (entries_scan (cond b (e ∷ pick p l) (pick p l))) ≡ updates_in t (entries_scan (e ∷ l))
    go true x true c ih = rw c ih
    go true x false c ih = rw (c, ih)
    go false x true c ih = rw c ih
    go false x false c ih = rw (c, h.0 x, and-false (eqb e.kind 0)) (ih ∙ sym (append-nil (updates_in t (entries_scan l))))

module _ {home : ℕ → ℕ} {puts : Told} {c : Core} {w : World} {r : Reference} {F B : List Entry} (g : Serving 0 home puts c w r F B) where
  pub update_told : (number page slot : ℕ) (value : List ℕ) → page < c.sizes.pages → slot < slots_in c.sizes page
      → update_put (run_at c w r) number page slot value ≡ update_record c w number page slot value
  unfolding update_record update_put
  update_told number page slot value p q =
      ap (λ (before : List ℕ). change update_kind page slot number (copy_of c.sizes w.work page) (xors before value))
      (sym (slot_value g page slot p q))

  -- The updates put on a disk under the number of an open transaction are those among the disk's entries.
  pub updates_among : (t : ℕ) → is_open c.table t ≡ true → (d : ℕ) → d < c.sizes.disks
      → updates_put puts d t ≡ updates_in t (placed (start_of c.logs d) (map record_of (on d F ++ on d B)))
  unfolding updates_put
  updates_among t opened d below =
      let k = g.told d below in
      let entries : List Entry = on d F ++ on d B in
      let start : ℕ = puts.base d + length (encode_all k.old) in
      ap (λ (l : List Record). updates_in t (placed (puts.base d) l)) k.all
      ∙ updates_append t (puts.base d) k.old (map record_of entries)
      ∙ ap (λ (l : List Update). updates_in t (placed start (map record_of entries)) ++ l) (k.past t (λ l. opened))
      ∙ append-nil (updates_in t (placed start (map record_of entries)))
      ∙ ap (λ (q : ℕ). updates_in t (placed q (map record_of entries))) (sym k.from ∙ kept_start c.logs d)

  -- On its own disk they are what an abort finds.
  module _ (t : ℕ) (opened : is_open c.table t ≡ true) (below : disk_of c t < c.sizes.disks) where
    abbrev d : ℕ
    d = disk_of c t

    abbrev entries : List Entry
    entries = there g t opened below

    pub updates_told : updates_put puts d t ≡ updates_left c w t
    unfolding updates_left
    updates_told = updates_among t opened d below ∙ go (has_update c.table (place_of c.table t)) refl
      where
        go : (b : Bool) → has_update c.table (place_of c.table t) ≡ b
            → updates_in t (placed (start_of c.logs d) (map record_of entries)) ≡ updates_left c w t
        go true has =
            ap (updates_in t) (placed_entries (start_of c.logs d) entries (rw (kept_start c.logs d) at (g.safe.ordered.laid d below)))
            ∙ sym (updates_picked t (λ q. leb (first_at c.table (place_of c.table t)) q.position) entries (all_there g t opened below _ (early g t opened below)))
            ∙ sym (ap (updates_in t) (scanned g t opened below has))
        go false none =
            updates_none t (start_of c.logs d) entries
            (all_there g t opened below _ (all_map (λ e h. ne_eqb e.number t (λ same. true_false (h same).has none)) (F ++ B) (g.accounts.own t opened)))
            ∙ sym (none_left g t opened below none)
