-- All updates of a transaction taken back, one after the other.
use mathlib.Core.Path.{◌≡◌, refl, sym, ap, fun_ext, ◌∙◌}
use mathlib.Core.List.{List, [], ◌∷◌, ◌++◌, map, append_assoc, append-nil}
use mathlib.Core.Bool.{true}
use Prim.Native.Nat.{ℕ, ◌+◌, ◌-◌, ◌≤◌, ◌<◌}
use native.Mathlib.Omega.{arith}
use native.Mathlib.Decide.{dec_lt}
use Rattle.model.specs.declared.Core.{Core}
use Rattle.model.specs.Word.{◌⊕◌}
use Rattle.model.specs.Sizes.{ring_of}
use Rattle.model.specs.Scan.{Update, update_words}
use Rattle.model.specs.World.{World, perform, stores, run}
use Rattle.model.specs.State.{limit, kept_of, end_of, with_log, is_open, place_of, has_update}
use Rattle.model.specs.Append.{Appended}
use Rattle.model.specs.Transaction.{disk_of}
use Rattle.model.specs.Abort.{undo_all}
use Rattle.model.specs.Reference.{Reference}
use Rattle.model.specs.History.{Put, compensation, Told, also}
use Rattle.model.proofs.Xor.{⊕-assoc, ⊕-zero-r}
use Rattle.model.proofs.Updates.{update_words_none, update_words_first}
use Rattle.model.proofs.Run.{perform_append, stores_append, run_append, run_cut}
use Rattle.model.proofs.Ledger.Entry.{Entry, All, sum}
use Rattle.model.proofs.Ledger.Word.{of_txn}
use Rattle.model.proofs.Link.Abort.{sum_updates}
use Rattle.model.proofs.Store.View.{Kept, Serving}
use Rattle.model.proofs.Store.Compensate.{Compensated, compensated}
use Rattle.model.proofs.Growth.{Small}
use Rattle.model.proofs.Store.Steady.{kept_lost}
use Rattle.model.proofs.Store.Compensation.{Slotted}

-- the records of the compensations of some updates
abbrev pub compensations : Core → World → ℕ → List Update → List Put
compensations c w t us = map (λ u. record { disk = disk_of c t; content = compensation c w t u }) us

module _ {t : ℕ} {home : ℕ → ℕ} {c : Core} {w : World} {r : Reference} {F B : List Entry} where
  -- nothing to take back
  pub none_undone : {puts : Told} → Serving t home puts c w r F B → Small c.sizes c.logs → (d : ℕ)
      → Compensated t home (also puts []) c w r F B d 0 (λ i. 0) (record { actions = []; logs = c.logs })
  unfolding with_log perform stores
  none_undone {puts} g small d =
      record {
        flushed = F;
        buffered = B;
        serving = rw (append-nil puts.puts) g;
        sums = λ i. sym (⊕-zero-r (of_txn i t (F ++ B)));
        kept = λ e. refl;
        ends = omega arith;
        small = small;
        copies = λ page. refl;
        cut = λ k h. absurd (omega arith);
      }

  -- one compensation and then others
  pub then_undone : {puts : Told} (more : List Put) {d m n : ℕ} {f h : ℕ → ℕ} {one rest : Appended} (a : Compensated t home puts c w r F B d m f one)
      → Compensated t home (also puts more) (with_log c one.logs c.table) (perform one.actions w) r a.flushed a.buffered d n h rest
      → Compensated t home (also puts more) c w r F B d (m + n) (λ i. f i ⊕ h i) (record { actions = one.actions ++ rest.actions; logs = rest.logs })
  unfolding with_log
  then_undone {puts} more {d} {m} {n} {f} {h} {one} {rest} a b =
      record {
        flushed = b.flushed;
        buffered = b.buffered;
        serving = rw (perform_append one.actions rest.actions w) b.serving;
        sums = λ i. b.sums i ∙ ap (λ (y : ℕ). y ⊕ h i) (a.sums i) ∙ ⊕-assoc (of_txn i t (F ++ B)) (f i) (h i);
        kept = λ e. b.kept e ∙ a.kept e;
        ends = omega (arith, a.ends, b.ends);
        small = b.small;
        copies = λ page. rw (perform_append one.actions rest.actions w) (b.copies page ∙ a.copies page);
        cut = λ k l. cut k l (dec_lt k (stores one.actions));
      }
    where
      cut : (k : ℕ) → k < stores (one.actions ++ rest.actions) → Dec (k < stores one.actions) → Kept (also puts more) (run k (one.actions ++ rest.actions) w) r
      cut k l (yes less) = rw (run_cut k one.actions rest.actions w less) (kept_lost (a.cut k less) more)
      cut k l (no longer) =
          rw (run_append k one.actions rest.actions w (omega arith))
          (b.cut (k - stores one.actions) (omega (arith, stores_append one.actions rest.actions)))

  -- compensations leave copy numbers as they are, so they do not change the records of the next ones
  same_compensations : {after : Told} {d n : ℕ} {f : ℕ → ℕ} {one : Appended} → Compensated t home after c w r F B d n f one → (us : List Update)
      → compensations (with_log c one.logs c.table) (perform one.actions w) t us ≡ compensations c w t us
  unfolding compensation with_log disk_of
  same_compensations a us = ap (λ (f : Update → Put). map f us) (fun_ext (λ u. rw (a.copies u.page)))

  -- the first of some updates and then the others
  first_undone : {d k m n : ℕ} {f h : ℕ → ℕ} {one rest : Appended} (puts : Told) (u : Update) (us : List Update)
      (a : Compensated t home (also puts (compensations c w t (u ∷ []))) c w r F B d m f one)
      → Compensated t home (also (also puts (compensations c w t (u ∷ []))) (compensations (with_log c one.logs c.table) (perform one.actions w) t us))
      (with_log c one.logs c.table) (perform one.actions w) r a.flushed a.buffered d n h rest → k ≡ m + n
      → Compensated t home (also puts (compensations c w t (u ∷ us))) c w r F B d k (λ i. f i ⊕ h i)
      (record { actions = one.actions ++ rest.actions; logs = rest.logs })
  first_undone {one = one} puts u us a b sum =
      rw (sum, ← append_assoc puts.puts (compensations c w t (u ∷ [])) (compensations c w t us), ← same_compensations a us)
      (then_undone (compensations (with_log c one.logs c.table) (perform one.actions w) t us) a b)

-- all of them, with room for their records
pub undone : {t : ℕ} {home : ℕ → ℕ} {puts : Told} {c : Core} {w : World} {r : Reference} {F B : List Entry} → Serving t home puts c w r F B
    → is_open c.table t ≡ true → has_update c.table (place_of c.table t) ≡ true → disk_of c t < c.sizes.disks
    → Small c.sizes c.logs → (us : List Update) → All (Slotted c.sizes) us
    → end_of c.logs (disk_of c t) + update_words us ≤ kept_of c.logs (disk_of c t) + ring_of c.sizes (disk_of c t)
    → end_of c.logs (disk_of c t) + update_words us ≤ limit
    → Compensated t home (also puts (compensations c w t us)) c w r F B (disk_of c t) (update_words us) (λ i. sum_updates c.sizes i us)
    (undo_all c.sizes c.logs w t (disk_of c t) us)
unfolding undo_all sum_updates sum with_log disk_of
undone {t} {puts = puts} {c = c} g opened has below small [] slotted room short = rw update_words_none (none_undone g small (disk_of c t))
undone {t} {puts = puts} {c = c} {w = w} g opened has below small (u ∷ us) slotted room short =
    let first = update_words_first u us in
    let one =
    compensated g u
    (record {
      opened = opened;
      has = has;
      below = below;
      small = small;
      slotted = slotted.0;
      room = omega arith;
      in_limit = omega arith;
    }) in
    first_undone puts u us one
    (undone {puts = also puts (compensations c w t (u ∷ []))} one.serving opened has below one.small us slotted.1 (omega (arith, one.kept (disk_of c t), one.ends))
    (omega (arith, one.ends))) first
