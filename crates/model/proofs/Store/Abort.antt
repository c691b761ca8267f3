-- The abort keeps what holds of an open store; cut anywhere, it leaves devices that restart to what was committed.
use mathlib.Core.Path.{◌≡◌, refl, sym, ap, ◌∙◌}
use mathlib.Core.List.{List, ◌++◌, append_assoc}
use mathlib.Core.Bool.{Bool, true, false}
use Prim.Native.Nat.{ℕ, ◌+◌, ◌-◌, ◌≤◌, ◌<◌}
use native.Mathlib.Omega.{arith}
use native.Mathlib.Decide.{dec_lt}
use borrow.Author.Tests.{leb-false}
use Rattle.model.specs.declared.Core.{Core}
use Rattle.model.specs.Word.{◌⊕◌}
use Rattle.model.specs.Sizes.{ring_of}
use Rattle.model.specs.Scan.{Update, update_words}
use Rattle.model.specs.World.{World, perform, stores, run, finishes}
use Rattle.model.specs.State.{limit, kept_of, end_of, with_log, place_of, has_update, sound}
use Rattle.model.specs.Refusal.{accepted, verdict}
use Rattle.model.specs.Append.{Appended}
use Rattle.model.specs.Transaction.{disk_of}
use Rattle.model.specs.Abort.{updates_left, undo_all, abort_rows, abort_task}
use Rattle.model.specs.Call.{abort}
use Rattle.model.specs.Reference.{Reference, after_taken}
use Rattle.model.specs.History.{Told, also, put_by}
use Rattle.model.proofs.Xor.{⊕-self}
use Rattle.model.proofs.Updates.{update_words_none}
use Rattle.model.proofs.Run.{perform_append, stores_append, run_append, run_cut}
use Rattle.model.proofs.Places.{open_place}
use Rattle.model.proofs.Ledger.Entry.{Entry, sum}
use Rattle.model.proofs.Ledger.Sums.{all_map}
use Rattle.model.proofs.Ledger.Word.{of_txn}
use Rattle.model.proofs.Ledger.Good.{good_exempt}
use Rattle.model.proofs.Link.Abort.{sum_updates}
use Rattle.model.proofs.Store.View.{Kept, Serving, Served, run_at}
use Rattle.model.proofs.Store.Compensate.{Compensated}
use Rattle.model.proofs.Store.Undo.{compensations, none_undone, undone}
use Rattle.model.proofs.Store.Told.{updates_told}
use Rattle.model.proofs.Store.Left.{MayAbort, may_abort, none_left, none_logged, left_slotted, left_sum}
use Rattle.model.proofs.Store.CloseAbort.{closing, closed, closing_cut}
use Rattle.model.proofs.Store.Steady.{kept_lost}

-- an abort of transaction t may begin
pub abort_begins : {home : ℕ → ℕ} {puts : Told} {c : Core} {w : World} {r : Reference} {F B : List Entry} (t : ℕ) → Serving 0 home puts c w r F B
    → Serving t home puts c w r F B
abort_begins {F = F} {B = B} t g =
    record {
      stage = g.stage;
      safe =
          record {
            devices = g.safe.devices;
            good = good_exempt t g.safe.good;
            link = g.safe.link;
            ordered = g.safe.ordered;
            fit = g.safe.fit;
            ends = g.safe.ends;
            sizes = g.safe.sizes;
            shaped = g.safe.shaped;
          };
      accounts =
          record {
            tabled = g.accounts.tabled;
            homes = g.accounts.homes;
            own =
                λ u o.
                all_map (λ q h n. record { has = (h n).has; first = (h n).first; kind = λ z. (h n).kind (open_place _ u o).0 }) (F ++ B)
                (g.accounts.own u o);
            firsts = g.accounts.firsts;
            disks = g.accounts.disks;
            started = g.accounts.started;
            reserved = λ u o ne. g.accounts.reserved u o (open_place _ u o).0;
            closed_or_open = g.accounts.closed_or_open;
            numbered = g.accounts.numbered;
          };
      copies = g.copies;
      sets = g.sets;
      owners = g.owners;
      told = g.told;
      marks = g.marks;
    }

module _ {home : ℕ → ℕ} {puts : Told} {c : Core} {w : World} {r : Reference} {F B : List Entry} (g : Serving 0 home puts c w r F B) (t : ℕ)
    (may : MayAbort c w t) where
  abbrev d : ℕ
  d = disk_of c t

  abbrev us : List Update
  us = updates_left c w t

  abbrev undo : Appended
  undo = undo_all c.sizes c.logs w t d us

  abbrev told : Told
  told = also puts (compensations c w t us)

  -- the updates taken back: what their compensations add is what the transaction's entries add
  record Cancelled : Type 0 where
    more : ℕ → ℕ
    work : Compensated t home told c w r F B d (update_words us) more undo
    same : (i : ℕ) → more i ≡ of_txn i t (F ++ B)

  cancelled : Cancelled
  unfolding undo_all sum_updates sum
  cancelled = go (has_update c.table (place_of c.table t)) refl
    where
      go : (b : Bool) → has_update c.table (place_of c.table t) ≡ b → Cancelled
      go true has =
          record {
            more = λ i. sum_updates c.sizes i us;
            work =
                undone (abort_begins t g) may.opened has may.below may.small us (left_slotted g t may.opened may.below has)
                (omega (arith, may.room)) (omega (arith, may.in_limit));
            same = left_sum g t may.opened may.below has;
          }
      go false none =
          record {
            more = λ i. 0;
            work = rw (none_left g t may.opened may.below none, update_words_none) (none_undone (abort_begins t g) may.small d);
            same = λ i. sym (none_logged g t may.opened may.below none i);
          }

  work : Compensated t home told c w r F B d (update_words us) cancelled.more undo
  work = cancelled.work

  -- so together they cancel
  cancels : (i : ℕ) → of_txn i t (work.flushed ++ work.buffered) ≡ 0
  cancels i = work.sums i ∙ ap (λ (y : ℕ). of_txn i t (F ++ B) ⊕ y) (cancelled.same i) ∙ ⊕-self (of_txn i t (F ++ B))

  -- the store before the closing record
  abbrev c1 : Core
  c1 = with_log c undo.logs c.table

  room : end_of c1.logs d + 2 ≤ kept_of c1.logs d + ring_of c1.sizes d
  unfolding with_log
  room = omega (arith, work.ends, work.kept d, may.room)

  in_limit : end_of c1.logs d + 2 ≤ limit
  unfolding with_log
  in_limit = omega (arith, work.ends, may.in_limit)

  abort_served : Served (also puts (put_by (abort t 0) (run_at c w r) puts)) (abort_task c w t).core (perform (abort_task c w t).actions w) (after_taken (abort t 0) 0 r)
  unfolding abort_task with_log disk_of
  abort_served =
      rw (updates_told g t may.opened may.below, perform_append undo.actions _ w, ← append_assoc puts.puts (compensations c w t us) _)
      (closed work.serving may.opened may.below work.small room in_limit cancels)

  abort_kept : (budget : ℕ) → budget < stores (abort_task c w t).actions → Kept (also puts (compensations c w t us)) (run budget (abort_task c w t).actions w) r
  unfolding abort_task with_log disk_of
  abort_kept budget h = go (dec_lt budget (stores undo.actions))
    where
      last : Appended
      last = closing work.serving may.opened may.below work.small room in_limit cancels

      go : Dec (budget < stores undo.actions) → Kept (also puts (compensations c w t us)) (run budget (undo.actions ++ last.actions) w) r
      go (yes less) = rw (run_cut budget undo.actions last.actions w less) (work.cut budget less)
      go (no more) =
          rw (run_append budget undo.actions last.actions w (omega arith))
          (closing_cut work.serving may.opened may.below work.small room in_limit cancels (budget - stores undo.actions)
          (omega (arith, stores_append undo.actions last.actions)))

-- An accepted abort leaves a store that serves, without the transaction.
pub abort_serves : {puts : Told} {c : Core} {w : World} {r : Reference} → Served puts c w r → sound c ≡ true → (number budget n : ℕ)
    → verdict (abort_rows c w number) ≡ accepted
    → Served (also puts (put_by (abort number budget) (run_at c w r) puts)) (abort_task c w number).core (perform (abort_task c w number).actions w) (after_taken (abort number budget) n r)
abort_serves {c = c} {w = w} g s number budget n v = abort_served g.serving number (may_abort c w number s v)

-- Cut, it leaves devices that restart to what was committed.
pub abort_cut : {puts : Told} {c : Core} {w : World} {r : Reference} → Served puts c w r → sound c ≡ true → (number budget : ℕ)
    → verdict (abort_rows c w number) ≡ accepted → finishes budget (abort_task c w number).actions ≡ false
    → Kept (also puts (put_by (abort number budget) (run_at c w r) puts)) (run budget (abort_task c w number).actions w) r
unfolding finishes
abort_cut {puts} {c = c} {w = w} g s number budget v f =
    let may = may_abort c w number s v in
    rw (updates_told g.serving number may.opened may.below, ← append_assoc puts.puts (compensations c w number (updates_left c w number)) _)
    (kept_lost (abort_kept g.serving number may budget (leb-false _ _ f)) _)
