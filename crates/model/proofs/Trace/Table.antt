-- The code's reads and updates against the plain table of slots.
use mathlib.Core.Path.{◌≡◌, refl, sym, ap, ◌∙◌}
use mathlib.Core.List.{Memᴰ}
use mathlib.Core.Bool.{Bool, true, false, ◌||◌}
use Prim.Native.Nat.{ℕ}
use native.Mathlib.Omega.{arith}
use borrow.Author.Tests.{leb-false}
use Rattle.model.specs.declared.Core.{Core}
use Rattle.model.specs.World.{World}
use Rattle.model.specs.Refusal.{row, rejected, Result, number_of}
use Rattle.model.specs.Causes.{slot_missing, locked}
use Rattle.model.specs.Transaction.{update_rows, read_rows, read_words}
use Rattle.model.specs.Call.{Call, update, look, read, rows_of, result_of}
use Rattle.model.specs.View.{core_of}
use Rattle.model.specs.Reference.{outcome_of, Reference, written_by_other}
use Rattle.model.specs.Machine.{Machine, result, outcome, is_refused}
use Rattle.model.specs.Promise.{PlainTable, Table}
use Rattle.model.specs.Trace.{MachineInCode, view_of, Observed, On, Guarded, TableInCode}
use Rattle.model.proofs.Booleans.{true_false, or_none}
use Rattle.model.proofs.Verdict.{accepted_none, least_applies}
use Rattle.model.proofs.Store.Cases.{call_cases}
use Rattle.model.proofs.Store.Checks.{finds, number_row}
use Rattle.model.proofs.PowerLoss.{table}
use Rattle.model.proofs.Trace.Events.{as_got}
use Rattle.model.proofs.Trace.Promises.{carries_over, gave_outcome, gave_number}

-- A call that checks that its slot is there, and then that no other transaction has locked it.
module _ (k : Call) (c : Core) (w : World) (number page slot : ℕ)
    (eight : Memᴰ (row 8 (slot_missing c.sizes page slot)) (rows_of k c w))
    (eleven : Memᴰ (row 11 (locked c w number page slot)) (rows_of k c w))
    (only : finds 11 (rows_of k c w) ≡ locked c w number page slot) where
  -- 11 is answered of a slot that is there and locked
  answered_locked : number_of (result_of k c w).answer ≡ 11 → (slot_missing c.sizes page slot ≡ false) × (locked c w number page slot ≡ true)
  answered_locked e = (there e, sym only ∙ number_row k c w 11 (omega arith) (omega arith) e)
    where
      there : number_of (result_of k c w).answer ≡ 11 → slot_missing c.sizes page slot ≡ false
      there =
          call_cases (λ (r : Result). number_of r.answer ≡ 11 → slot_missing c.sizes page slot ≡ false) k c w
          (λ n first second v e.
          (least_applies k c w 11 first second (v ∙ ap (λ (x : ℕ). rejected x first second) e)).smaller _ eight (omega arith))
          (λ v f e. absurd (omega arith)) (λ v f e. absurd (omega arith))

  -- a call that is not refused is of a slot that is there and not locked
  passed_unlocked : is_refused (outcome_of (result_of k c w).answer) ≡ false
      → (slot_missing c.sizes page slot ≡ false) × (locked c w number page slot ≡ false)
  passed_unlocked =
      call_cases (λ (r : Result). is_refused (outcome_of r.answer) ≡ false
      → (slot_missing c.sizes page slot ≡ false) × (locked c w number page slot ≡ false)) k c w
      (λ n first second v e. true_false refl e)
      (λ v f e. (accepted_none (rows_of k c w) v _ eight, accepted_none (rows_of k c w) v _ eleven))
      (λ v f e. (accepted_none (rows_of k c w) v _ eight, accepted_none (rows_of k c w) v _ eleven))

module _ (n : MachineInCode) (r : Reference) (t : PlainTable (view_of n) r) (number page slot : ℕ) where
  abbrev m : Machine
  m = view_of n

  -- where a slot is there, locked means written by another
  lock_written : (b : Bool) → slot_missing m.core.sizes page slot ≡ false → locked m.core m.world number page slot ≡ b
      → written_by_other number page slot r.write_sets ≡ b
  unfolding slot_missing
  lock_written b there e =
      let both = or_none _ _ there in
      sym (t.locks number page slot (leb-false _ _ both.0) (leb-false _ _ both.1)) ∙ e

  guards : (k : Call) (eight : Memᴰ (row 8 (slot_missing m.core.sizes page slot)) (rows_of k m.core m.world))
      (eleven : Memᴰ (row 11 (locked m.core m.world number page slot)) (rows_of k m.core m.world))
      (only : finds 11 (rows_of k m.core m.world) ≡ locked m.core m.world number page slot)
      → (o : Observed) → o.call ≡ k → On n o → Guarded r o number page slot
  unfolding outcome result
  guards k eight eleven only o is on =
      record {
        eleven = λ e.
            let x = answered_locked k m.core m.world number page slot eight eleven only (sym (gave_number n o k is on) ∙ e) in
            lock_written true x.0 x.1;
        free = λ e.
            let x = passed_unlocked k m.core m.world number page slot eight eleven only (sym (ap is_refused (gave_outcome n o k is on)) ∙ e) in
            lock_written false x.0 x.1;
      }

-- The page memory is a plain table of slots, and the code's reads and updates are answered as its.
pub table_in_code : TableInCode
unfolding TableInCode Table read_rows update_rows finds view_of core_of
table_in_code =
    carries_over _ _ table (λ m r h serves.
    let t = h serves in
    record {
      table = t;
      reads = λ o reader page slot words is on took e.
          e ∙ ap (λ (x : MachineInCode). read_words (view_of x).core (view_of x).world reader page slot) (as_got m o on)
          ∙ t.reads reader page slot (sym (gave_outcome m o (look (read reader page slot)) is on) ∙ took);
      read_locks = λ o reader page slot is on.
          guards m r t reader page slot (look (read reader page slot)) (Memᴰ.tail (Memᴰ.tail (Memᴰ.tail (Memᴰ.head refl))))
          (Memᴰ.tail (Memᴰ.tail (Memᴰ.tail (Memᴰ.tail (Memᴰ.tail (Memᴰ.head refl))))))
          (only_one (locked (view_of m).core (view_of m).world reader page slot)) o is on;
      update_locks = λ o number page slot value budget is on.
          guards m r t number page slot (update number page slot value budget)
          (Memᴰ.tail (Memᴰ.tail (Memᴰ.tail (Memᴰ.head refl))))
          (Memᴰ.tail (Memᴰ.tail (Memᴰ.tail (Memᴰ.tail (Memᴰ.tail (Memᴰ.tail (Memᴰ.head refl)))))))
          (only_one (locked (view_of m).core (view_of m).world number page slot)) o is on;
    })
  where
    only_one : (b : Bool) → (b || false) ≡ b
    only_one true = refl
    only_one false = refl
