-- What an answer tells: its number, the stores made, and the column "Returned" of 01's table.
use Rattle.std.specs.Prelude.{None, Some, Option}
use mathlib.Core.Path.{◌≡◌, refl, sym}
use mathlib.Core.List.{List, [], ◌∷◌, ◌++◌}
use mathlib.Core.Bool.{Bool, true, false, not, ◌&&◌, ◌||◌, or-true}
use Prim.Native.Nat.{ℕ, ◌≤◌}
use native.Mathlib.Omega.{arith}
use lib.Dec.{eqb}
use borrow.Author.Tests.{eqb-true, ne_eqb, not-true}
use Rattle.model.specs.declared.Core.{Core}
use Rattle.model.specs.declared.Answer.TheVariants.{Refused}
use Rattle.model.specs.declared.BadRecord.{BadRecord}
use Rattle.model.specs.Record.{bad_record}
use Rattle.model.specs.Below.{within}
use Rattle.model.specs.declared.Sizes.{Sizes}
use Rattle.model.specs.Sizes.{total}
use Rattle.model.specs.Anchor.{sizes_on, start_on}
use Rattle.model.specs.World.{World}
use Rattle.model.specs.Refusal.{Row, row, Result}
use Rattle.model.specs.Causes.{lengths_wrong, wrong_tail, tail_row, fault_row}
use Rattle.model.specs.Format.{format_rows}
use Rattle.model.specs.Transaction.{begin_rows, update_rows, read_rows, commit_rows}
use Rattle.model.specs.Abort.{abort_rows}
use Rattle.model.specs.Checkpoint.{checkpoint_begin_rows, checkpoint_step_rows, checkpoint_end_rows}
use Rattle.model.specs.Restart.{image_rows, restart_begin_rows, restart_step_rows, restart_end_rows}
use Rattle.model.specs.Listing.{list_rows, lent_wrong, not_a_line, not_lines}
use Rattle.model.specs.Classes.{class_count, line_count, wrong_line, uncovered_class, twice_covered}
use Rattle.model.specs.SetClasses.{least_row, set_classes_rows}
use Rattle.model.specs.Call.{Call, format, begin, update, look, read, list_line, list_lines, commit, abort, set_classes, checkpoint_begin, checkpoint_step, checkpoint_end, restart_begin, restart_step, restart_run, restart_end, new_state, rows_of, task_of, budget_of}
use Rattle.model.specs.Reference.{taken, refused, interrupted}
use Rattle.model.specs.Answers.{outcome_numbered, image_fault, fault_of, ReturnsClasses, Returns, Returned, RowNumbers}
use Rattle.model.proofs.Booleans.{true_false, both, all_four, in_range}
use Rattle.model.proofs.Members.{Every, every_nil, every_cons, every_append}
use Rattle.model.proofs.Run.{finished_made, interrupted_made}
use Rattle.model.proofs.Verdict.{least_applies}
use Rattle.model.proofs.Store.Cases.{call_cases}

-- What a row of a call's returns: its number is 1 to 15 or 17 to 19, and its values are those of the column.
record RowReturns (k : Call) (c : Core) (w : World) (r : Row) : Type 0 where
  number : (within 1 15 r.number || within 17 19 r.number) ≡ true
  zeros : within 6 7 r.number ≡ false → within 17 19 r.number ≡ false → (r.first ≡ 0) × (r.second ≡ 0)
  tail : r.number ≡ 6 → (r.first ≡ wrong_tail (sizes_on w.anchor) (start_on w.anchor) w.logs) × (r.second ≡ 0)
  fault : r.number ≡ 7 → r.applies ≡ true → fault_of k c w ≡ bad_record r.first r.second
  classes : within 17 19 r.number ≡ true → ReturnsClasses k c (Refused r.number r.first r.second)

-- a number up to 15 is none of a table of classes
no_classes_lem : {X : Type 0} (n : ℕ) → within 1 15 n ≡ true → within 17 19 n ≡ true → X
no_classes_lem n low high = absurd (omega (arith, in_range 1 15 n low, in_range 17 19 n high))

-- a row that returns zeros
unfoldable plain : Row → Bool
plain r = within 1 15 r.number && not (within 6 7 r.number) && eqb r.first 0 && eqb r.second 0

unfoldable all_plain : List Row → Bool
all_plain [] = true
all_plain (r ∷ rows) = plain r && all_plain rows

module _ (k : Call) (c : Core) (w : World) where
  plain_returns : (r : Row) → plain r ≡ true → RowReturns k c w r
  unfolding plain within
  plain_returns r e =
      let t = all_four (within 1 15 r.number) (not (within 6 7 r.number)) (eqb r.first 0) (eqb r.second 0) e in
      let other : within 6 7 r.number ≡ false = not-true (within 6 7 r.number) t.1 in
      record {
        number = rw t.0 refl;
        zeros = λ o p. (eqb-true r.first 0 t.2, eqb-true r.second 0 t.3);
        tail = λ six. true_false (rw six) other;
        fault = λ seven applies. true_false (rw seven) other;
        classes = λ e. no_classes_lem r.number t.0 e;
      }

  plain_rows : (rows : List Row) → all_plain rows ≡ true → Every (RowReturns k c w) rows
  unfolding all_plain
  plain_rows [] e = every_nil (RowReturns k c w)
  plain_rows (r ∷ rows) e =
      let t = both (plain r) (all_plain rows) e in
      every_cons (RowReturns k c w) r rows (plain_returns r t.0) (plain_rows rows t.1)

  tail_returns : RowReturns k c w (tail_row (sizes_on w.anchor) (start_on w.anchor) w.logs)
  unfolding within
  tail_returns =
      record {
        number = refl;
        zeros = λ other p. true_false refl other;
        tail = λ six. (refl, refl);
        fault = λ seven applies. absurd (omega arith);
        classes = λ e. no_classes_lem 6 refl e;
      }

  fault_returns : (f : Option BadRecord) → fault_of k c w ≡ f → RowReturns k c w (fault_row f)
  unfolding within
  fault_returns None e =
      record {
        number = refl;
        zeros = λ other p. (refl, refl);
        tail = λ six. absurd (omega arith);
        fault = λ seven applies. true_false applies refl;
        classes = λ e. no_classes_lem 7 refl e;
      }
  fault_returns (Some bad) e =
      record {
        number = refl;
        zeros = λ other p. true_false refl other;
        tail = λ six. absurd (omega arith);
        fault = λ seven applies. e;
        classes = λ e. no_classes_lem 7 refl e;
      }

  -- the call's rows, where one of them is row 7
  with_fault : (before after : List Row) (f : Option BadRecord) → fault_of k c w ≡ f → Every (RowReturns k c w) before → all_plain after ≡ true
      → Every (RowReturns k c w) (before ++ fault_row f ∷ after)
  with_fault before after f e b a =
      every_append (RowReturns k c w) before (fault_row f ∷ after) b
      (every_cons (RowReturns k c w) (fault_row f) after (fault_returns f e) (plain_rows after a))

  -- the rows of an image, between two others
  with_image : (before after : Row) (others : Sizes → Bool) → fault_of k c w ≡ image_fault w → plain before ≡ true → plain after ≡ true
      → Every (RowReturns k c w) (before ∷ image_rows others w.anchor w.logs ++ after ∷ [])
  unfolding within plain all_plain image_rows
  with_image before after others e b a =
      let P : Row → Type 0 = RowReturns k c w in
      let tail : Row = tail_row (sizes_on w.anchor) (start_on w.anchor) w.logs in
      with_fault (before ∷ row 2 _ ∷ row 3 _ ∷ row 4 _ ∷ row 5 _ ∷ tail ∷ []) (after ∷ []) (image_fault w) e
      (every_append P (before ∷ row 2 _ ∷ row 3 _ ∷ row 4 _ ∷ row 5 _ ∷ []) (tail ∷ []) (plain_rows (before ∷ row 2 _ ∷ row 3 _ ∷ row 4 _ ∷ row 5 _ ∷ []) (rw b refl))
      (every_cons P tail [] (tail_returns) (every_nil P)))
      (rw a refl)

-- the three rows of a table's lines
classes_return : (c : Core) (w : World) (lines : List ℕ) → Every (RowReturns (set_classes lines) c w) (set_classes_rows c w lines)
unfolding within plain set_classes_rows
classes_return c w lines =
    every_cons P _ _ (plain_returns k c w (row 1 _) refl)
    (every_cons P _ _ (plain_returns k c w (row 5 _) refl)
    (every_cons P _ _
    (of_lines 17 (wrong_line c.sizes.disks lines) (line_count lines) refl (λ e. refl) (λ e. absurd (omega arith)) (λ e. absurd (omega arith)))
    (every_cons P _ _
    (of_lines 18 (uncovered_class lines) class_count refl (λ e. absurd (omega arith)) (λ e. refl) (λ e. absurd (omega arith)))
    (every_cons P _ _
    (of_lines 19 (twice_covered lines) class_count refl (λ e. absurd (omega arith)) (λ e. absurd (omega arith)) (λ e. refl)) (every_nil P)))))
  where
    k : Call
    k = set_classes lines

    P : Row → Type 0
    P = RowReturns (set_classes lines) c w

    of_lines : (n found bound : ℕ) → within 17 19 n ≡ true → (n ≡ 17 → found ≡ wrong_line c.sizes.disks lines)
        → (n ≡ 18 → found ≡ uncovered_class lines) → (n ≡ 19 → found ≡ twice_covered lines) → P (least_row n found bound)
    of_lines n found bound range line uncovered twice =
        let b = in_range 17 19 n range in
        record {
          number = rw range (or-true (within 1 15 n));
          zeros = λ o p. true_false range p;
          tail = λ six. absurd (omega arith);
          fault = λ seven applies. absurd (omega arith);
          classes = λ e. record { lines = lines; call = refl; line = line; uncovered = uncovered; twice = twice; second = refl };
        }

rows_return : (k : Call) (c : Core) (w : World) → Every (RowReturns k c w) (rows_of k c w)
unfolding within plain all_plain format_rows begin_rows update_rows read_rows commit_rows abort_rows set_classes_rows checkpoint_begin_rows checkpoint_step_rows checkpoint_end_rows list_rows restart_begin_rows restart_step_rows restart_end_rows
rows_return (format s budget) c w = plain_rows (format s budget) c w _ refl
rows_return (begin class) c w = plain_rows (begin class) c w _ refl
rows_return (update number page slot value budget) c w = plain_rows (update number page slot value budget) c w _ refl
rows_return (look (read reader page slot)) c w = plain_rows (look (read reader page slot)) c w _ refl
rows_return (look (list_line number bytes)) c w =
    with_image (look (list_line number bytes)) c w (row 1 _) (row 8 _) (lent_wrong (not_a_line bytes) w.logs) refl refl refl
rows_return (look (list_lines first bytes)) c w =
    with_image (look (list_lines first bytes)) c w (row 1 _) (row 8 _) (lent_wrong (not_lines bytes) w.logs) refl refl refl
rows_return (commit number budget) c w = plain_rows (commit number budget) c w _ refl
rows_return (abort number budget) c w =
    let k : Call = abort number budget in
    with_fault k c w (row 1 _ ∷ row 2 _ ∷ row 5 _ ∷ []) (row 9 _ ∷ []) (fault_of k c w) refl (plain_rows k c w _ refl) refl
rows_return (set_classes lines) c w = classes_return c w lines
rows_return checkpoint_begin c w = plain_rows checkpoint_begin c w _ refl
rows_return (checkpoint_step budget) c w = plain_rows (checkpoint_step budget) c w _ refl
rows_return (checkpoint_end budget) c w = plain_rows (checkpoint_end budget) c w _ refl
rows_return restart_begin c w =
    with_image restart_begin c w (row 1 _) (row 13 _) (λ s. lengths_wrong s (total s) w) refl refl refl
rows_return (restart_step source) c w =
    let k : Call = restart_step source in
    with_fault k c w (row 1 _ ∷ row 2 _ ∷ row 5 _ ∷ []) (row 8 _ ∷ row 15 _ ∷ []) (fault_of k c w) refl (plain_rows k c w _ refl) refl
rows_return (restart_run source most) c w =
    let k : Call = restart_run source most in
    with_fault k c w (row 1 _ ∷ row 2 _ ∷ row 5 _ ∷ []) (row 8 _ ∷ row 15 _ ∷ []) (fault_of k c w) refl (plain_rows k c w _ refl) refl
rows_return (restart_end budget) c w = plain_rows (restart_end budget) c w _ refl
rows_return new_state c w = every_nil (RowReturns new_state c w)

pub row_numbers : RowNumbers
unfolding RowNumbers
row_numbers k c w r m = (rows_return k c w r m).number

-- two outcomes are not the same
taken_refused : {X : Type 0} → taken ≡ refused → X
taken_refused e = let z : ◌≡◌ {A = ℕ} 0 1 = cc in absurd (omega arith)

cut_refused : {X : Type 0} → interrupted ≡ refused → X
cut_refused e = let z : ◌≡◌ {A = ℕ} 0 1 = cc in absurd (omega arith)

taken_cut : {X : Type 0} → taken ≡ interrupted → X
taken_cut e = let z : ◌≡◌ {A = ℕ} 0 1 = cc in absurd (omega arith)

-- a row's number is neither 0 nor 16, and at most 19
numbered : (n : ℕ) → (within 1 15 n || within 17 19 n) ≡ true → (n ≡ 0 → ⊥) × (n ≡ 16 → ⊥) × (n ≤ 19)
numbered n e = go (within 1 15 n) refl e
  where
    go : (b : Bool) → within 1 15 n ≡ b → (b || within 17 19 n) ≡ true → (n ≡ 0 → ⊥) × (n ≡ 16 → ⊥) × (n ≤ 19)
    go true low e = let r = in_range 1 15 n low in (λ z. omega arith, λ z. omega arith, omega arith)
    go false low e = let r = in_range 17 19 n e in (λ z. omega arith, λ z. omega arith, omega arith)

-- a refusal by a row that applies
by_row : (k : Call) (c : Core) (w : World) (r : Row) → RowReturns k c w r → r.applies ≡ true
    → Returns k c w (Refused r.number r.first r.second)
unfolding outcome_numbered
by_row k c w r q applies =
    let n = numbered r.number q.number in
    record {
      number = n.2;
      outcome = rw (ne_eqb r.number 0 n.0, ne_eqb r.number 16 n.1);
      finished = λ o. taken_refused (sym o);
      none = λ o. refl;
      zeros = λ o. q.zeros;
      tail = q.tail;
      fault = λ seven. q.fault seven applies;
      classes = q.classes;
      cut = λ o. cut_refused (sym o);
    }

pub returned : Returned
unfolding Returned outcome_numbered
returned k c w =
    call_cases (λ (r : Result). Returns k c w r.answer) k c w
    (λ number first second v.
    let l = least_applies k c w number first second v in
    rw (l.gives.0, l.gives.1, l.gives.2) at (by_row k c w l.row (rows_return k c w l.row l.listed) l.applies))
    (λ v f.
    record {
      number = omega arith;
      outcome = refl;
      finished = λ o. (finished_made (budget_of k) (task_of k c w).actions f, refl, refl);
      none = λ o. taken_refused o;
      zeros = λ o. taken_refused o;
      tail = λ six. absurd (omega arith);
      fault = λ seven. absurd (omega arith);
      classes = λ e. absurd (omega (arith, in_range 17 19 _ e));
      cut = λ o. taken_cut o;
    })
    (λ v f.
    record {
      number = omega arith;
      outcome = refl;
      finished = λ o. taken_cut (sym o);
      none = λ o. cut_refused o;
      zeros = λ o. cut_refused o;
      tail = λ six. absurd (omega arith);
      fault = λ seven. absurd (omega arith);
      classes = λ e. absurd (omega (arith, in_range 17 19 _ e));
      cut = λ o. (interrupted_made (budget_of k) (task_of k c w).actions f, refl, refl);
    })
