-- "The lowest number that applies is given, and only then."
use Rattle.std.specs.Prelude.{None, Some, Option}
use mathlib.Core.Path.{◌≡◌, refl, sym, ap, subst}
use mathlib.Core.List.Memᴰ
use mathlib.Core.List.{List, [], ◌∷◌, ◌++◌, map, Memᴰ}
use mathlib.Core.Bool.{Bool, true, false, and-eq-true_iff, cond, ◌&&◌}
use Prim.Native.Nat.{ℕ, ◌+◌, ◌<◌}
use native.Mathlib.Omega.{arith}
use lib.Dec.{ltb}
use borrow.Author.Tests.{ltb-true}
use Rattle.model.specs.declared.Core.{Core}
use Rattle.model.specs.declared.BadRecord.{BadRecord}
use Rattle.model.specs.declared.Answer.TheVariants.{Refused}
use Rattle.model.specs.World.{World, finishes}
use Rattle.model.specs.Refusal.{Row, Verdict, accepted, rejected, verdict, spend, conclude, stores_of}
use Rattle.model.specs.Causes.{fault_row, fault_from}
use Rattle.model.specs.Format.{format_rows}
use Rattle.model.specs.Transaction.{begin_rows, update_rows, read_rows, commit_rows}
use Rattle.model.specs.Abort.{abort_fault, abort_rows}
use Rattle.model.specs.Anchor.{sizes_on, start_on}
use Rattle.model.specs.Checkpoint.{checkpoint_begin_rows, checkpoint_step_rows, checkpoint_end_rows}
use Rattle.model.specs.Restart.{image_rows, restart_begin_rows, step_fault, restart_step_rows, restart_end_rows}
use Rattle.model.specs.Listing.{list_rows}
use Rattle.model.specs.SetClasses.{set_classes_rows}
use Rattle.model.specs.Call.{Call, format, begin, update, look, read, list_line, list_lines, commit, abort, set_classes, checkpoint_begin, checkpoint_step, checkpoint_end, restart_begin, restart_step, restart_run, restart_end, new_state, rows_of, task_of, budget_of, result_of}
use Rattle.model.proofs.Members.{Every, every_nil, every_cons}
use Rattle.model.proofs.Run.{made_le}

abbrev pub Fails : Row → Type 0
Fails r = r.applies ≡ false

-- Accepted: the first row does not apply, and the others accept too; so no row applies.
pub row_passed : (x : Row) (rows : List Row) → verdict (x ∷ rows) ≡ accepted → (x.applies ≡ false) × (verdict rows ≡ accepted)
unfolding verdict
row_passed x rows e = go x.applies refl e
  where
    go : (b : Bool) → x.applies ≡ b → cond b (rejected x.number x.first x.second) (verdict rows) ≡ accepted
        → (x.applies ≡ false) × (verdict rows ≡ accepted)
    go true d e = let z : ◌≡◌ {A = ℕ} 0 1 = cc in absurd (omega arith)
    go false d e = (d, e)

-- rows that accept leave the verdict to those behind them
pub verdict_append : (l k : List Row) → verdict l ≡ accepted → verdict (l ++ k) ≡ verdict k
unfolding verdict
verdict_append [] k e = refl
verdict_append (x ∷ l) k e =
    let f = row_passed x l e in
    rw f.0 (verdict_append l k f.1)

-- and the first that applies decides
pub refused_append : (l k : List Row) (n first second : ℕ) → verdict l ≡ rejected n first second → verdict (l ++ k) ≡ rejected n first second
unfolding verdict
refused_append [] k n first second e = let z : ◌≡◌ {A = ℕ} 0 1 = cc in absurd (omega arith)
refused_append (x ∷ l) k n first second e = go x.applies e (refused_append l k n first second)
  where
    go : (b : Bool) → cond b (rejected x.number x.first x.second) (verdict l) ≡ rejected n first second
        → (verdict l ≡ rejected n first second → verdict (l ++ k) ≡ rejected n first second)
        → cond b (rejected x.number x.first x.second) (verdict (l ++ k)) ≡ rejected n first second
    go true e rest = e
    go false e rest = rest e

pub accepted_first : (l k : List Row) → verdict (l ++ k) ≡ accepted → verdict l ≡ accepted
unfolding verdict
accepted_first [] k e = refl
accepted_first (x ∷ l) k e =
    let f = row_passed x (l ++ k) e in
    rw f.0 (accepted_first l k f.1)

pub accepted_none : (rows : List Row) → verdict rows ≡ accepted → Every Fails rows
accepted_none [] e = every_nil Fails
accepted_none (x ∷ rows) e =
    let p = row_passed x rows e in
    every_cons Fails x rows p.0 (accepted_none rows p.1)

pub none_accepted : (rows : List Row) → Every Fails rows → verdict rows ≡ accepted
unfolding verdict
none_accepted [] none = refl
none_accepted (x ∷ rows) none = rw (none x (Memᴰ.head refl)) (none_accepted rows (λ r m. none r (Memᴰ.tail m)))

-- Refused: by a row that applies, and none before it does.
pub record By (rows : List Row) (number first second : ℕ) : Type 0 where
  pub before : List Row
  pub row : Row
  pub after : List Row
  pub parts : rows ≡ before ++ row ∷ after
  pub applies : row.applies ≡ true
  pub gives : (row.number ≡ number) × (row.first ≡ first) × (row.second ≡ second)
  pub none : Every Fails before

pub refused_by_lem : (rows : List Row) (number first second : ℕ) → verdict rows ≡ rejected number first second → By rows number first second
unfolding verdict
refused_by_lem [] n a b e = let z : ◌≡◌ {A = ℕ} 0 1 = cc in absurd (omega arith)
refused_by_lem (x ∷ rows) n a b e = go x.applies refl e (refused_by_lem rows n a b)
  where
    go : (t : Bool) → x.applies ≡ t → cond t (rejected x.number x.first x.second) (verdict rows) ≡ rejected n a b
        → (verdict rows ≡ rejected n a b → By rows n a b) → By (x ∷ rows) n a b
    go true d e rest =
        record { before = []; row = x; after = rows; parts = refl; applies = d; gives = (cc, cc, cc); none = every_nil Fails }
    go false d e rest =
        let y = rest e in
        record {
          before = x ∷ y.before;
          row = y.row;
          after = y.after;
          parts = ap (λ (l : List Row). x ∷ l) y.parts;
          applies = y.applies;
          gives = y.gives;
          none = every_cons Fails x y.before d y.none;
        }

-- The rows of every call stand in ascending order.
unfoldable pub ascending_from : ℕ → List ℕ → Bool
ascending_from n [] = true
ascending_from n (x ∷ xs) = ltb n x && ascending_from x xs

unfoldable pub ascending : List ℕ → Bool
ascending l = ascending_from 0 l

abbrev pub numbers : List Row → List ℕ
numbers rows = map (λ r. r.number) rows

fault_number : (f : Option BadRecord) → (fault_row f).number ≡ 7
fault_number None = refl
fault_number (Some bad) = refl

pub rows_ascend : (k : Call) (c : Core) (w : World) → ascending (numbers (rows_of k c w)) ≡ true
unfolding ascending ascending_from format_rows begin_rows update_rows read_rows commit_rows abort_rows set_classes_rows checkpoint_begin_rows checkpoint_step_rows checkpoint_end_rows image_rows list_rows restart_begin_rows restart_step_rows restart_end_rows
rows_ascend (format s budget) c w = refl
rows_ascend (begin class) c w = refl
rows_ascend (update number page slot value budget) c w = refl
rows_ascend (look (read reader page slot)) c w = refl
rows_ascend (look (list_line number bytes)) c w = rw (fault_number (fault_from (sizes_on w.anchor) (start_on w.anchor) w.logs (sizes_on w.anchor).disks 0))
rows_ascend (look (list_lines first bytes)) c w = rw (fault_number (fault_from (sizes_on w.anchor) (start_on w.anchor) w.logs (sizes_on w.anchor).disks 0))
rows_ascend (commit number budget) c w = refl
rows_ascend (abort number budget) c w = rw (fault_number (abort_fault c w number))
rows_ascend (set_classes lines) c w = refl
rows_ascend checkpoint_begin c w = refl
rows_ascend (checkpoint_step budget) c w = refl
rows_ascend (checkpoint_end budget) c w = refl
rows_ascend restart_begin c w = rw (fault_number (fault_from (sizes_on w.anchor) (start_on w.anchor) w.logs (sizes_on w.anchor).disks 0))
rows_ascend (restart_step source) c w = rw (fault_number (step_fault c w source))
rows_ascend (restart_run source most) c w = rw (fault_number (step_fault c w source))
rows_ascend (restart_end budget) c w = refl
rows_ascend new_state c w = refl

pub ascending_cons : (n x : ℕ) (xs : List ℕ) → ascending_from n (x ∷ xs) ≡ true → (n < x) × (ascending_from x xs ≡ true)
unfolding ascending_from
ascending_cons n x xs h =
    let both = (and-eq-true_iff (ltb n x) (ascending_from x xs)).0 h in
    (ltb-true n x both.0, both.1)

above : (n : ℕ) (rows : List Row) → ascending_from n (numbers rows) ≡ true → Every (λ r. n < r.number) rows
above n [] h = every_nil (λ r. n < r.number)
above n (x ∷ rows) h =
    let both = ascending_cons n x.number (numbers rows) h in
    every_cons (λ r. n < r.number) x rows both.0 (λ r m. omega (arith, both.0, above x.number rows both.1 r m))

lower_fail : (n : ℕ) (rows : List Row) → ascending_from n (numbers rows) ≡ true → (number first second : ℕ)
    → verdict rows ≡ rejected number first second → Every (λ r. r.number < number → Fails r) rows
unfolding verdict
lower_fail n [] h number first second e = every_nil (λ r. r.number < number → Fails r)
lower_fail n (x ∷ rows) h number first second e =
    go x.applies refl e (ascending_cons n x.number (numbers rows) h).1 (λ a. lower_fail x.number rows a number first second)
  where
    P : Row → Type 0
    P r = r.number < number → Fails r

    go : (t : Bool) → x.applies ≡ t
        → cond t (rejected x.number x.first x.second) (verdict rows) ≡ rejected number first second
        → ascending_from x.number (numbers rows) ≡ true
        → (ascending_from x.number (numbers rows) ≡ true → verdict rows ≡ rejected number first second → Every P rows)
        → Every P (x ∷ rows)
    go true d e a rest =
        let same : x.number ≡ number = cc in
        every_cons P x rows (λ l. absurd (omega arith)) (λ r m l. absurd (omega (arith, above x.number rows a r m)))
    go false d e a rest = every_cons P x rows (λ l. d) (rest a e)

-- A refused call gives the number of a row that applies, and no row of the call with a smaller number applies.
pub record Least (rows : List Row) (number first second : ℕ) : Type 0 where
  pub row : Row
  pub listed : Memᴰ row rows
  pub applies : row.applies ≡ true
  pub gives : (row.number ≡ number) × (row.first ≡ first) × (row.second ≡ second)
  pub smaller : Every (λ r. r.number < number → Fails r) rows

listed : (rows : List Row) (number first second : ℕ) (by : By rows number first second) → Memᴰ by.row rows
listed rows number first second by =
    subst (λ (l : List Row). Memᴰ by.row l) (sym by.parts) (Memᴰ.append_right by.before (Memᴰ.head refl))

-- rows that stand above n refuse with a number above n
pub rejected_above : (n : ℕ) (rows : List Row) → ascending_from n (numbers rows) ≡ true → (number first second : ℕ)
    → verdict rows ≡ rejected number first second → n < number
rejected_above n rows h number first second e =
    let by = refused_by_lem rows number first second e in
    omega (arith, by.gives.0, above n rows h by.row (listed rows number first second by))

pub least_applies : (k : Call) (c : Core) (w : World) (number first second : ℕ)
    → verdict (rows_of k c w) ≡ rejected number first second → Least (rows_of k c w) number first second
unfolding ascending
least_applies k c w number first second e =
    let by = refused_by_lem (rows_of k c w) number first second e in
    record {
      row = by.row;
      listed = listed (rows_of k c w) number first second by;
      applies = by.applies;
      gives = by.gives;
      smaller = lower_fail 0 (rows_of k c w) (rows_ascend k c w) number first second e;
    }

-- The answer of a call is its verdict's, and a refused call leaves all as it was.
pub answer_refused : (k : Call) (c : Core) (w : World) (number first second : ℕ)
    → (result_of k c w).answer ≡ Refused number first second → verdict (rows_of k c w) ≡ rejected number first second
unfolding result_of
answer_refused k c w number first second = go (verdict (rows_of k c w))
  where
    performed : (b : Bool) → (spend b (budget_of k) (task_of k c w) w).answer ≡ Refused number first second → ◌≡◌ {A = ℕ} 0 1
    performed true a = cc
    performed false a = cc

    go : (v : Verdict) → (conclude v (budget_of k) (task_of k c w) c w).answer ≡ Refused number first second → v ≡ rejected number first second
    go accepted a = absurd (omega (arith, performed (finishes (budget_of k) (task_of k c w).actions) a))
    go (rejected x y z) a = cc

pub refused_leaves : (k : Call) (c : Core) (w : World) (number first second : ℕ)
    → verdict (rows_of k c w) ≡ rejected number first second
    → result_of k c w ≡ record { answer = Refused number first second; budget = budget_of k; core = c; world = w }
unfolding result_of
refused_leaves k c w number first second e = rw e

-- "Every answer counts the stores made": that count and the budget left come to the budget.
pub answer_counts : (k : Call) (c : Core) (w : World) → stores_of (result_of k c w).answer + (result_of k c w).budget ≡ budget_of k
unfolding result_of
answer_counts k c w = go (verdict (rows_of k c w))
  where
    performed : (b : Bool) → stores_of (spend b (budget_of k) (task_of k c w) w).answer + (spend b (budget_of k) (task_of k c w) w).budget ≡ budget_of k
    performed true = omega (arith, made_le (budget_of k) (task_of k c w).actions)
    performed false = omega (arith, made_le (budget_of k) (task_of k c w).actions)

    go : (v : Verdict)
        → stores_of (conclude v (budget_of k) (task_of k c w) c w).answer + (conclude v (budget_of k) (task_of k c w) c w).budget ≡ budget_of k
    go accepted = performed (finishes (budget_of k) (task_of k c w).actions)
    go (rejected x y z) = omega arith
