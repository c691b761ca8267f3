-- A call whose row 1 looks at the stage alone. On a state that passes the test it gives the same, so long tables compute with it: the
-- test of the whole state is most of their work.
use mathlib.Core.Path.{◌≡◌, refl, sym, ap}
use mathlib.Core.List.{List, [], ◌∷◌, map}
use mathlib.Core.Bool.{true, not}
use Prim.Native.Nat.{ℕ}
use Rattle.model.specs.declared.Core.{Core}
use Rattle.model.specs.World.{World}
use Rattle.model.specs.State.{sound}
use Rattle.model.specs.Refusal.{Row, row, Verdict, verdict, conclude, number_of}
use Rattle.model.specs.Causes.{stage_forbids}
use Rattle.model.specs.Format.{format_rows}
use Rattle.model.specs.Transaction.{begin_rows, update_rows, read_rows, commit_rows}
use Rattle.model.specs.Abort.{abort_rows}
use Rattle.model.specs.Checkpoint.{checkpoint_begin_rows, checkpoint_step_rows, checkpoint_end_rows}
use Rattle.model.specs.Restart.{restart_begin_rows, restart_step_rows, restart_end_rows}
use Rattle.model.specs.Listing.{list_rows}
use Rattle.model.specs.SetClasses.{set_classes_rows}
use Rattle.model.specs.Call.{Call, format, begin, update, look, read, list_line, list_lines, commit, abort, set_classes, checkpoint_begin, checkpoint_step, checkpoint_end, restart_begin, restart_step, restart_run, restart_end, new_state, rows_of, task_of, budget_of, result_of}
use Rattle.model.specs.Machine.{Machine}
use Rattle.model.specs.Answers.{stages_of, fits_call}
use Rattle.model.proofs.Play.{Step, does, numbers}
use Rattle.model.proofs.Sound.Test.{Passing}
use Rattle.model.proofs.Sound.Calls.{sized_kept, sound_kept}
use Rattle.model.proofs.Sound.Made.{stage_alone}

-- the rows after the first
unfoldable pub rest : List Row → List Row
rest [] = []
rest (x ∷ rows) = rows

unfoldable pub by_stage : Call → Step
by_stage k c w = conclude (verdict (row 1 (not (stages_of k c.stage)) ∷ rest (rows_of k c w))) (budget_of k) (task_of k c w) c w

module _ (c : Core) (w : World) (ok : sound c ≡ true) where
  first_same : (k : Call) (rows : List Row) → rows_of k c w ≡ row 1 (stage_forbids (stages_of k) (fits_call k c w) c) ∷ rows
      → by_stage k c w ≡ result_of k c w
  unfolding by_stage result_of rest
  first_same k rows e =
      rw e (ap (λ (v : Verdict). conclude v (budget_of k) (task_of k c w) c w) (sym (first_row k rows)))
    where
      first_row : (k : Call) (rows : List Row)
          → verdict (row 1 (stage_forbids (stages_of k) (fits_call k c w) c) ∷ rows) ≡ verdict (row 1 (not (stages_of k c.stage)) ∷ rows)
      first_row k rows = rw (stage_alone k c w ok)

  pub by_stage_lem : (k : Call) → by_stage k c w ≡ result_of k c w
  unfolding by_stage result_of rest verdict stage_forbids format_rows begin_rows update_rows read_rows list_rows commit_rows abort_rows set_classes_rows checkpoint_begin_rows checkpoint_step_rows checkpoint_end_rows restart_begin_rows restart_step_rows restart_end_rows
  by_stage_lem (format s budget) = first_same (format s budget) _ refl
  by_stage_lem (begin class) = first_same (begin class) _ refl
  by_stage_lem (update number page slot value budget) = first_same (update number page slot value budget) _ refl
  by_stage_lem (look (read reader page slot)) = first_same (look (read reader page slot)) _ refl
  by_stage_lem (look (list_line number bytes)) = first_same (look (list_line number bytes)) _ refl
  by_stage_lem (look (list_lines first bytes)) = first_same (look (list_lines first bytes)) _ refl
  by_stage_lem (commit number budget) = first_same (commit number budget) _ refl
  by_stage_lem (abort number budget) = first_same (abort number budget) _ refl
  by_stage_lem (set_classes lines) = first_same (set_classes lines) _ refl
  by_stage_lem checkpoint_begin = first_same checkpoint_begin _ refl
  by_stage_lem (checkpoint_step budget) = first_same (checkpoint_step budget) _ refl
  by_stage_lem (checkpoint_end budget) = first_same (checkpoint_end budget) _ refl
  by_stage_lem restart_begin = first_same restart_begin _ refl
  by_stage_lem (restart_step source) = first_same (restart_step source) _ refl
  by_stage_lem (restart_run source most) = first_same (restart_run source most) _ refl
  by_stage_lem (restart_end budget) = first_same (restart_end budget) _ refl
  by_stage_lem new_state = refl

-- what each call of a script answers
pub numbers_by_stage : (calls : List Call) (m : Machine) → Passing m.core → numbers (map does calls) m ≡ numbers (map by_stage calls) m
unfolding numbers does
numbers_by_stage [] m p = refl
numbers_by_stage (k ∷ calls) m p =
    rw (by_stage_lem m.core m.world p.1 k)
    (ap (λ (l : List ℕ). number_of (result_of k m.core m.world).answer ∷ l)
    (numbers_by_stage calls _ (sized_kept k m.core m.world p.0 p.1, sound_kept k m.core m.world p.0 p.1)))
