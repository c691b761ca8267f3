-- The table of classes in force after a call: no task but that of a table, of a format and of a restart changes it. So along every list it
-- is none, or one that was accepted.
use mathlib.Core.Path.{◌≡◌, refl, ap}
use mathlib.Core.Logic.{inl, inr}
use mathlib.Core.List.{List, [], ◌∷◌}
use Rattle.model.specs.declared.Sizes.{Sizes}
use Rattle.model.specs.declared.Classes.{Classes}
use Rattle.model.specs.declared.Core.{Core}
use Rattle.model.specs.World.{World}
use Rattle.model.specs.State.{new_core, open_core, with_replay, with_log}
use Rattle.model.specs.Refusal.{Result, verdict, accepted}
use Rattle.model.specs.Format.{format_task}
use Rattle.model.specs.Transaction.{begun, begin_task, update_task, commit_task}
use Rattle.model.specs.Abort.{abort_task}
use Rattle.model.specs.Checkpoint.{checkpoint_begin_task, checkpoint_step_task, checkpoint_end_task}
use Rattle.model.specs.Restart.{restart_begin_task, restart_step_task, restart_run_task, restart_end_task}
use Rattle.model.specs.SetClasses.{set_classes_task}
use Rattle.model.specs.Call.{Call, format, begin, update, look, commit, abort, set_classes, checkpoint_begin, checkpoint_step, checkpoint_end, restart_begin, restart_step, restart_run, restart_end, new_state, rows_of, task_of, look_task, result_of}
use Rattle.model.specs.Reference.{outcome_of}
use Rattle.model.specs.Machine.{Event, call, lent, scramble, result, outcome, Run, follow, formatted}
use Rattle.model.specs.Promise.{Always}
use Rattle.model.specs.ClassPromise.{table_taken, table_after, TableInForce, TableServes, KnownTable, TableKnown}
use Rattle.model.proofs.Restart.Run.{step_beside, run_beside}
use Rattle.model.proofs.Restart.Taken.{taken_call}
use Rattle.model.proofs.Store.Cases.{call_cases}
use Rattle.model.proofs.ClassLines.{table_serves}

-- steps of a restart leave it
abbrev table_of : Core → Classes
table_of c = c.classes

task_table : (k : Call) (c : Core) (w : World) → (task_of k c w).core.classes ≡ table_taken k c.classes
unfolding format_task open_core begin_task begun update_task look_task commit_task abort_task with_log set_classes_task checkpoint_begin_task checkpoint_step_task checkpoint_end_task restart_begin_task restart_end_task new_core with_replay
task_table (format s budget) c w = refl
task_table (begin class) c w = refl
task_table (update number page slot value budget) c w = refl
task_table (look q) c w = refl
task_table (commit number budget) c w = refl
task_table (abort number budget) c w = refl
task_table (set_classes lines) c w = refl
task_table checkpoint_begin c w = refl
task_table (checkpoint_step budget) c w = refl
task_table (checkpoint_end budget) c w = refl
task_table restart_begin c w = refl
task_table (restart_step source) c w = step_beside table_of (λ n r. refl) c w source
task_table (restart_run source most) c w = run_beside table_of (λ n r. refl) most c w source
task_table (restart_end budget) c w = refl
task_table new_state c w = refl

-- See specs/ClassPromise.antt.
pub table_in_force : TableInForce
unfolding TableInForce new_core
table_in_force k c w =
    call_cases (λ (x : Result). x.core.classes ≡ table_after (outcome_of x.answer) k c.classes) k c w
    (λ number first second v. refl)
    (λ v f. task_table k c w)
    (λ v f. refl)

-- a table goes on to be known where neither it nor the sizes change
same_known : (c d : Core) → d.classes ≡ c.classes → d.sizes ≡ c.sizes → KnownTable c → KnownTable d
unfolding KnownTable
same_known c d table sizes known = rw (table, sizes) known

abbrev sizes_in : Core → Sizes
sizes_in c = c.sizes

task_known : (k : Call) (c : Core) (w : World) → verdict (rows_of k c w) ≡ accepted → KnownTable c → KnownTable (task_of k c w).core
unfolding TableServes KnownTable format_task open_core begin_task begun update_task look_task commit_task abort_task with_log set_classes_task checkpoint_begin_task checkpoint_step_task checkpoint_end_task restart_begin_task restart_end_task new_core with_replay
task_known (format s budget) c w ok known = inl refl
task_known (begin class) c w ok known = known
task_known (update number page slot value budget) c w ok known = known
task_known (look q) c w ok known = known
task_known (commit number budget) c w ok known = known
task_known (abort number budget) c w ok known = known
task_known (set_classes lines) c w ok known = inr (lines, refl, table_serves c w lines ok)
task_known checkpoint_begin c w ok known = known
task_known (checkpoint_step budget) c w ok known = known
task_known (checkpoint_end budget) c w ok known = known
task_known restart_begin c w ok known = inl refl
task_known (restart_step source) c w ok known =
    same_known c (restart_step_task c w source).core (step_beside table_of (λ n r. refl) c w source) (step_beside sizes_in (λ n r. refl) c w source) known
task_known (restart_run source most) c w ok known =
    same_known c (restart_run_task most c w source).core (run_beside table_of (λ n r. refl) most c w source) (run_beside sizes_in (λ n r. refl) most c w source) known
task_known (restart_end budget) c w ok known = inl refl
task_known new_state c w ok known = inl refl

call_known : (k : Call) (c : Core) (w : World) → KnownTable c → KnownTable (result_of k c w).core
unfolding KnownTable new_core
call_known k c w known =
    call_cases (λ (x : Result). KnownTable x.core) k c w (λ number first second v. known) (λ v f. task_known k c w v known) (λ v f. inl refl)

follow_known : (es : List Event) (x : Run) → KnownTable x.machine.core → KnownTable (follow es x).machine.core
unfolding follow result
follow_known [] x known = known
follow_known (call k ∷ es) x known = follow_known es _ (call_known k x.machine.core x.machine.world known)
follow_known (lent k w ∷ es) x known = follow_known es _ known
follow_known (scramble pages work ∷ es) x known = follow_known es _ known

-- See specs/ClassPromise.antt.
pub table_known : TableKnown
unfolding TableKnown Always formatted KnownTable outcome result format_task open_core
table_known m s budget formats es a =
    follow_known es (formatted m s budget) (inl (ap table_of (taken_call (format s budget) m.core m.world formats).core))
