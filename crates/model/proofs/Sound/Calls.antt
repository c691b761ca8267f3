-- Every call keeps the lengths of the state's arrays, and of a state that passes the first test it makes one that passes it.
use mathlib.Core.Path.{◌≡◌, refl, ◌∙◌}
use mathlib.Core.List.{List}
use Prim.Native.Nat.{ℕ}
use mathlib.Core.Bool.{true}
use Rattle.model.specs.declared.Core.{Core}
use Rattle.model.specs.World.{World}
use Rattle.model.specs.State.{new_core, sound}
use Rattle.model.specs.Refusal.{Result, accepted, verdict}
use Rattle.model.specs.Classes.{classes_of}
use Rattle.model.specs.SetClasses.{set_classes_task}
use Rattle.model.specs.Call.{Call, format, begin, update, Look, look, look_task, commit, abort, set_classes, checkpoint_begin, checkpoint_step, checkpoint_end, restart_begin, restart_step, restart_run, restart_end, new_state, rows_of, task_of, result_of}
use Rattle.model.proofs.Store.Cases.{call_cases}
use Rattle.model.proofs.Sound.Test.{Sized, Passing}
use Rattle.model.proofs.Sound.Transaction.{begin_passes, update_passes, commit_passes}
use Rattle.model.proofs.Sound.Abort.{abort_passes}
use Rattle.model.proofs.Sound.Checkpoint.{checkpoint_begin_passes, checkpoint_step_passes, checkpoint_end_passes}
use Rattle.model.proofs.Sound.Restart.{format_passes, restart_begin_passes, restart_step_passes, restart_run_passes, restart_end_passes}
use Rattle.model.proofs.Store.SetClasses.{classes_sound}

-- a new state, which is also what an interrupted call hands back
pub new_passes : Passing new_core
unfolding new_core sound
new_passes = (
  record {
    logs = record { starts = refl; tails = refl; fills = refl };
    table = record { numbers = refl; disks = refl; firsts = refl; reserved = refl; sums = refl };
    ends = refl;
    positions = refl;
  },
  refl,
)

look_passes : (q : Look) (c : Core) (w : World) → Sized c → sound c ≡ true → Passing (look_task q c w).core
unfolding look_task
look_passes q c w sized s = (sized, s)

classes_passes : (c : Core) (lines : List ℕ) → Sized c → sound c ≡ true → Passing (set_classes_task c lines).core
unfolding set_classes_task
classes_passes c lines sized s =
    (record { logs = sized.logs; table = sized.table; ends = sized.ends; positions = sized.positions }, classes_sound c (classes_of lines) ∙ s)

-- a call that is accepted
pub taken_passes : (k : Call) (c : Core) (w : World) → Sized c → sound c ≡ true → verdict (rows_of k c w) ≡ accepted → Passing (task_of k c w).core
taken_passes (format z budget) c w sized s ok = format_passes c w z ok
taken_passes (begin class) c w sized s ok = begin_passes c w class sized s ok
taken_passes (update number page slot value budget) c w sized s ok = update_passes c w number page slot value sized s ok
taken_passes (look q) c w sized s ok = look_passes q c w sized s
taken_passes (commit number budget) c w sized s ok = commit_passes c w number sized s ok
taken_passes (abort number budget) c w sized s ok = abort_passes c w number sized s ok
taken_passes (set_classes lines) c w sized s ok = classes_passes c lines sized s
taken_passes checkpoint_begin c w sized s ok = checkpoint_begin_passes c w sized s ok
taken_passes (checkpoint_step budget) c w sized s ok = checkpoint_step_passes c w sized s ok
taken_passes (checkpoint_end budget) c w sized s ok = checkpoint_end_passes c w sized s ok
taken_passes restart_begin c w sized s ok = restart_begin_passes c w ok
taken_passes (restart_step source) c w sized s ok = restart_step_passes c w source sized s ok
taken_passes (restart_run source most) c w sized s ok = restart_run_passes c w source most (sized, s)
taken_passes (restart_end budget) c w sized s ok = restart_end_passes c w sized s ok
taken_passes new_state c w sized s ok = new_passes

pub sized_kept : (k : Call) (c : Core) (w : World) → Sized c → sound c ≡ true → Sized (result_of k c w).core
sized_kept k c w sized s =
    call_cases (λ (r : Result). Sized r.core) k c w (λ number first second v. sized) (λ v f. (taken_passes k c w sized s v).0)
    (λ v f. new_passes.0)

pub sound_kept : (k : Call) (c : Core) (w : World) → Sized c → sound c ≡ true → sound (result_of k c w).core ≡ true
sound_kept k c w sized s =
    call_cases (λ (r : Result). sound r.core ≡ true) k c w (λ number first second v. s) (λ v f. (taken_passes k c w sized s v).1)
    (λ v f. new_passes.1)
