-- What code has to show for `Serves`: of a refusal its row, of a call that ran its rows and its stores.
use mathlib.Core.Path.{◌≡◌, refl}
use mathlib.Core.Bool.{true, false}
use Prim.Native.Nat.{ℕ, ◌-◌}
use lib.ListN.{take}
use Rattle.model.specs.declared.Carried.{Carried}
use Rattle.model.specs.declared.Answer.TheVariants.{Finished, Refused, Interrupted}
use Rattle.model.specs.World.{World, run, covered, perform, made, stores, finishes}
use Rattle.model.specs.State.{new_core}
use Rattle.model.specs.Causes.{when_shut}
use Rattle.model.specs.Refusal.{accepted, rejected, verdict, Task}
use Rattle.model.specs.Call.{Call, new_state, rows_of, task_of, budget_of, result_of}
use Rattle.model.specs.View.{head_words, core_of, carried_of, head_of, body_of, behind, given, Serves}
use Rattle.model.proofs.View.Head.{carried_back}
use Rattle.model.proofs.View.Seen.{whole_again}

-- What a call has to show: the row that refuses it; or that none does, and that its stores were made as far as the budget lasted.
module _ (k : Call) (h : Carried) (w : World) where
  abbrev task : Task
  task = task_of k (core_of h w.work) (body_of w)

  abbrev count : ℕ
  count = made (budget_of k) task.actions

  pub refusal_serves : (number first second : ℕ) → verdict (rows_of k (core_of h w.work) (body_of w)) ≡ rejected number first second
      → Serves k h w (record { answer = Refused number first second; carried = h }) (budget_of k) w
  unfolding Serves given result_of
  refusal_serves number first second e = rw (e, carried_back h w.work, whole_again w) refl

  pub finished_serves : verdict (rows_of k (core_of h w.work) (body_of w)) ≡ accepted → finishes (budget_of k) task.actions ≡ true
      → when_shut task.core.stage ≡ false
      → Serves k h w (record { answer = Finished count task.value; carried = carried_of task.core }) (budget_of k - count)
      (behind (head_of task.core) (run (budget_of k) task.actions (body_of w)))
  unfolding Serves given result_of
  finished_serves e f serving = rw (e, f, serving) refl

  pub cut_serves : verdict (rows_of k (core_of h w.work) (body_of w)) ≡ accepted → finishes (budget_of k) task.actions ≡ false
      → Serves k h w (record { answer = Interrupted count; carried = carried_of new_core }) (budget_of k - count)
      (behind (take head_words w.work) (run (budget_of k) task.actions (body_of w)))
  unfolding Serves given result_of
  cut_serves e f = rw (e, f) refl

-- A new state, whatever is lent.
pub new_serves : (h : Carried) (w : World) → Serves new_state h w (record { answer = Finished 0 0; carried = carried_of new_core }) 0 w
unfolding Serves given result_of verdict finishes stores made run covered perform new_core
new_serves h w = rw (whole_again w) refl
