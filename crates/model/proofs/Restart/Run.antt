-- A run of restart steps is those steps, so what each of them keeps it keeps.
use mathlib.Core.Path.{◌≡◌, refl, sym, ap, subst, ◌∙◌}
use mathlib.Core.Bool.{Bool, true, false, cond}
use Prim.Native.Nat.{ℕ, zero, suc, ◌<◌}
use native.Mathlib.Omega.{arith}
use native.Mathlib.Nat.{not-suc-le-zero}
use lib.Dec.{ltb}
use lib.ListN.{replicate}
use Rattle.model.specs.declared.Replay.{Replay}
use Rattle.model.specs.declared.Core.{Core}
use Rattle.model.specs.declared.Decoded.{Decoded}
use Rattle.model.specs.declared.Decoded.TheVariants.{Change, Close, Malformed}
use Rattle.model.specs.World.{World, perform}
use Rattle.model.specs.State.{with_replay}
use Rattle.model.specs.Refusal.{Verdict, accepted, rejected, verdict, Task, Result, first_of}
use Rattle.model.specs.Restart.{next_record, backup_step, moved_to, record_step, restart_step_rows, restart_step_task, step_then, restart_run_task}
use Rattle.model.specs.Reference.{taken, refused, outcome_of}
use Rattle.model.specs.Call.{Call, restart_step, restart_run, result_of}
use Rattle.model.specs.Machine.{Machine, call, result, outcome, after, after_steps}
use Rattle.model.specs.Promise.{RunMakes, RunIsSteps}
use Rattle.model.proofs.Run.{perform_append}
use Rattle.model.proofs.Storeless.{storeless_finishes}
use Rattle.model.proofs.Verdict.{refused_leaves}
use Rattle.model.proofs.Restart.Taken.{accepted_taken, taken_call, storeless_gives}

-- What holds at first, and with each accepted step of the source for one step more, holds after a run for the steps that it made.
pub run_keeps : (most : ℕ) (P : ℕ → Core → World → Type 0) (source : ℕ)
    → ((k : ℕ) (c : Core) (w : World) → verdict (restart_step_rows c w source) ≡ accepted → P k c w
    → P (suc k) (restart_step_task c w source).core (perform (restart_step_task c w source).actions w))
    → (c : Core) (w : World) → P 0 c w
    → let t : Task = restart_run_task most c w source in P t.value t.core (perform t.actions w)
unfolding restart_run_task perform
run_keeps zero P source keeps c w p = p
run_keeps (suc n) P source keeps c w p =
    go (verdict (restart_step_rows c w source)) refl (run_keeps n (λ k. P (suc k)) source (λ k. keeps (suc k)) _ _)
  where
    step : Task
    step = restart_step_task c w source

    more : Task
    more = restart_run_task n step.core (perform step.actions w) source

    go : (v : Verdict) → verdict (restart_step_rows c w source) ≡ v
        → (P 1 step.core (perform step.actions w) → P (suc more.value) more.core (perform more.actions (perform step.actions w)))
        → let t : Task = step_then v step (λ c' w'. restart_run_task n c' w' source) c w in P t.value t.core (perform t.actions w)
    go (rejected number first second) e rest = p
    go accepted e rest = rw (perform_append step.actions more.actions w) (rest (keeps 0 c w e p))

-- A step changes nothing of the state but how far the restart has come: what is read of a state, if it is the same however far that is,
-- stays with a step and with a run.
module _ {A : Type 0} (f : Core → A) (beside : (c : Core) (r : Replay) → f (with_replay c r) ≡ f c) where
  record_beside : (c : Core) (w : World) (disk : ℕ) (d : Decoded) → f (record_step c w disk d).core ≡ f c
  unfolding moved_to
  record_beside c w disk (Change kind page slot number copy width next) = beside c _
  record_beside c w disk (Close kind number next) = beside c _
  record_beside c w disk Malformed = refl

  pub step_beside : (c : Core) (w : World) (source : ℕ) → f (restart_step_task c w source).core ≡ f c
  unfolding restart_step_task backup_step
  step_beside c w source = go (ltb source c.sizes.disks)
    where
      go : (b : Bool) → f (cond b (record_step c w source (next_record c w source)) (backup_step c w)).core ≡ f c
      go true = record_beside c w source (next_record c w source)
      go false = beside c _

  pub run_beside : (most : ℕ) (c : Core) (w : World) (source : ℕ) → f (restart_run_task most c w source).core ≡ f c
  run_beside most c w source = run_keeps most (λ k n v. f n ≡ f c) source (λ k n v ok now. step_beside n v source ∙ now) c w refl

-- A machine and a task done on it.
abbrev pub did : Machine → Task → Machine
did m t = record { core = t.core; world = perform t.actions m.world }

module _ (m : Machine) (source : ℕ) where
  abbrev step : Task
  step = restart_step_task m.core m.world source

  step_refused : (number first second : ℕ) → verdict (restart_step_rows m.core m.world source) ≡ rejected number first second
      → outcome m (restart_step source) ≡ refused
  unfolding outcome result result_of
  step_refused number first second v = rw v

  -- an accepted step is taken, and the steps after it go on from there
  module _ (v : verdict (restart_step_rows m.core m.world source) ≡ accepted) where
    step_taken : outcome m (restart_step source) ≡ taken
    unfolding outcome result
    step_taken = accepted_taken (restart_step source) m v (storeless_finishes (restart_step source) m.core m.world refl)

    steps_after : (k : ℕ) → after_steps (replicate (suc k) source) m ≡ after_steps (replicate k source) (did m step)
    unfolding after_steps result
    steps_after k =
        ap (λ (r : Result). after_steps (replicate k source) (record { core = r.core; world = r.world }))
        (storeless_gives (restart_step source) m.core m.world refl v)

-- what a run does are its steps
pub task_makes : (most : ℕ) (m : Machine) (source : ℕ)
    → let t : Task = restart_run_task most m.core m.world source in RunMakes m source most t.value (did m t)
unfolding restart_run_task perform after_steps
task_makes zero m source =
    record { few = omega arith; leaves = refl; each = λ i h. absurd (not-suc-le-zero h); stops = λ h. absurd (not-suc-le-zero h) }
task_makes (suc n) m source =
    go (verdict (restart_step_rows m.core m.world source)) refl (task_makes n (did m (step m source)) source)
  where
    next : Machine
    next = did m (step m source)

    more : Task
    more = restart_run_task n next.core next.world source

    each : outcome m (restart_step source) ≡ taken
        → ((k : ℕ) → after_steps (replicate (suc k) source) m ≡ after_steps (replicate k source) next)
        → ((i : ℕ) → i < more.value → outcome (after_steps (replicate i source) next) (restart_step source) ≡ taken)
        → (i : ℕ) → i < suc more.value → outcome (after_steps (replicate i source) m) (restart_step source) ≡ taken
    each first after later zero h = first
    each first after later (suc i) h = ap (λ (x : Machine). outcome x (restart_step source)) (after i) ∙ later i (omega arith)

    go : (v : Verdict) → verdict (restart_step_rows m.core m.world source) ≡ v → RunMakes next source n more.value (did next more)
        → let t : Task = step_then v (step m source) (λ c' w'. restart_run_task n c' w' source) m.core m.world in
        RunMakes m source (suc n) t.value (did m t)
    go (rejected number first second) e rest =
        record {
          few = omega arith;
          leaves = refl;
          each = λ i h. absurd (not-suc-le-zero h);
          stops = λ h. step_refused m source number first second e;
        }
    go accepted e rest =
        record {
          few = omega (arith, rest.few);
          leaves = rw (perform_append (step m source).actions more.actions m.world) (rest.leaves ∙ sym (steps_after m source e more.value));
          each = each (step_taken m source e) (steps_after m source e) rest.each;
          stops = λ h. ap (λ (x : Machine). outcome x (restart_step source)) (steps_after m source e more.value) ∙ rest.stops (omega arith);
        }

-- A run is its steps: see specs/Promise.antt.
pub run_is_steps : RunIsSteps
unfolding RunIsSteps result outcome
run_is_steps m source most = (alike.0, alike.1, λ e. makes (taken_call run m.core m.world e).accepted)
  where
    run : Call
    run = restart_run source most

    Alike : Type 0
    Alike =
        (outcome m run ≡ outcome m (restart_step source))
        × (outcome m (restart_step source) ≡ refused → result m run ≡ result m (restart_step source))

    alike : Alike
    alike = go (verdict (restart_step_rows m.core m.world source)) refl
      where
        go : (v : Verdict) → verdict (restart_step_rows m.core m.world source) ≡ v → Alike
        go accepted v =
            let one = step_taken m source v in
            let all = accepted_taken run m v (storeless_finishes run m.core m.world refl) in
            (all ∙ sym one, λ e. let z : ◌≡◌ {A = ℕ} 0 1 = cc in absurd (omega arith))
        go (rejected number first second) v =
            let one = refused_leaves (restart_step source) m.core m.world number first second v in
            let all = refused_leaves run m.core m.world number first second v in
            (ap (λ (r : Result). outcome_of r.answer) (all ∙ sym one), λ e. all ∙ sym one)

    makes : verdict (restart_step_rows m.core m.world source) ≡ accepted
        → RunMakes m source most (first_of (result m run).answer) (after m (call run))
    makes v =
        subst (λ (r : Result). RunMakes m source most (first_of r.answer) (record { core = r.core; world = r.world }))
        (sym (storeless_gives run m.core m.world refl v)) (task_makes most m source)
