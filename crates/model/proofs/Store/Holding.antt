-- What holds between any two events, and how a call that is refused, taken or cut keeps it.
use mathlib.Core.Path.{◌≡◌, refl, sym, ap, ◌∙◌}
use mathlib.Core.List.{List, []}
use mathlib.Core.Bool.{true, false, cond}
use Prim.Native.Nat.{ℕ, ◌<◌}
use Rattle.model.specs.declared.Stage.{Stage}
use Rattle.model.specs.declared.Stage.TheVariants.{Shut, Replaying, Open, Copying}
use Rattle.model.specs.declared.Core.{Core}
use Rattle.model.specs.Anchor.{sizes_on, start_on}
use Rattle.model.specs.Record.{Record}
use Rattle.model.specs.World.{World, perform, run, finishes}
use Rattle.model.specs.State.{new_core}
use Rattle.model.specs.Refusal.{Result, Task, verdict, accepted}
use Rattle.model.specs.Causes.{when_shut, when_replaying, when_serving, tail_in, retained_from}
use Rattle.model.specs.Image.{words_from}
use Rattle.model.specs.Call.{Call, rows_of, task_of, budget_of}
use Rattle.model.specs.Reference.{Reference, WriteSet, with_sets, taken, outcome_of, is_begin, after_taken, heard_of, hear}
use Rattle.model.specs.Machine.{Machine, call, result, outcome, after, referred, Run}
use Rattle.model.specs.History.{Told, also, put_by, told_by, told}
use Rattle.model.specs.LogPromise.{Stored, StepReads}
use Rattle.model.proofs.Booleans.{true_false}
use Rattle.model.proofs.Run.{finished_run}
use Rattle.model.proofs.Restart.Image.{SameDevices, image_devices}
use Rattle.model.proofs.Restart.Progress.{Progress}
use Rattle.model.proofs.Store.View.{Kept, Served}
use Rattle.model.proofs.Store.Crash.{stored_same, kept}
use Rattle.model.proofs.Store.Cases.{call_cases}

-- What the log of a disk holds of what was put, and how far the steps of a restart have come in it.
pub record Going (puts : Told) (c : Core) (w : World) (d : ℕ) : Type 0 where
  pub stored : Stored puts w d
  pub steps : StepReads c w d stored.stretch

-- A shut store has devices that restart to the committed contents, a replaying one too, and how far it got; an open one serves.
pub data Holding (puts : Told) (m : Machine) (r : Reference) : Type 0 where
  shut : m.core.stage ≡ Shut → Kept puts m.world r → r.write_sets ≡ [] → Holding puts m r
  replaying : Progress m.core m.world → Kept puts m.world r
      → ((d : ℕ) → d < (sizes_on m.world.anchor).disks → Going puts m.core m.world d) → r.write_sets ≡ [] → Holding puts m r
  serving : Served puts m.core m.world r → Holding puts m r

-- a restart goes on: the logs hold what they held, and the steps have come further in them
pub going_on : {puts : Told} {c now : Core} {v w : World} → SameDevices v w
    → ((d : ℕ) → d < (sizes_on w.anchor).disks → (l : List Record) → StepReads c w d l → StepReads now v d l)
    → ((d : ℕ) → d < (sizes_on w.anchor).disks → Going puts c w d) → (d : ℕ) → d < (sizes_on v.anchor).disks → Going puts now v d
unfolding stored_same tail_in retained_from words_from
going_on {v = v} {w = w} same further was d l =
    let inside = rw same.anchor at l in
    let start = ap (λ (a : List ℕ). start_on a d) same.anchor in
    let image = image_devices same in
    record {
      stored = stored_same (ap sizes_on same.anchor) start (rw same.logs) (rw (same.logs, start)) (rw (same.logs, start)) image (was d inside).stored;
      steps = further d inside (was d inside).stored.stretch (was d inside).steps;
    }

-- the committed contents do not hang on the write sets
pub kept_sets : {puts : Told} {w : World} {r : Reference} → Kept puts w r → (sets : List WriteSet) → Kept puts w (with_sets r sets)
kept_sets k sets = record { sizes = k.sizes; shaped = k.shaped; image = k.image; logs = k.logs; restartable = k.restartable }

-- whatever the stage, the devices restart to what is committed
pub holding_kept : {puts : Told} {m : Machine} {r : Reference} → Holding puts m r → Kept puts m.world r
holding_kept (shut s k n) = k
holding_kept (replaying p k l n) = k
holding_kept (serving g) = kept g.serving.safe _ g.serving.told

-- A restart under way.
pub record Restarting (puts : Told) (m : Machine) (r : Reference) : Type 0 where
  pub progress : Progress m.core m.world
  pub kept : Kept puts m.world r
  pub going : (d : ℕ) → d < (sizes_on m.world.anchor).disks → Going puts m.core m.world d
  pub none : r.write_sets ≡ []

-- the store as its stage says
module _ {puts : Told} {m : Machine} {r : Reference} where
  pub served : Holding puts m r → when_serving m.core.stage ≡ true → Served puts m.core m.world r
  served (shut s k n) e = true_false (sym (ap when_serving s) ∙ e) refl
  served (replaying p k l n) e = true_false (sym (ap when_serving p.stage) ∙ e) refl
  served (serving g) e = g

  pub stopped : Holding puts m r → when_shut m.core.stage ≡ true → Kept puts m.world r × (r.write_sets ≡ [])
  stopped (shut s k n) e = (k, n)
  stopped (replaying p k l n) e = true_false (sym (ap when_shut p.stage) ∙ e) refl
  stopped (serving g) e = apart m.core.stage e g.serving.stage
    where
      apart : (s : Stage) → when_shut s ≡ true → when_serving s ≡ true → Kept puts m.world r × (r.write_sets ≡ [])
      apart Shut a b = true_false b refl
      apart Replaying a b = true_false a refl
      apart Open a b = true_false a refl
      apart Copying a b = true_false a refl

  pub replayed : Holding puts m r → when_replaying m.core.stage ≡ true → Restarting puts m r
  replayed (shut s k n) e = true_false (sym (ap when_replaying s) ∙ e) refl
  replayed (replaying p k l n) e = record { progress = p; kept = k; going = l; none = n }
  replayed (serving g) e = apart m.core.stage e g.serving.stage
    where
      apart : (s : Stage) → when_replaying s ≡ true → when_serving s ≡ true → Restarting puts m r
      apart Shut a b = true_false a refl
      apart Replaying a b = true_false b refl
      apart Open a b = true_false a refl
      apart Copying a b = true_false a refl

-- A call keeps what holds.
abbrev pub CallKeeps : Call → Told → Machine → Reference → Type 0
CallKeeps k puts m r =
    Holding (told (record { machine = m; reference = r }) (call k) puts) (after m (call k)) (referred m (call k) r)

module _ (k : Call) (puts : Told) (m : Machine) (r : Reference) where
  abbrev task : Task
  task = task_of k m.core m.world

  abbrev pub x : Run
  x = record { machine = m; reference = r }

  -- the number that the reference hears of when the call is taken
  abbrev pub heard_number : ℕ
  heard_number = cond (is_begin k) task.value 0

  abbrev pub taken_machine : Machine
  taken_machine = record { core = task.core; world = perform task.actions m.world }

  pub call_keeps : Holding puts m r
      → (verdict (rows_of k m.core m.world) ≡ accepted → finishes (budget_of k) task.actions ≡ true
      → Holding (told_by taken k x puts) taken_machine (after_taken k heard_number r))
      → (verdict (rows_of k m.core m.world) ≡ accepted → finishes (budget_of k) task.actions ≡ false
      → Kept (also puts (put_by k x puts)) (run (budget_of k) task.actions m.world) r)
      → CallKeeps k puts m r
  unfolding result outcome hear new_core
  call_keeps h done cut =
      call_cases (λ (y : Result). Holding (told_by (outcome_of y.answer) k x puts) (record { core = y.core; world = y.world }) (hear (heard_of k m.core m.world y.answer) r))
      k m.core m.world
      (λ number first second v. h)
      (λ v f. rw (finished_run (budget_of k) task.actions m.world f) (done v f))
      (λ v f. shut refl (kept_sets (cut v f) []) refl)
