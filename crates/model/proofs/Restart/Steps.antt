-- Every restart step keeps the progress, from whichever source.
use mathlib.Core.Path.{◌≡◌, refl, ap, ◌∙◌}
use mathlib.Core.Bool.{Bool, true, false, cond}
use Prim.Native.Nat.{ℕ, ◌-◌, ◌≤◌, ◌<◌}
use native.Mathlib.Omega.{arith}
use lib.Dec.{ltb}
use borrow.Author.Tests.{ltb-true, ltb-false, eqb-false, lt-ltb, le-ltb, eq-eqb}
use Rattle.model.specs.declared.Core.{Core}
use Rattle.model.specs.World.{World, perform}
use Rattle.model.specs.State.{tail_of}
use Rattle.model.specs.Refusal.{verdict, accepted}
use Rattle.model.specs.Causes.{source_missing}
use Rattle.model.specs.Restart.{position_of, remaining, next_record, backup_step, record_step, restart_step_rows, restart_step_task}
use Rattle.model.specs.Reference.{taken, outcome_of}
use Rattle.model.specs.Call.{restart_step, result_of}
use Rattle.model.proofs.Storeless.{nothing_stored}
use Rattle.model.proofs.Restart.Image.{SameDevices, memory_devices}
use Rattle.model.proofs.Restart.Taken.{taken_call}
use Rattle.model.proofs.Restart.Progress.{Progress}
use Rattle.model.proofs.Restart.LogStep.{record_progress}
use Rattle.model.proofs.Restart.BackupStep.{backup_progress}
use Rattle.model.proofs.Verdict.{row_passed}

-- what remains of a log, and of the backup
pub remaining_log : (c : Core) (d : ℕ) → d < c.sizes.disks → remaining c d ≡ tail_of c.logs d - position_of c d
unfolding remaining
remaining_log c d h = rw (lt-ltb d c.sizes.disks h)

pub remaining_backup : (c : Core) → remaining c c.sizes.disks ≡ c.sizes.pages - c.replay.page
unfolding remaining
remaining_backup c =
    rw (le-ltb c.sizes.disks c.sizes.disks (omega arith), eq-eqb c.sizes.disks c.sizes.disks refl)

-- a step that is accepted has a source with something left
pub step_source : (c : Core) (w : World) (source : ℕ) → verdict (restart_step_rows c w source) ≡ accepted
    → (source ≤ c.sizes.disks) × (remaining c source ≡ 0 → ⊥)
unfolding restart_step_rows source_missing
step_source c w source v =
    let a = (row_passed _ _ v).1 in
    let b = (row_passed _ _ a).1 in
    let d = (row_passed _ _ b).1 in
    let f = (row_passed _ _ d).1 in
    let g = row_passed _ _ f in
    let h = row_passed _ _ g.1 in
    (ltb-false _ _ g.0, eqb-false _ _ h.0)

pub task_progress : (c : Core) (w : World) (source : ℕ) → Progress c w → source ≤ c.sizes.disks → (remaining c source ≡ 0 → ⊥)
    → Progress (restart_step_task c w source).core (perform (restart_step_task c w source).actions w)
unfolding restart_step_task
task_progress c w source m h some = go (ltb source c.sizes.disks) refl
  where
    go : (b : Bool) → ltb source c.sizes.disks ≡ b
        → Progress (cond b (record_step c w source (next_record c w source)) (backup_step c w)).core
        (perform (cond b (record_step c w source (next_record c w source)) (backup_step c w)).actions w)
    go true e =
        let l = ltb-true source c.sizes.disks e in
        let r = remaining_log c source l in
        record_progress c w m source l (omega (arith, some)) (next_record c w source) refl
    go false e =
        let last : source ≡ c.sizes.disks = omega (arith, ltb-false source c.sizes.disks e) in
        let r = ap (remaining c) last ∙ remaining_backup c in
        backup_progress c w m (omega (arith, some))

-- A step that is taken keeps the progress and the devices.
pub step_progress : (c : Core) (w : World) (source : ℕ) → Progress c w
    → outcome_of (result_of (restart_step source) c w).answer ≡ taken
    → Progress (result_of (restart_step source) c w).core (result_of (restart_step source) c w).world
    × SameDevices (result_of (restart_step source) c w).world w
step_progress c w source m e =
    let t = taken_call (restart_step source) c w e in
    let found = step_source c w source t.accepted in
    rw (t.core, t.world) (
      task_progress c w source m found.0 found.1,
      memory_devices (restart_step_task c w source).actions w (nothing_stored (restart_step source) c w refl),
    )
