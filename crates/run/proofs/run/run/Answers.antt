-- `run::run::run` meets its contract: the first rows, and then by the source. Assumes nothing.
use mathlib.Core.Path.{refl}
use native.Mathlib.Omega.{arith}
use Rattle.model.specs.Restart.{restart_step_rows}
use Rattle.model.specs.Call.{restart_run}
use Rattle.frame.proofs.Given.{common_passed, given_first}
use Rattle.replay.proofs.Facts.{replays, slices, on_log}
use Rattle.run.proofs.Facts.{passes}
use Rattle.replay.proofs.Stepping.{step_missing}
use Rattle.run.proofs.Onward.{run_refused, call_given}
use Rattle.frame.proofs.Refusals.{numbered}
use Rattle.run.proofs.run.run.Goals as goal

pub returns-in-Err : goal.returns-in-Err
unfolding restart_step_rows
returns-in-Err c = given_first c.in-Err.ensures (restart_run _ _) refl (numbered _) c.refuse.ensures

pub run_log-requires : goal.run_log-requires
run_log-requires c = on_log (common_passed c.in_default.ensures refl) c.if-source-disks.true

pub returns-then-source-disks : goal.returns-then-source-disks
returns-then-source-disks c =
    let pass = passes (common_passed c.in_default.ensures refl) in
    call_given _ _ _ _ _ _ pass (c.run_log.ensures _ _ _ pass)

pub run_backup-requires : goal.run_backup-requires
run_backup-requires c =
    let passed = common_passed c.in_default.ensures refl in
    (replays passed, (slices passed).pages, (slices passed).backups)

pub returns-then-source-disks-2 : goal.returns-then-source-disks-2
returns-then-source-disks-2 c =
    let pass = passes (common_passed c.in_default.ensures refl) in
    rw c.if-source-disks-2.true (call_given _ _ _ _ _ _ pass (c.run_backup.ensures _ _ _ pass))

pub returns : goal.returns
returns c =
    rw c.refuse-2.ensures
    (call_given _ _ _ _ _ _ (passes (common_passed c.in_default.ensures refl))
    (run_refused _ _ _ _ 8 0 0 (step_missing _ _ _ (omega (arith, c.if-source-disks.false, c.if-source-disks-2.false)))))
