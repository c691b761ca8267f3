-- `replay::image::check_logs` meets its contract: the tails, then the records. Assumes nothing.
use mathlib.Core.Path.{sym}
use native.Mathlib.Omega.{arith}
use lib.ListN.{get_or}
use mathlib.Core.Path.{refl}
use Rattle.model.proofs.Bounds.{bounded}
use Rattle.disk_log.proofs.Ready.{checkable}
use Rattle.replay.proofs.Tails.{logs_tail, tail_limit, logs_fault, logs_right}
use Rattle.replay.proofs.image.check_logs.Goals as goal

pub wrong_tail-requires : goal.wrong_tail-requires
wrong_tail-requires c = (bounded _ c.requires.0).disks_max

pub returns-in-Some : goal.returns-in-Some
returns-in-Some c =
    logs_tail c.args.sizes (bounded _ c.requires.0).disks_max _ _ c.requires.2 c.in-Some.ensures.1 c.in-Some.ensures.0

pub check_disks-requires : goal.check_disks-requires
check_disks-requires c =
    let b = bounded _ c.requires.0 in
    checkable c.args.sizes b c.args.logs.now c.requires.1
    (tail_limit c.args.sizes b.disks_max (λ d. get_or c.args.starts d 0) c.args.logs.now c.requires.2 (sym c.in_default.ensures) (omega arith))

pub returns-in-Some-check_disks : goal.returns-in-Some-check_disks
returns-in-Some-check_disks c =
    logs_fault c.args.sizes (bounded _ c.requires.0).disks_max _ _ c.requires.2 (sym c.in_default.ensures) (omega arith)
    c.in-Some-check_disks.ensures refl

pub returns-in-None : goal.returns-in-None
returns-in-None c =
    logs_right c.args.sizes (bounded _ c.requires.0).disks_max _ _ c.requires.2 (sym c.in_default.ensures) (omega arith)
    c.in-None.ensures refl
