-- `abort::abort::find_target` meets its contract: the first checks, then the transaction and the anchor. Assumes nothing.
use mathlib.Core.Path.{refl}
use native.Mathlib.Omega.{arith}
use Rattle.frame.proofs.Refusals.{passed_on}
use Rattle.model.specs.World.{world_of}
use Rattle.frame.proofs.FirstChecks.{lent_ready, own_ready}
use Rattle.abort.proofs.Aborts.{unreached, reached}
use Rattle.abort.proofs.abort.find_target.Goals as goal

pub returns-in_err-check_lent : goal.returns-in_err-check_lent
returns-in_err-check_lent c =
    rw (passed_on _ _ c.from_residual.ensures.1) (unreached c.args.carried.now _ c.args.number c.in_err-check_lent.ensures)

pub find_scope-found-requires : goal.find_scope-found-requires
find_scope-found-requires c =
    let x = c.args in
    let w = world_of x.anchor.now x.pages.now x.backups.now x.logs.now x.work.now in
    let ready = lent_ready x.carried.now w c.in_ok-check_lent.ensures refl in
    (own_ready x.carried.now w ready, ready.counts.disks_max, omega (arith, ready.work))

pub returns : goal.returns
returns c =
    let x = c.args in
    let w = world_of x.anchor.now x.pages.now x.backups.now x.logs.now x.work.now in
    reached x.carried.now w x.number c.in_ok-check_lent.ensures c.find_scope-found.ensures _ c.after_anchor.ensures
