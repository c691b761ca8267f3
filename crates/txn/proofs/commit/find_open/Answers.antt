-- `txn::commit::find_open` meets its contract: the first checks, then the transaction and the anchor. Assumes nothing.
use mathlib.Core.Path.{refl}
use native.Mathlib.Omega.{arith}
use borrow.Author.Rules.{rules}
use Rattle.model.specs.World.{world_of}
use Rattle.frame.proofs.FirstChecks.{lent_ready}
use Rattle.frame.proofs.Refusals.{passed_on}
use Rattle.txn.proofs.Committing.{unopened, opened}
use Rattle.txn.proofs.commit.find_open.Goals as goal

pub returns-in_err-check_lent : goal.returns-in_err-check_lent
returns-in_err-check_lent c =
    rw (passed_on _ _ c.from_residual.ensures.1) (unopened c.args.carried.now _ c.args.number c.in_err-check_lent.ensures)

pub find_entry-found-requires : goal.find_entry-found-requires
find_entry-found-requires c =
    let x = c.args in
    let w = world_of x.anchor.now x.pages.now x.backups.now x.logs.now x.work.now in
    let ready = lent_ready x.carried.now w c.in_ok-check_lent.ensures refl in
    (ready.counts.disks_max, omega (arith, ready.work), search rules)

pub returns : goal.returns
returns c =
    let x = c.args in
    let w = world_of x.anchor.now x.pages.now x.backups.now x.logs.now x.work.now in
    opened x.carried.now w x.number c.in_ok-check_lent.ensures (λ own. c.find_entry-found.ensures x.carried.now own refl refl) _ c.after_anchor.ensures
