-- `frame::replaying::positions_right` meets its contract: the disks passed are right. Assumes nothing.
use mathlib.Core.Bool.{true, and-false}
use mathlib.Core.Path.{◌≡◌, refl}
use native.Mathlib.Omega.{arith}
use borrow.Author.Tests.{le-leb, lt-leb}
use Rattle.model.proofs.Below.{all_none, all_more, all_stop}
use Rattle.frame.specs.Pages.{position_right}
use Rattle.frame.proofs.replaying.positions_right.Goals as goal

pub loop-d-init : goal.loop-d-init
loop-d-init c = all_none _

pub returns-then-tail-gt-LIMIT : goal.returns-then-tail-gt-LIMIT
returns-then-tail-gt-LIMIT c =
    let x = c.args in
    all_stop (position_right x.work.now x.tails) x.disks c.loop-d.d (omega arith) (rw (lt-leb _ _ c.if-tail-gt-LIMIT.true) refl)

pub returns-then-tail-work : goal.returns-then-tail-work
returns-then-tail-work c =
    let x = c.args in
    all_stop (position_right x.work.now x.tails) x.disks c.loop-d.d (omega arith) (rw (lt-leb _ _ c.if-tail-work.true, and-false) refl)

pub loop-d-preserved : goal.loop-d-preserved
loop-d-preserved c =
    let x = c.args in
    let passes : position_right x.work.now x.tails c.loop-d.d ≡ true = rw (le-leb _ _ c.if-tail-gt-LIMIT.false, le-leb _ _ c.if-tail-work.false) refl in
    all_more (position_right x.work.now x.tails) c.loop-d.d c.loop-d.invariant passes
