-- `frame::replaying::positions_right` meets its contract: the disks passed are right. Assumes nothing.
use mathlib.Core.Bool.{true}
use mathlib.Core.Path.{◌≡◌}
use Rattle.model.specs.Below.{all_below}
use Rattle.frame.specs.Pages.{position_right}
use Rattle.frame.proofs.replaying.positions_right.Given as goal

abbrev pub invariant-loop-d : goal.invariant-loop-d
invariant-loop-d l = all_below (position_right l.work l.tails) l.d ≡ true
