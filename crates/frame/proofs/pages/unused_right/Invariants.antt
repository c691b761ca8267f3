-- `frame::pages::unused_right` meets its contract: the entries passed are right. Assumes nothing.
use mathlib.Core.Bool.{true}
use mathlib.Core.Path.{◌≡◌}
use Rattle.model.specs.Below.{all_below}
use Rattle.frame.specs.Pages.{unused_at}
use Rattle.frame.proofs.pages.unused_right.Given as goal

abbrev pub invariant-loop-i : goal.invariant-loop-i
invariant-loop-i l = all_below (unused_at l.work l.from l.total) l.i ≡ true
