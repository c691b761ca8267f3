-- `frame::pages::used_right` meets its contract: the pages passed are right, and the sum is that of their words, at most 128 each.
-- Assumes nothing.
use Prim.Native.Nat.{◌*◌, ◌≤◌}
use mathlib.Core.Bool.{true}
use mathlib.Core.Path.{◌≡◌}
use Rattle.model.specs.Below.{sum_below, all_below}
use Rattle.frame.specs.Pages.{words_at, used_at}
use Rattle.frame.proofs.pages.used_right.Given as goal

abbrev pub invariant-loop-i : goal.invariant-loop-i
invariant-loop-i l = (l.sum ≤ 128 * l.i) × (l.sum ≡ sum_below (words_at l.work) l.i) × (all_below (used_at l.work) l.i ≡ true)
