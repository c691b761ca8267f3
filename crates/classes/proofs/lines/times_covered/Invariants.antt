-- `classes::lines::times_covered` meets its contract: the sum over the lines before i. Assumes nothing.
use Prim.Native.Nat.{◌≤◌}
use mathlib.Core.Path.{◌≡◌}
use mathlib.Core.Bool.{cond}
use Rattle.model.specs.Below.{within, sum_below}
use Rattle.model.specs.Classes.{low_at, high_at}
use Rattle.classes.proofs.lines.times_covered.Given as goal

abbrev pub invariant-loop-i : goal.invariant-loop-i
invariant-loop-i l = (l.times ≤ l.i) × (l.times ≡ sum_below (λ j. cond (within (low_at l.lines j) (high_at l.lines j) l.class) 1 0) l.i)
