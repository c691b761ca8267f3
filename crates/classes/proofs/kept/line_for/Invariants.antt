-- `classes::kept::line_for` meets its contract: no line before i covers the class. Assumes nothing.
use Prim.Native.Nat.{ℕ, ◌<◌}
use mathlib.Core.Path.{◌≡◌}
use mathlib.Core.Bool.{false}
use lib.ListN.{get_or}
use Rattle.model.specs.Below.{within}
use Rattle.classes.proofs.kept.line_for.Given as goal

abbrev pub invariant-loop-i : goal.invariant-loop-i
invariant-loop-i l = (k : ℕ) → k < l.i → within (get_or l.lows k 0) (get_or l.highs k 0) l.class ≡ false
