-- `classes::lines::wrong_line` meets its contract: no line before i is wrong. Assumes nothing.
use Prim.Native.Nat.{ℕ, ◌<◌}
use mathlib.Core.Path.{◌≡◌}
use mathlib.Core.Bool.{false}
use Rattle.model.specs.Classes.{low_at, high_at, set_at, line_wrong}
use Rattle.classes.proofs.lines.wrong_line.Given as goal

abbrev pub invariant-loop-i : goal.invariant-loop-i
invariant-loop-i l = (j : ℕ) → j < l.i → line_wrong l.disks (low_at l.lines j) (high_at l.lines j) (set_at l.lines j) ≡ false
