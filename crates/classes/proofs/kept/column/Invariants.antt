-- `classes::kept::column` meets its contract: the first i lines are read. Assumes nothing.
use Prim.Native.Nat.{ℕ, ◌+◌, ◌*◌, ◌<◌}
use mathlib.Core.Path.{◌≡◌}
use lib.ListN.{length, get_or}
use Rattle.classes.proofs.kept.column.Given as goal

abbrev pub invariant-loop-i : goal.invariant-loop-i
invariant-loop-i l = (length l.out ≡ 16) × ((k : ℕ) → k < l.i → get_or l.out k 0 ≡ get_or l.lines (3 * k + l.word) 0)
