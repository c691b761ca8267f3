-- `checkpoint::ends::ends_of` meets its contract: the disks passed have their ends, the others 0. Assumes nothing.
use Prim.Native.Nat.{◌≤◌}
use mathlib.Core.Path.{◌≡◌}
use Rattle.model.specs.State.{end_of}
use Rattle.model.specs.Checkpoint.{eight_below}
use Rattle.checkpoint.proofs.ends.ends_of.Given as goal

abbrev pub invariant-loop-d : goal.invariant-loop-d
invariant-loop-d l = (l.d-end ≤ 8) × (l.ends ≡ eight_below l.d (end_of l.logs))
