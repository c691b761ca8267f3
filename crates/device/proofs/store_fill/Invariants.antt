-- `device::store_fill` meets its contract: after i turns the value is stored i times, and the budget is less by i. Assumes nothing.
use mathlib.Core.Path.{◌≡◌}
use Prim.Native.Nat.{◌+◌}
use lib.ListN.{replicate}
use lib.Seq.{sets}
use Rattle.device.proofs.store_fill.Given as goal

abbrev pub invariant-loop-i : goal.invariant-loop-i
invariant-loop-i l = (l.initial.budget ≡ l.i + l.budget) × (l.device ≡ sets l.initial.device l.at (replicate l.i l.value))
