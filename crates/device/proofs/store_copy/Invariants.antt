-- `device::store_copy` meets its contract: after i turns the first i words are stored, and the budget is less by i. Assumes nothing.
use mathlib.Core.Path.{◌≡◌}
use Prim.Native.Nat.{◌+◌}
use lib.Seq.{sets}
use Rattle.model.specs.Word.{part}
use Rattle.device.proofs.store_copy.Given as goal

abbrev pub invariant-loop-i : goal.invariant-loop-i
invariant-loop-i l = (l.initial.budget ≡ l.i + l.budget) × (l.device ≡ sets l.initial.device l.at (part l.from l.i l.source))
