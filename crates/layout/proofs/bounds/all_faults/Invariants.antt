-- The loop's invariant: the count is 0 exactly where the entries passed are in bounds.
use Prim.Native.Nat.{◌≤◌}
use mathlib.Core.Path.{◌≡◌}
use lib.Dec.{eqb}
use Rattle.model.specs.Below.{all_below}
use Rattle.model.specs.Sizes.{entry_in_bounds}
use Rattle.layout.proofs.Laws.{entries_of}
use Rattle.layout.proofs.bounds.all_faults.Given as goal

abbrev pub invariant-loop-i : goal.invariant-loop-i
invariant-loop-i l = (l.faults ≤ l.i) × (eqb l.faults 0 ≡ all_below (entry_in_bounds (entries_of l.from l.slots l.widths)) l.i)
