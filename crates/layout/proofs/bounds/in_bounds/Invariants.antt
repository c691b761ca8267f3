-- The loop's invariant: the entries passed are in bounds.
use mathlib.Core.Path.{◌≡◌}
use mathlib.Core.Bool.{true}
use Rattle.model.specs.Below.{all_below}
use Rattle.model.specs.Sizes.{entry_in_bounds}
use Rattle.layout.proofs.Laws.{entries_of}
use Rattle.layout.proofs.bounds.in_bounds.Given as goal

abbrev pub invariant-loop-i : goal.invariant-loop-i
invariant-loop-i l = all_below (entry_in_bounds (entries_of l.end l.slots l.widths)) l.i ≡ true
