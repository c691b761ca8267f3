-- `layout::bounds::counts_in_bounds` meets its contract: one test after the other. Assumes nothing.
use Rattle.std.proofs.Common.{rules}
use Rattle.model.specs.Sizes.{counts_in_bounds}
use Rattle.layout.proofs.bounds.counts_in_bounds.Goals as goal

pub returns-then-is_within-2 : goal.returns-then-is_within-2
unfolding counts_in_bounds
returns-then-is_within-2 c = search rules

pub returns-else-is_within-2 : goal.returns-else-is_within-2
unfolding counts_in_bounds
returns-else-is_within-2 c = search rules
