use mathlib.Core.Path.{sym, ◌∙◌}
use borrow.Author.Rules.{rules}
use Rattle.model.specs.Sizes.{counts_in_bounds}
use Rattle.model.proofs.Booleans.{both, in_range}
use Rattle.layout.proofs.Laws.{counts_out, all_entries}
use Rattle.layout.proofs.bounds.sizes_in_bounds.Goals as goal

pub returns-then-not-counts_in_bounds : goal.returns-then-not-counts_in_bounds
returns-then-not-counts_in_bounds c = counts_out _ (sym c.counts_in_bounds.ensures ∙ c.if-not-counts_in_bounds.true)

pub used_faults-used-requires : goal.used_faults-used-requires
unfolding counts_in_bounds
used_faults-used-requires c =
    let counts = sym c.counts_in_bounds.ensures ∙ c.if-not-counts_in_bounds.false in
    (in_range 1 64 _ (both _ _ (both _ _ counts).0).0).1

pub all_faults-requires : goal.all_faults-requires
unfolding counts_in_bounds
all_faults-requires c =
    let counts = sym c.counts_in_bounds.ensures ∙ c.if-not-counts_in_bounds.false in
    ((in_range 1 64 _ (both _ _ (both _ _ counts).0).0).1, c.used_faults-used.ensures.0, c.used_faults-used.ensures.1)

pub returns : goal.returns
returns c =
    let counts = sym c.counts_in_bounds.ensures ∙ c.if-not-counts_in_bounds.false in
    c.all_faults.ensures ∙ all_entries _ counts (search rules) (search rules)
