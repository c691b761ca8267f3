-- The loop's invariant: the entries passed are in bounds.
use mathlib.Core.Path.{◌≡◌, sym, ◌∙◌}
use native.Mathlib.Omega.{arith}
use borrow.Author.Rules.{rules}
use Rattle.model.specs.Sizes.{slots_in, width_in, page_words, used_entry, unused_entry, entry_in_bounds}
use Rattle.model.proofs.Below.{all_none, all_more}
use Rattle.layout.proofs.Laws.{counts_out, entry_out, all_in}
use Rattle.layout.proofs.bounds.in_bounds.Goals as goal

pub returns-then-not-counts_in_bounds : goal.returns-then-not-counts_in_bounds
returns-then-not-counts_in_bounds c = counts_out _ (sym c.counts_in_bounds.ensures ∙ c.if-not-counts_in_bounds.true)

pub loop-i-init : goal.loop-i-init
loop-i-init c = all_none _

pub returns-then-not-entry_in_bounds : goal.returns-then-not-entry_in_bounds
unfolding entry_in_bounds used_entry unused_entry page_words slots_in width_in
returns-then-not-entry_in_bounds c =
    let test = c.entry_in_bounds.ensures in
    entry_out _ c.loop-i.i (search rules) (sym test ∙ c.if-not-entry_in_bounds.true)

pub loop-i-preserved : goal.loop-i-preserved
unfolding entry_in_bounds used_entry unused_entry page_words slots_in width_in
loop-i-preserved c =
    let test = c.entry_in_bounds.ensures in
    all_more _ _ c.loop-i.invariant (sym test ∙ c.if-not-entry_in_bounds.false)

pub returns : goal.returns
returns c =
    let last : c.loop-i.i ≡ 64 = omega arith in
    all_in _ (sym c.counts_in_bounds.ensures ∙ c.if-not-counts_in_bounds.false) (search rules) (search rules)
    (rw last at c.loop-i.invariant)
