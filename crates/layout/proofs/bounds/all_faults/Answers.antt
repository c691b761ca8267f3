-- The loop's invariant: the count is 0 exactly where the entries passed are in bounds.
use mathlib.Core.Path.{◌≡◌}
use native.Mathlib.Omega.{arith}
use borrow.Author.Rules.{rules}
use borrow.Author.Tests.{le-ltb}
use Rattle.model.specs.Below.{all_below}
use Rattle.model.specs.Sizes.{slots_in, width_in, page_words, used_entry, unused_entry, entry_in_bounds}
use Rattle.layout.proofs.Laws.{entries_of}
use Rattle.layout.proofs.Faults.{count_more}
use Rattle.layout.proofs.bounds.all_faults.Goals as goal

pub loop-i-init : goal.loop-i-init
unfolding all_below
loop-i-init c = search rules

pub loop-i-preserved : goal.loop-i-preserved
unfolding entry_in_bounds used_entry unused_entry page_words slots_in width_in
loop-i-preserved c =
    let i = c.loop-i.i in
    let given = c.args in
    let entry = entry_in_bounds (entries_of given.from given.slots.now given.widths.now) in
    (omega arith, count_more entry i c.loop-i.faults c.unused_fault-faults.result (rw (le-ltb i given.from (omega arith)) c.unused_fault-faults.ensures.1) c.loop-i.invariant.1)

pub returns : goal.returns
returns c =
    let last : c.loop-i.i ≡ 64 = omega arith in
    rw last at c.loop-i.invariant.1
