-- The loop's invariant: the sum is that of the pages passed, each below 2^16.
use mathlib.Core.Path.{◌≡◌}
use native.Mathlib.Omega.{arith}
use borrow.Author.Rules.{rules}
use Rattle.model.specs.Below.{sum_below}
use Rattle.model.specs.Sizes.{slots_in, width_in, page_words, page_base}
use Rattle.model.proofs.Below.{sum_step}
use Rattle.layout.proofs.places.page_base.Goals as goal

pub loop-i-init : goal.loop-i-init
unfolding sum_below
loop-i-init c = search rules

pub loop-i-preserved : goal.loop-i-preserved
loop-i-preserved c =
    (omega arith, rw (sum_step, c.words_in_slots-words.ensures, c.loop-i.invariant.1))

pub returns : goal.returns
unfolding page_base page_words slots_in width_in
returns c =
    let last : c.loop-i.i ≡ c.args.page = omega arith in
    (rw (← last) c.loop-i.invariant.1, omega arith)
