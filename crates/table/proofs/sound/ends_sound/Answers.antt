-- `table::sound::ends_sound` meets its contract: the ends passed lie in their logs. Assumes nothing.
use mathlib.Core.Path.{refl, sym, ◌∙◌}
use native.Mathlib.Omega.{arith}
use borrow.Author.Rules.{rules}
use Rattle.model.specs.Below.{all_below}
use Rattle.model.specs.State.{start_of, tail_of, fill_of, end_of}
use Rattle.table.specs.Parts.{end_within}
use Rattle.model.proofs.Below.{all_more, all_stop, all_done}
use Rattle.table.proofs.sound.ends_sound.Goals as goal

pub loop-d-init : goal.loop-d-init
unfolding all_below
loop-d-init c = refl

pub returns-then-not-covers : goal.returns-then-not-covers
unfolding end_within start_of tail_of fill_of end_of
returns-then-not-covers c = all_stop _ _ c.loop-d.d (omega arith) (sym c.covers.ensures ∙ c.if-not-covers.true)

pub loop-d-preserved : goal.loop-d-preserved
unfolding end_within start_of tail_of fill_of end_of
loop-d-preserved c = all_more _ _ c.loop-d.invariant (sym c.covers.ensures ∙ c.if-not-covers.false)

pub returns : goal.returns
returns c = all_done _ _ _ (search rules) (omega arith) c.loop-d.invariant
