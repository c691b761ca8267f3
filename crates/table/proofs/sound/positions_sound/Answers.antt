-- `table::sound::positions_sound` meets its contract: the positions passed are at or below their tails. Assumes nothing.
use mathlib.Core.Path.{refl, sym, ◌∙◌}
use native.Mathlib.Omega.{arith}
use borrow.Author.Rules.{rules}
use Rattle.model.specs.Below.{all_below}
use Rattle.table.specs.Parts.{position_within}
use Rattle.model.proofs.Below.{all_more, all_stop, all_done}
use Rattle.table.proofs.sound.positions_sound.Goals as goal

pub loop-d-init : goal.loop-d-init
unfolding all_below
loop-d-init c = refl

pub returns-then-not-position_sound : goal.returns-then-not-position_sound
unfolding position_within
returns-then-not-position_sound c = all_stop _ _ c.loop-d.d (omega arith) (sym c.position_sound.ensures ∙ c.if-not-position_sound.true)

pub loop-d-preserved : goal.loop-d-preserved
unfolding position_within
loop-d-preserved c = all_more _ _ c.loop-d.invariant (sym c.position_sound.ensures ∙ c.if-not-position_sound.false)

pub returns : goal.returns
returns c = all_done _ _ _ (search rules) (omega arith) c.loop-d.invariant
