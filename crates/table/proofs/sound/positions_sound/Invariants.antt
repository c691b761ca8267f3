-- `table::sound::positions_sound` meets its contract: the positions passed are at or below their tails. Assumes nothing.
use mathlib.Core.Bool.{true}
use mathlib.Core.Path.{◌≡◌}
use Rattle.model.specs.Below.{all_below}
use Rattle.table.specs.Parts.{position_within}
use Rattle.table.proofs.sound.positions_sound.Given as goal

abbrev pub invariant-loop-d : goal.invariant-loop-d
invariant-loop-d l = all_below (position_within l.tails l.positions) l.d ≡ true
