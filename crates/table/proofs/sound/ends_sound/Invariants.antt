-- `table::sound::ends_sound` meets its contract: the ends passed lie in their logs. Assumes nothing.
use mathlib.Core.Bool.{true}
use mathlib.Core.Path.{◌≡◌}
use Rattle.model.specs.Below.{all_below}
use Rattle.table.specs.Parts.{end_within}
use Rattle.table.proofs.sound.ends_sound.Given as goal

abbrev pub invariant-loop-d : goal.invariant-loop-d
invariant-loop-d l = all_below (end_within l.logs l.ends) l.d ≡ true
