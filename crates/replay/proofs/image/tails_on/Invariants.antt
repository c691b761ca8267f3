-- `replay::image::tails_on` meets its contract: the tails passed are read. Assumes nothing.
use mathlib.Core.Path.{◌≡◌}
use Rattle.model.specs.Causes.{tail_in}
use Rattle.model.specs.Checkpoint.{eight_below}
use Rattle.replay.proofs.image.tails_on.Given as goal

abbrev pub invariant-loop-d : goal.invariant-loop-d
invariant-loop-d l = l.tails ≡ eight_below l.d (tail_in l.sizes l.logs)
