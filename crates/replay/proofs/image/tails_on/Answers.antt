-- `replay::image::tails_on` meets its contract: the tails passed are read. Assumes nothing.
use mathlib.Core.Path.{refl, ◌∙◌}
use native.Mathlib.Omega.{arith}
use Rattle.model.specs.Sizes.{tail_word}
use Rattle.model.specs.Causes.{tail_in}
use Rattle.model.proofs.PerDisk.{eight_none, eight_more, eight_per_disk}
use Rattle.model.proofs.Ring.{disk_within}
use Rattle.replay.proofs.image.tails_on.Goals as goal

pub loop-d-init : goal.loop-d-init
loop-d-init c = eight_none _

pub bounds-logs-at : goal.bounds-logs-at
bounds-logs-at c =
    omega (arith, c.disk_at-at.ensures.0 c.args.sizes refl, disk_within c.args.sizes c.loop-d.d c.loop-d-test.true, c.requires.2)

pub loop-d-preserved : goal.loop-d-preserved
unfolding tail_in tail_word
loop-d-preserved c =
    rw c.loop-d.invariant (eight_more _ _ _ (omega arith) (rw (c.disk_at-at.ensures.0 c.args.sizes refl) refl))

pub returns : goal.returns
returns c = c.loop-d.invariant ∙ eight_per_disk c.args.sizes _ _ (omega arith)
