-- `checkpoint::starts::new_starts` meets its contract: the disks passed have their new starts, the others 0. Assumes nothing.
use native.Mathlib.Omega.{arith}
use mathlib.Core.Path.{◌∙◌}
use Rattle.model.specs.Checkpoint.{new_start}
use Rattle.model.proofs.PerDisk.{eight_none, eight_more, eight_per_disk}
use Rattle.checkpoint.proofs.starts.new_starts.Goals as goal

pub loop-d-init : goal.loop-d-init
loop-d-init c = eight_none _

pub loop-d-preserved : goal.loop-d-preserved
loop-d-preserved c = rw c.loop-d.invariant (eight_more _ c.loop-d.d _ (omega arith) c.least_first.ensures)

pub returns : goal.returns
unfolding new_start
returns c = c.loop-d.invariant ∙ eight_per_disk _ _ _ (omega arith)
