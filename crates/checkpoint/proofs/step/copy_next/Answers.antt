-- `checkpoint::step::copy_next` meets its contract: the task is settled as its copy ran. Assumes nothing.
use native.Mathlib.Omega.{arith}
use Rattle.model.specs.World.{world_of}
use Rattle.model.specs.Checkpoint.{checkpoint_step_task}
use Rattle.checkpoint.proofs.Waiting.{step_settled}
use Rattle.checkpoint.proofs.step.copy_next.Goals as goal

pub returns : goal.returns
unfolding checkpoint_step_task
returns c =
    let x = c.args in
    λ anchor logs.
    step_settled x.core (world_of anchor x.pages.now x.backups.now logs x.work.now) (omega (arith, c.requires.next.page_below))
    (c.copy_page-whole.ensures anchor logs) c.settle.ensures
