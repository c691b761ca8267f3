-- `checkpoint::begin::marked` meets its contract: only the stage and the checkpoint change. Assumes nothing.
use Rattle.model.specs.Checkpoint.{checkpoint_begin_task}
use Rattle.checkpoint.proofs.begin.marked.Goals as goal

pub returns : goal.returns
unfolding checkpoint_begin_task
returns c = λ w. rw c.ends_of-ends.ensures
