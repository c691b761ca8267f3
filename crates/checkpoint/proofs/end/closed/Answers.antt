-- `checkpoint::end::closed` meets its contract: the tails are the ends. Assumes nothing.
use Rattle.model.specs.Checkpoint.{checkpoint_end_task}
use Rattle.checkpoint.proofs.end.closed.Goals as goal

pub returns : goal.returns
unfolding checkpoint_end_task
returns c = λ w. rw (c.ends_of-tails.ensures, c.no_checkpoint.ensures, c.requires.2)
