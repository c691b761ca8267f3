-- `replay::record::move_on` meets its contract: one position is set. Assumes nothing.
use Rattle.model.specs.State.{with_replay}
use Rattle.model.specs.Restart.{moved_to}
use Rattle.replay.proofs.record.move_on.Goals as goal

pub returns : goal.returns
unfolding moved_to with_replay
returns c = c.finish.ensures
