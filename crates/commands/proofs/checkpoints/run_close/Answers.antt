-- `commands::checkpoints::run_close` meets its contract: the line shows what the call gives.
use Rattle.commands.specs.Meaning.{command_line}
use Rattle.commands.proofs.Showing.{shows}
use Rattle.commands.proofs.checkpoints.run_close.Goals as goal

pub returns : goal.returns
unfolding command_line
returns c = shows _ _ _ _ _ _ _ c.checkpoint_end-called.ensures.serves c.done_of.ensures.1 0 c.done_of.ensures.0
