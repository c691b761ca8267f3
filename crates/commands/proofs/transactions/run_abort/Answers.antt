-- `commands::transactions::run_abort` meets its contract: the line shows what the call gives.
use Rattle.commands.specs.Meaning.{command_line}
use Rattle.commands.proofs.Showing.{shows}
use Rattle.commands.proofs.transactions.run_abort.Goals as goal

pub returns : goal.returns
unfolding command_line
returns c = shows _ _ _ _ _ _ _ c.abort-called.ensures.serves c.done_of.ensures.1 0 c.done_of.ensures.0
