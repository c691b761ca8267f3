-- `commands::transactions::run_begin` meets its contract: the value is the transaction answered.
use Rattle.commands.specs.Meaning.{command_line}
use Rattle.commands.proofs.Showing.{shows_own}
use Rattle.commands.proofs.transactions.run_begin.Goals as goal

pub returns : goal.returns
unfolding command_line
returns c = shows_own _ _ _ _ _ _ _ c.begin-called.ensures.serves c.done_of.ensures.1 (rw c.value_of.ensures at c.done_of.ensures.0)
