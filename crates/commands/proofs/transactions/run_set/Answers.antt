-- `commands::transactions::run_set` meets its contract: the value is what was read before, XOR the value set.
use Rattle.commands.specs.Meaning.{command_line}
use Rattle.commands.proofs.Showing.{shows_difference}
use Rattle.commands.proofs.transactions.run_set.Goals as goal

pub returns : goal.returns
unfolding command_line
returns c =
    shows_difference _ _ _ _ _ _ _ c.update-called.ensures.serves c.done_of.ensures.1 _ c.slot_word-before.ensures c.done_of.ensures.0
