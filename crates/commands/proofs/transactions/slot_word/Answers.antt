-- `commands::transactions::slot_word` meets its contract.
use native.Mathlib.Omega.{arith}
use Rattle.commands.specs.Shown.{slot_word}
use Rattle.commands.proofs.Showing.{no_word}
use Rattle.commands.proofs.transactions.slot_word.Goals as goal

pub returns-in-empty : goal.returns-in-empty
unfolding slot_word
returns-in-empty c = no_word c.read-words.ensures (omega arith)

pub returns-in-len1-up : goal.returns-in-len1-up
unfolding slot_word
returns-in-len1-up c = rw (← c.read-words.ensures)
