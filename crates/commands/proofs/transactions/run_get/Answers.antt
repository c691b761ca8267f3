-- `commands::transactions::run_get` meets its contract: the value is what was read.
use mathlib.Core.Path.{refl, ap}
use Rattle.std.specs.Prelude.{Some}
use Rattle.commands.specs.Meaning.{command_line}
use Rattle.commands.proofs.Showing.{shows}
use Rattle.commands.proofs.transactions.run_get.Goals as goal

pub returns : goal.returns
unfolding command_line
returns c = rw (← c.slot_word-word.ensures) (shows _ _ _ _ _ _ _ c.read_answer-answer.ensures refl _ (ap Some c.shown.ensures))
