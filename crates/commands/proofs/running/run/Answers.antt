-- `commands::running::run` meets its contract: a command is run, and a line of any other form makes no call.
use Rattle.commands.specs.Meaning.{line_of}
use Rattle.commands.proofs.running.run.Goals as goal

pub returns-in-Some : goal.returns-in-Some
unfolding line_of
returns-in-Some c = rw c.in-Some.is c.run_command.ensures

pub returns-in-None : goal.returns-in-None
unfolding line_of
returns-in-None c = rw c.in-None.is
