-- `lines::partial::command_of` meets its contract: where the line ends.
use Rattle.lines.specs.After.{command_after}
use Rattle.lines.proofs.Rest.{name_last}
use Rattle.lines.proofs.partial.command_of.Goals as goal

pub returns-in-InName : goal.returns-in-InName
unfolding command_after
returns-in-InName c = rw (c.form_of.ensures, c.as_slice.ensures, c.in-InName.is) (name_last _)

pub returns-in-Hopeless : goal.returns-in-Hopeless
unfolding command_after
returns-in-Hopeless c = rw c.in-Hopeless.is
