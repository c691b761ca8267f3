-- `lines::partial::step` meets its contract.
use Rattle.lines.specs.After.{command_after}
use Rattle.lines.proofs.partial.step.Goals as goal

pub returns-in-Hopeless : goal.returns-in-Hopeless
unfolding command_after
returns-in-Hopeless c = λ more. rw c.in-Hopeless.is
