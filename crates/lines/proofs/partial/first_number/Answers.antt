-- `lines::partial::first_number` meets its contract.
use Rattle.lines.specs.After.{command_after}
use Rattle.lines.proofs.Rest.{name_ends}
use Rattle.lines.proofs.partial.first_number.Goals as goal

pub returns : goal.returns
unfolding command_after
returns c = λ more. name_ends _ _ more c.none.ensures
