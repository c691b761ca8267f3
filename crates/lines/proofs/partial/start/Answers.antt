-- `lines::partial::start` meets its contract: with nothing read, all of the line is to come.
use Rattle.lines.specs.Line.{command_of}
use Rattle.lines.specs.After.{after_name, command_after}
use Rattle.lines.proofs.partial.start.Goals as goal

pub returns : goal.returns
unfolding command_after after_name command_of
returns c = λ line. rw c.none.ensures
