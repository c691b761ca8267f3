-- `classes::lines::twice_covered` meets its contract: the test is of more than 1. Assumes nothing.
use Rattle.std.proofs.Common.{rules}
use lib.Dec.{ltb}
use Rattle.model.specs.Classes.{twice_covered}
use Rattle.classes.proofs.lines.twice_covered.Goals as goal

pub returns : goal.returns
unfolding twice_covered
returns c = c.first_class.ensures (ltb 1) (λ times b fits asked. search rules)
