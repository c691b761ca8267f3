-- `classes::lines::uncovered_class` meets its contract: the test is of 0. Assumes nothing.
use Rattle.std.proofs.Common.{rules}
use lib.Dec.{eqb}
use Rattle.model.specs.Classes.{uncovered_class}
use Rattle.classes.proofs.lines.uncovered_class.Goals as goal

pub returns : goal.returns
unfolding uncovered_class
returns c = c.first_class.ensures (λ times. eqb times 0) (λ times b fits asked. search rules)
