-- `table::sound::covers` meets its contract: by cases on the first test. Assumes nothing.
use Rattle.std.proofs.Common.{arith}
use Rattle.std.proofs.lemmas.Bool.Decides.{nat_tests}
use Rattle.model.specs.Below.{within}
use Rattle.table.proofs.sound.covers.Goals as goal

pub returns-then-start-position : goal.returns-then-start-position
unfolding within
returns-then-start-position c = grind (arith, nat_tests, c.saturating_sub.ensures)

pub returns-else-start-position : goal.returns-else-start-position
unfolding within
returns-else-start-position c = grind (arith, nat_tests)
