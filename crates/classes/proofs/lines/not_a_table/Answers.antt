-- `classes::lines::not_a_table` meets its contract: by definition. Assumes nothing.
use Rattle.std.proofs.Common.{arith}
use Rattle.std.proofs.lemmas.Bool.Decides.{nat_tests}
use Rattle.model.specs.Classes.{not_a_table}
use Rattle.classes.proofs.lines.not_a_table.Goals as goal
use Rattle.classes.proofs.lines.not_a_table.Goals.{then-len-ne0, else-len-ne0}

pub returns-then-len-eq0 : goal.returns-then-len-eq0
unfolding not_a_table
returns-then-len-eq0 c = elim c.if-len-ne0.branch [ then-len-ne0 w ↦ grind (arith, nat_tests, w) | else-len-ne0 w ↦ grind (arith, nat_tests, w) ]

pub returns-else-len-eq0 : goal.returns-else-len-eq0
unfolding not_a_table
returns-else-len-eq0 c = grind (arith, nat_tests, c.if-len-eq0.false)
