-- `classes::lines::covers` meets its contract: the library's test of a range, in numbers. Assumes nothing.
use Rattle.std.proofs.Common.{arith}
use Rattle.std.proofs.lemmas.Bool.Decides.{nat_tests}
use Rattle.model.specs.Below.{within}
use Rattle.classes.proofs.lines.covers.Goals as goal

pub returns : goal.returns
unfolding within
returns c =
    let told = rw (c.new.ensures.start, c.new.ensures.end, c.new.ensures.exhausted) at c.contains.ensures.value in
    grind (arith, nat_tests, told)
