-- `hall::output::text_of` meets its contract.
use Rattle.hall.specs.Running.{text_of}
use Rattle.hall.proofs.output.text_of.Goals as goal

pub returns-in-Some-clause-text_after : goal.returns-in-Some-clause-text_after
unfolding text_of
returns-in-Some-clause-text_after c = rw c.in-Some.is c.put_line.ensures.out_after

pub returns-in-None-clause-text_after : goal.returns-in-None-clause-text_after
unfolding text_of
returns-in-None-clause-text_after c = rw c.in-None.is c.put_other.ensures.out_after
