-- `frame::lent::check_lent` meets its contract. Assumes nothing.
use Rattle.frame.proofs.lent.check_lent.Goals as goal

pub returns : goal.returns
returns c = rw (← c.is_serving-serving.ensures) c.check_when.ensures
