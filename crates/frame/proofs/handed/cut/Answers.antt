-- `frame::handed::cut` meets its contract: a new state. Assumes nothing.
use mathlib.Core.Path.{refl}
use Rattle.frame.proofs.handed.cut.Goals as goal

pub returns : goal.returns
returns c = rw c.new_carried.ensures refl
