-- `frame::handed::new_carried` meets its contract: field by field. Assumes nothing.
use mathlib.Core.Path.{refl}
use Rattle.model.specs.State.{new_core}
use Rattle.frame.proofs.handed.new_carried.Goals as goal

pub returns : goal.returns
unfolding new_core
returns c = rw c.no_classes.ensures refl
