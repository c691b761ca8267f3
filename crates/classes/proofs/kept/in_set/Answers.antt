-- `classes::kept::in_set` meets its contract: by definition. Assumes nothing.
use mathlib.Core.Path.{refl}
use Rattle.model.specs.Classes.{in_set}
use Rattle.classes.proofs.kept.in_set.Goals as goal

pub returns : goal.returns
unfolding in_set
returns c = refl
