-- `classes::kept::classes_of` meets its contract: the three columns. Assumes nothing.
use Rattle.classes.proofs.Tables.{classes_made}
use Rattle.classes.proofs.kept.classes_of.Goals as goal

pub returns : goal.returns
returns c = classes_made _ c.column-lows.ensures c.column-highs.ensures c.column-sets.ensures
