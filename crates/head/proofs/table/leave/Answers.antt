-- `head::table::leave` meets its contract: by definition. Assumes nothing.
use mathlib.Core.Path.{refl}
use Rattle.model.specs.Fields.{put_words}
use Rattle.head.proofs.table.leave.Goals as goal

pub returns : goal.returns
unfolding put_words
returns c = refl
