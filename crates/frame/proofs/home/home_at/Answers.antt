-- `frame::home::home_at` meets its contract: the fields. Assumes nothing.
use mathlib.Core.Path.{refl}
use Rattle.model.specs.Sizes.{ring_of}
use Rattle.frame.specs.Home.{home_of}
use Rattle.frame.proofs.home.home_at.Goals as goal

pub returns : goal.returns
unfolding home_of ring_of
returns c = λ s l ring tail fill. rw (← c.disk_at.ensures.0 s ring, ← c.buffer_place.ensures.0, ring, tail, fill) refl
