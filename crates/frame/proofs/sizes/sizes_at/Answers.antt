-- `frame::sizes::sizes_at` meets its contract: two lists of bytes. Assumes nothing.
use mathlib.Core.Path.{refl}
use Rattle.frame.specs.Sizes.{sizes_at}
use Rattle.frame.proofs.sizes.sizes_at.Goals as goal

pub returns : goal.returns
unfolding sizes_at
returns c = rw (c.entries_at.ensures, c.entries_at-2.ensures) refl
