-- `layout::disks::ring_of` meets its contract.
use mathlib.Core.Path.{refl}
use Rattle.model.specs.Sizes.{ring_of}
use Rattle.layout.proofs.disks.ring_of.Goals as goal

pub returns : goal.returns
unfolding ring_of
returns c = refl
