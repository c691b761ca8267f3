-- `disk_log::read::extent_of` meets its contract.
use mathlib.Core.Path.{refl}
use Rattle.disk_log.specs.Reading.{extent_of}
use Rattle.disk_log.proofs.read.extent_of.Goals as goal

pub returns : goal.returns
unfolding extent_of
returns c = rw (c.disk_at.ensures.0 c.args.sizes refl, c.ring_of.ensures) refl
