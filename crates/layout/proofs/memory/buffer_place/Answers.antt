-- `layout::memory::buffer_place` meets its contract. Assumes nothing.
use mathlib.Core.Path.{refl}
use native.Mathlib.Omega.{arith}
use Rattle.model.specs.Memory.{buffer_at}
use Rattle.layout.proofs.memory.buffer_place.Goals as goal

pub returns : goal.returns
unfolding buffer_at
returns c = (refl, omega arith)
