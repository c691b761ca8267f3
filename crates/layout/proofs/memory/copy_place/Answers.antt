-- `layout::memory::copy_place` meets its contract: behind the buffers. Assumes nothing.
use native.Mathlib.Omega.{arith}
use Rattle.model.specs.Memory.{copy_at}
use Rattle.layout.proofs.memory.copy_place.Goals as goal

pub returns : goal.returns
unfolding copy_at
returns c = (λ s same. rw (same, ← c.buffer_place.ensures.0), omega arith)
