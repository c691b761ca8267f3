-- `layout::memory::owner_place` meets its contract: behind the copy numbers. Assumes nothing.
use Rattle.model.specs.Memory.{owner_at}
use Rattle.layout.proofs.memory.owner_place.Goals as goal

pub returns : goal.returns
unfolding owner_at
returns c = λ s same. rw (c.copy_place.ensures.0 s same)
