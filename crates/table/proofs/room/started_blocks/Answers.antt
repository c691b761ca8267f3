-- `table::room::started_blocks` meets its contract: the library's division rounds up. Assumes nothing.
use Rattle.std.proofs.Common.{arith}
use Rattle.model.specs.Room.{started_blocks}
use Rattle.table.proofs.room.started_blocks.Goals as goal

pub returns : goal.returns
unfolding started_blocks
returns c = omega arith
