-- `table::room::fits_ring` meets its contract: within the limit the ring decides, and the sums fit a word. Assumes nothing.
use native.Mathlib.Omega.{arith}
use Rattle.table.proofs.HasRoom.{no_room, room_by_ring}
use Rattle.table.proofs.room.fits_ring.Goals as goal

pub returns-then-end-reserved-gt-LIMIT : goal.returns-then-end-reserved-gt-LIMIT
returns-then-end-reserved-gt-LIMIT c = no_room _ _ _ _ _ (omega arith)

pub returns : goal.returns
returns c = rw c.saturating_sub-used.ensures (room_by_ring _ _ _ _ _ (omega arith))
