-- `table::room::has_room` meets its contract: what is above the limit has no room. Assumes nothing.
use native.Mathlib.Omega.{arith}
use Rattle.table.proofs.HasRoom.{no_room}
use Rattle.table.proofs.room.has_room.Goals as goal

pub returns-then-tail-gt-LIMIT : goal.returns-then-tail-gt-LIMIT
returns-then-tail-gt-LIMIT c = no_room _ _ _ _ _ (omega arith)

pub returns-then-fill-gt-LIMIT : goal.returns-then-fill-gt-LIMIT
returns-then-fill-gt-LIMIT c = no_room _ _ _ _ _ (omega arith)

pub returns-then-reserved-gt-LIMIT : goal.returns-then-reserved-gt-LIMIT
returns-then-reserved-gt-LIMIT c = no_room _ _ _ _ _ (omega arith)

pub returns-then-end-gt-LIMIT : goal.returns-then-end-gt-LIMIT
returns-then-end-gt-LIMIT c = no_room _ _ _ _ _ (omega arith)

pub returns : goal.returns
returns c = c.fits_ring.ensures
