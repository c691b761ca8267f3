-- `table::room::idlest` meets its contract: the best of the disks passed. Assumes nothing.
use Prim.Native.Nat.{◌≤◌}
use mathlib.Core.Path.{◌≡◌}
use mathlib.Core.Bool.{◌&&◌}
use Rattle.model.specs.Classes.{in_set}
use Rattle.model.specs.Room.{has_room, load_of, idlest_below}
use Rattle.table.specs.Parts.{logs_of, sums_of, core_of}
use Rattle.table.proofs.room.idlest.Given as goal

abbrev pub invariant-loop-d : goal.invariant-loop-d
invariant-loop-d l = (l.best ≤ 8)
    × (l.best ≡ idlest_below (λ i. in_set l.set i && has_room (core_of l.disks l.ring (logs_of l.starts l.tails l.fills) (sums_of l.sums)) 2 i) (load_of (logs_of l.starts l.tails l.fills)) l.d)
