-- `hall::console::feed` meets its contract: what is left of the piece, taken in from here, gives what the whole piece gives.
use mathlib.Core.Path.{◌≡◌}
use Prim.Native.Nat.{ℕ, ◌+◌, ◌*◌, ◌-◌, ◌≤◌}
use mathlib.Core.List.{List}
use lib.ListN.{length, drop}
use Rattle.model.specs.World.{world_of}
use Rattle.hall.specs.Running.{Program, fed}
use Rattle.hall.specs.Held.{Stands}
use Rattle.hall.proofs.console.feed.Given as goal

abbrev pub invariant-loop-at : goal.invariant-loop-at
invariant-loop-at l = ((l.at ≤ length l.bytes) × (l.c.fill + 84 * (length l.bytes - l.at) ≤ length l.initial.out))
    × ((handed : List ℕ) (p : Program) → Stands l.initial.c (world_of l.initial.anchor l.initial.pages l.initial.backups l.initial.logs l.initial.work) l.initial.out handed p
    → (q : Program) × Stands l.c (world_of l.anchor l.pages l.backups l.logs l.work) l.out handed q × (fed q (drop l.at l.bytes) ≡ fed p l.bytes))

abbrev pub decreases-loop-at : goal.decreases-loop-at
decreases-loop-at l = length l.bytes - l.at
