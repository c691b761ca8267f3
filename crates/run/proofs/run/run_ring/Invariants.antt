-- `run::run::run_ring` meets its contract. The loop keeps: the run goes on from here as it would have from the start, every remembered
-- fate is right from here on, and `at` is the index of p. The measure is the steps left.
use Prim.Native.Nat.{ℕ, ◌-◌, ◌%◌, ◌≤◌}
use mathlib.Core.Path.{◌≡◌}
use mathlib.Core.List.{List}
use lib.ListN.{length}
use Rattle.model.specs.Scan.{scan, fate_in}
use Rattle.model.specs.World.{world_of}
use Rattle.model.specs.Restart.{moved_to}
use Rattle.disk_log.specs.Ring.{read_ring}
use Rattle.run.specs.Run.{Remembers, Passes, Onward, DiskRing}
use Rattle.run.proofs.run.run_ring.Given as goal

abbrev pub invariant-loop-made : goal.invariant-loop-made
invariant-loop-made l = (l.p ≤ l.tail) × (l.at ≡ l.p % length l.ring) × (l.made ≤ l.most) × (length l.pages ≡ length l.initial.pages)
    × Remembers (λ n. fate_in n (scan l.core.sizes (read_ring l.ring) l.tail l.p)) l.fates.numbers l.fates.closed l.fates.used
    × ((anchor backups logs work : List ℕ) → DiskRing l.core.sizes logs l.disk l.ring → Passes l.core (world_of anchor l.initial.pages backups logs work)
    → Onward l.disk l.most l.core (world_of anchor l.initial.pages backups logs work) l.made (l.most - l.made) (moved_to l.core l.disk l.p) (world_of anchor l.pages backups logs work))

abbrev pub decreases-loop-made : goal.decreases-loop-made
decreases-loop-made l = l.most - l.made
