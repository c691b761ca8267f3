-- `checkpoint::flush::flush_all` meets its contract: the disks passed are flushed whole. Assumes nothing.
use Prim.Native.Nat.{ℕ}
use mathlib.Core.Path.{◌≡◌}
use mathlib.Core.List.{List}
use mathlib.Core.Bool.{true}
use lib.ListN.{length}
use Rattle.model.specs.Below.{join_below}
use Rattle.model.specs.World.{world_of}
use Rattle.model.specs.Append.{flush}
use Rattle.device.specs.Ran.{Ran}
use Rattle.checkpoint.proofs.flush.flush_all.Given as goal

abbrev pub invariant-loop-d : goal.invariant-loop-d
invariant-loop-d l = (length l.logs ≡ length l.initial.logs)
    × ((anchor pages backups : List ℕ)
    → Ran l.initial.budget l.budget (join_below (flush l.sizes l.state l.work) l.d) (world_of anchor pages backups l.initial.logs l.work) (world_of anchor pages backups l.logs l.work) true)
