-- `run::run::run_backup` meets its contract. The loop keeps: the run goes on from here as it would have from the start.
use Prim.Native.Nat.{ℕ, ◌+◌, ◌-◌}
use mathlib.Core.Path.{◌≡◌}
use mathlib.Core.List.{List}
use lib.ListN.{length}
use Rattle.model.specs.World.{world_of}
use Rattle.run.specs.Run.{Passes, Onward}
use Rattle.run.proofs.Backups.{page_at}
use Rattle.run.proofs.run.run_backup.Given as goal

abbrev pub invariant-loop-made : goal.invariant-loop-made
invariant-loop-made l = (length l.pages ≡ length l.initial.pages)
    × ((anchor logs work : List ℕ) → Passes l.core (world_of anchor l.initial.pages l.backups logs work)
    → Onward l.core.sizes.disks l.most l.core (world_of anchor l.initial.pages l.backups logs work) l.made (l.most - l.made) (page_at l.core (l.core.replay.page + l.made)) (world_of anchor l.pages l.backups logs work))
