-- `format::tails::store_tails` meets its contract: the tails passed are stored. Assumes nothing.
use Prim.Native.Nat.{ℕ}
use mathlib.Core.Path.{◌≡◌}
use mathlib.Core.List.{List}
use mathlib.Core.Bool.{true}
use lib.ListN.{length}
use Rattle.model.specs.World.{world_of}
use Rattle.device.specs.Ran.{Ran}
use Rattle.format.proofs.Joined.{tails_to}
use Rattle.format.proofs.tails.store_tails.Given as goal

abbrev pub invariant-loop-d : goal.invariant-loop-d
invariant-loop-d l = (length l.logs ≡ length l.initial.logs)
    × ((anchor memory backups work : List ℕ)
    → Ran l.initial.budget l.budget (tails_to l.sizes l.d) (world_of anchor memory backups l.initial.logs work) (world_of anchor memory backups l.logs work) true)
