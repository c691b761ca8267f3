-- `hall::serving::serve` meets its contract: some of the input is taken in.
use mathlib.Core.Path.{◌≡◌}
use mathlib.Core.List.{List}
use Prim.Native.Nat.{ℕ}
use Rattle.model.specs.World.{world_of}
use Rattle.hall.specs.Running.{Program, fed}
use Rattle.hall.specs.Held.{Stands}
use Rattle.hall.proofs.serving.serve.Given as goal

abbrev pub invariant-loop-turn : goal.invariant-loop-turn
invariant-loop-turn l = (l.c.fill ≡ 0)
    × ((p : Program) → Stands l.initial.c (world_of l.initial.anchor l.initial.pages l.initial.backups l.initial.logs l.initial.work) l.initial.out p.text p
    → (input : List ℕ) × Stands l.c (world_of l.anchor l.pages l.backups l.logs l.work) l.out (fed p input).text (fed p input))
