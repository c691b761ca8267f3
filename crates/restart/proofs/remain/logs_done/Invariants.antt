-- `restart::remain::logs_done` meets its contract: of the logs passed nothing remains. Assumes nothing.
use Prim.Native.Nat.{◌-◌}
use mathlib.Core.Path.{◌≡◌}
use mathlib.Core.Bool.{true}
use lib.Dec.{eqb}
use lib.ListN.{get_or}
use Rattle.model.specs.Below.{all_below}
use Rattle.restart.proofs.remain.logs_done.Given as goal

abbrev pub invariant-loop-d : goal.invariant-loop-d
invariant-loop-d l = all_below (λ i. eqb (get_or l.tails i 0 - get_or l.positions i 0) 0) l.d ≡ true
