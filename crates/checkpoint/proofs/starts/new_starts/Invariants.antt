-- `checkpoint::starts::new_starts` meets its contract: the disks passed have their new starts, the others 0. Assumes nothing.
use mathlib.Core.Path.{◌≡◌}
use lib.ListN.{get_or}
use Rattle.model.specs.State.{places}
use Rattle.model.specs.Checkpoint.{eight_below, least_first}
use Rattle.checkpoint.proofs.starts.new_starts.Given as goal

abbrev pub invariant-loop-d : goal.invariant-loop-d
invariant-loop-d l = l.starts ≡ eight_below l.d (λ i. least_first l.table i (get_or l.checkpoint.ends i 0) places)
