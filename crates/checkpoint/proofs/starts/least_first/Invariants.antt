-- `checkpoint::starts::least_first` meets its contract: the least of the places passed. Assumes nothing.
use mathlib.Core.Path.{◌≡◌}
use Rattle.model.specs.Checkpoint.{least_first}
use Rattle.checkpoint.proofs.starts.least_first.Given as goal

abbrev pub invariant-loop-i : goal.invariant-loop-i
invariant-loop-i l = l.least ≡ least_first l.table l.disk l.remembered l.i
