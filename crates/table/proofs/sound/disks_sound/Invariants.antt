-- `table::sound::disks_sound` meets its contract: the disks passed are sound. Assumes nothing.
use mathlib.Core.Path.{◌≡◌}
use mathlib.Core.Bool.{true}
use Rattle.model.specs.Below.{all_below}
use Rattle.table.specs.Parts.{logs_of, log_sound}
use Rattle.table.proofs.sound.disks_sound.Given as goal

abbrev pub invariant-loop-d : goal.invariant-loop-d
invariant-loop-d l = all_below (log_sound l.ring (logs_of l.starts l.tails l.fills) l.kept l.sums) l.d ≡ true
