-- `run::fault::fate_in_ring` meets its contract. The loop's invariant: the fate from p on is the fate from the start on, and `at` is the
-- index of p. The measure is what is left of the log.
use Prim.Native.Nat.{◌-◌, ◌%◌}
use mathlib.Core.Path.{◌≡◌}
use lib.ListN.{length}
use Rattle.model.specs.declared.Sizes.{Sizes}
use Rattle.model.specs.Scan.{scan, fate_in}
use Rattle.disk_log.specs.Ring.{read_ring, EntriesOf}
use Rattle.run.proofs.fault.fate_in_ring.Given as goal

abbrev pub invariant-loop-p : goal.invariant-loop-p
invariant-loop-p l = (l.at ≡ l.p % length l.ring)
    × ((s : Sizes) → EntriesOf s l.slots l.widths
    → fate_in l.number (scan s (read_ring l.ring) l.tail l.p) ≡ fate_in l.number (scan s (read_ring l.ring) l.tail l.from))

abbrev pub decreases-loop-p : goal.decreases-loop-p
decreases-loop-p l = l.tail - l.p
