-- `disk_log::scan::check_disks` meets its contract. Both loops keep: nothing malformed was met, and what is found from here on is what
-- is found from disk 0 on. The measures are the disks and the words left.
use Prim.Native.Nat.{◌+◌, ◌-◌}
use mathlib.Core.Path.{◌≡◌}
use lib.ListN.{get_or}
use Rattle.model.specs.Scan.{scan, fault_in}
use Rattle.model.specs.Causes.{fault_from}
use Rattle.disk_log.specs.Ring.{read_ring}
use Rattle.disk_log.proofs.scan.check_disks.Given as goal

abbrev pub invariant-loop-p : goal.invariant-loop-p
invariant-loop-p l =
    fault_in l.d (scan l.sizes (read_ring l.ring) l.tail l.p) (fault_from l.sizes (λ e. get_or l.starts e 0) l.logs (l.disks - (l.d + 1)) (l.d + 1))
    ≡ fault_from l.sizes (λ e. get_or l.starts e 0) l.logs l.disks 0

abbrev pub decreases-loop-p : goal.decreases-loop-p
decreases-loop-p l = l.tail - l.p

abbrev pub invariant-loop-d : goal.invariant-loop-d
invariant-loop-d l =
    fault_from l.sizes (λ e. get_or l.starts e 0) l.logs (l.disks - l.d) l.d ≡ fault_from l.sizes (λ e. get_or l.starts e 0) l.logs l.disks 0
