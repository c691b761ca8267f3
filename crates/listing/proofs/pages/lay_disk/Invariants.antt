-- `listing::pages::lay_disk` meets its contract. The loop keeps: what comes of the records from p on is what comes of all from the
-- start, and at most as many lines as words were passed. The measure is the words left.
use Prim.Native.Nat.{◌+◌, ◌-◌, ◌≤◌}
use mathlib.Core.Path.{◌≡◌}
use mathlib.Core.List.{List, ◌++◌}
use lib.ListN.{length}
use Rattle.model.specs.declared.Sizes.{Sizes}
use Rattle.model.specs.Scan.{scan}
use Rattle.model.specs.Listing.{Listed, listed_in}
use Rattle.disk_log.specs.Ring.{read_ring, EntriesOf}
use Rattle.listing.specs.Sheets.{finished}
use Rattle.listing.proofs.pages.lay_disk.Given as goal

abbrev pub invariant-loop-p : goal.invariant-loop-p
invariant-loop-p l = (l.start ≤ l.p) × (l.p - l.start ≤ l.tail - l.start) × (l.now.line ≤ l.initial.now.line + (l.p - l.start)) × (length l.out ≡ length l.initial.out)
    × ((s : Sizes) (more : List Listed) → EntriesOf s l.slots l.widths
    → finished l.first l.now (listed_in l.disk (scan s (read_ring l.ring) l.tail l.p) ++ more) l.out
    ≡ finished l.first l.initial.now (listed_in l.disk (scan s (read_ring l.ring) l.tail l.start) ++ more) l.initial.out)

abbrev pub decreases-loop-p : goal.decreases-loop-p
decreases-loop-p l = l.tail - l.p
