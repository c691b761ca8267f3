-- `disk_log::scan::fate_from` meets its contract. The loop's invariant: the fate from p on is the fate from the start on. The measure is
-- what is left of the log.
use Prim.Native.Nat.{ℕ, ◌-◌}
use mathlib.Core.Path.{◌≡◌}
use Rattle.model.specs.declared.Sizes.{Sizes}
use Rattle.model.specs.Decode.{read_log}
use Rattle.model.specs.Scan.{scan, fate_in}
use Rattle.disk_log.specs.Reading.{PagesOf, LiesAt}
use Rattle.disk_log.proofs.scan.fate_from.Given as goal

abbrev pub invariant-loop-p : goal.invariant-loop-p
invariant-loop-p l = (s : Sizes) (disk : ℕ) → PagesOf s l.pages l.slots l.widths → LiesAt s disk l.extent.place l.extent.ring
    → fate_in l.number (scan s (read_log s l.logs disk l.extent.tail l.buffer) l.extent.end l.p)
    ≡ fate_in l.number (scan s (read_log s l.logs disk l.extent.tail l.buffer) l.extent.end l.from)

abbrev pub decreases-loop-p : goal.decreases-loop-p
decreases-loop-p l = l.extent.end - l.p
