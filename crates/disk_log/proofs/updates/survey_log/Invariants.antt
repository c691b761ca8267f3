-- `disk_log::updates::survey_log` meets its contract. The loop's invariant: what is counted and noted and what is found from p on is what is
-- found from the start on; an update has four words or more. Assumes nothing.
use Prim.Native.Nat.{◌+◌, ◌-◌, ◌*◌, ◌≤◌}
use mathlib.Core.Path.{◌≡◌}
use lib.ListN.{length}
use Rattle.model.specs.declared.Sizes.{Sizes}
use Rattle.model.specs.Decode.{read_log}
use Rattle.model.specs.Scan.{ring_then_buffer}
use Rattle.disk_log.specs.Reading.{LiesAt}
use Rattle.disk_log.specs.Ring.{EntriesOf}
use Rattle.disk_log.specs.Front.{InTurn}
use Rattle.disk_log.proofs.Surveying.{Surveying}
use Rattle.disk_log.proofs.updates.survey_log.Given as goal

abbrev pub invariant-loop-p : goal.invariant-loop-p
invariant-loop-p l = InTurn l.extent.ring l.extent.tail l.p l.turn × (l.from + 4 * l.count ≤ l.p) × (l.words ≤ l.p) × (length l.notes ≡ 128)
    × ((s : Sizes) → LiesAt s l.disk l.extent.place l.extent.ring → EntriesOf s l.slots l.widths
    → Surveying l.number (ring_then_buffer s (read_log s l.logs l.disk l.extent.tail l.buffer) l.extent.tail l.extent.end) l.from l.p l.count l.words l.notes)
    × (length l.slots ≡ 64) × (length l.widths ≡ 64)

abbrev pub decreases-loop-p : goal.decreases-loop-p
decreases-loop-p l = l.extent.end - l.p
