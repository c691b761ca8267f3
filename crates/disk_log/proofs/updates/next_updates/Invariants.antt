-- `disk_log::updates::next_updates` meets its contract. The loop's invariant: the positions gathered and those from p on are those from the
-- start on. While fewer than n are gathered, one is still to be found. Assumes nothing.
use Prim.Native.Nat.{ℕ, ◌-◌, ◌≤◌}
use mathlib.Core.Path.{◌≡◌}
use mathlib.Core.List.{◌++◌}
use lib.ListN.{length, take}
use Rattle.model.specs.declared.Sizes.{Sizes}
use Rattle.model.specs.Decode.{read_log}
use Rattle.model.specs.Scan.{scan}
use Rattle.disk_log.specs.Reading.{LiesAt, positions_in}
use Rattle.disk_log.specs.Front.{InTurn}
use Rattle.disk_log.proofs.updates.next_updates.Given as goal

abbrev pub invariant-loop-count : goal.invariant-loop-count
invariant-loop-count l = InTurn l.extent.ring l.extent.tail l.p l.turn × (l.count ≤ l.n) × (length l.at ≡ 128)
    × ((s : Sizes) (disk : ℕ) → LiesAt s disk l.extent.place l.extent.ring
    → l.n ≤ length (positions_in l.number (scan s (read_log s l.logs disk l.extent.tail l.buffer) l.extent.end l.from))
    → positions_in l.number (scan s (read_log s l.logs disk l.extent.tail l.buffer) l.extent.end l.from)
    ≡ take l.count l.at ++ positions_in l.number (scan s (read_log s l.logs disk l.extent.tail l.buffer) l.extent.end l.p))

abbrev pub decreases-loop-count : goal.decreases-loop-count
decreases-loop-count l = l.extent.end - l.p
