-- `abort::undo::undo_all` meets its contract. The loop's invariant: what takes back the first 128 * k updates takes back all, and
-- their bits with those counted are the bits of all. Assumes nothing.
use Prim.Native.Nat.{◌+◌, ◌*◌, ◌≤◌}
use lib.ListN.{take}
use Rattle.model.specs.Scan.{scan}
use Rattle.model.specs.State.{end_of}
use Rattle.disk_log.specs.Reading.{positions_in}
use Rattle.abort.specs.Undo.{only_log, reader}
use Rattle.abort.proofs.Pending.{Pending, Counted}
use Rattle.abort.proofs.undo.undo_all.Given as goal

abbrev pub invariant-loop-k : goal.invariant-loop-k
invariant-loop-k l = Pending l.sizes l.disk l.number (only_log l.disk l.initial.after) l.initial.pages l.initial.logs l.initial.work l.initial.budget
    (positions_in l.number (scan l.sizes (reader l.sizes (only_log l.disk l.initial.after) l.disk l.initial.logs l.initial.work) (end_of (only_log l.disk l.initial.after) l.disk) l.notes.from)) (only_log l.disk l.after) l.pages l.logs l.work l.budget
    (take (128 * l.k) (positions_in l.number (scan l.sizes (reader l.sizes (only_log l.disk l.initial.after) l.disk l.initial.logs l.initial.work) (end_of (only_log l.disk l.initial.after) l.disk) l.notes.from)))
    × Counted (reader l.sizes (only_log l.disk l.initial.after) l.disk l.initial.logs l.initial.work) (positions_in l.number (scan l.sizes (reader l.sizes (only_log l.disk l.initial.after) l.disk l.initial.logs l.initial.work) (end_of (only_log l.disk l.initial.after) l.disk) l.notes.from)) l.ones
    (take (128 * l.k) (positions_in l.number (scan l.sizes (reader l.sizes (only_log l.disk l.initial.after) l.disk l.initial.logs l.initial.work) (end_of (only_log l.disk l.initial.after) l.disk) l.notes.from)))
    × (l.ones + 262144 * l.k ≤ 33554432)
