-- `abort::undo::undo_group` meets its contract. The loop's invariant: what takes back the updates that are left takes back all, and
-- their bits with those counted are the bits of all. Assumes nothing.
use mathlib.Core.Path.{◌≡◌}
use Prim.Native.Nat.{◌+◌, ◌*◌, ◌≤◌}
use lib.ListN.{length, take}
use Rattle.abort.specs.Undo.{only_log, reader}
use Rattle.abort.proofs.Pending.{Pending, Counted}
use Rattle.abort.proofs.undo.undo_group.Given as goal

abbrev pub invariant-loop-n : goal.invariant-loop-n
invariant-loop-n l = (length l.at ≡ 128)
    × Pending l.sizes l.disk l.number (only_log l.disk l.initial.after) l.initial.pages l.initial.logs l.initial.work l.initial.budget (take l.initial.n l.at) (only_log l.disk l.after) l.pages l.logs l.work l.budget (take l.n l.at)
    × Counted (reader l.sizes (only_log l.disk l.initial.after) l.disk l.initial.logs l.initial.work) (take l.initial.n l.at) l.ones (take l.n l.at) × (l.ones + 2048 * l.n ≤ 262144)
