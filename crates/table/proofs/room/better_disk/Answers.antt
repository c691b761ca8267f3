-- `table::room::better_disk` meets its contract: by cases on the tests. Assumes nothing.
use mathlib.Core.Path.{refl, sym, ◌∙◌}
use mathlib.Core.Bool.{true, false, ◌&&◌}
use Prim.Native.Nat.{◌+◌}
use lib.ListN.{get_or}
use borrow.Author.Rules.{rules}
use Rattle.model.specs.Classes.{in_set}
use Rattle.model.specs.Room.{started_blocks}
use Rattle.table.specs.Parts.{room_for}
use Rattle.table.proofs.HasRoom.{barred_left, busier_left, idler_taken}
use Rattle.table.proofs.room.better_disk.Goals as goal

pub returns-then-not-is_idler : goal.returns-then-not-is_idler
returns-then-not-is_idler c =
    let s = c.args in (
      search rules,
      busier_left (in_set s.set s.disk && room_for s.start (s.tail + get_or s.fills.now s.disk 0) s.sum s.ring 2) (λ d. started_blocks (get_or s.fills.now d 0)) s.disk s.best
          c.is_idler.ensures (c.if-not-is_idler.true),
    )

pub returns-then-not-in_set : goal.returns-then-not-in_set
returns-then-not-in_set c =
    let s = c.args in (
      search rules,
      barred_left (in_set s.set s.disk && room_for s.start (s.tail + get_or s.fills.now s.disk 0) s.sum s.ring 2) (λ d. started_blocks (get_or s.fills.now d 0)) s.disk s.best
          (rw (sym c.in_set.ensures ∙ c.if-not-in_set.true) refl),
    )

pub returns-then-has_room : goal.returns-then-has_room
returns-then-has_room c =
    let s = c.args in
    let serves = sym c.in_set.ensures ∙ c.if-not-in_set.false in (
      search rules,
      idler_taken (in_set s.set s.disk && room_for s.start (s.tail + get_or s.fills.now s.disk 0) s.sum s.ring 2) (λ d. started_blocks (get_or s.fills.now d 0)) s.disk s.best
          c.is_idler.ensures (c.if-not-is_idler.false) {there = true} (rw serves (sym c.if-has_room.true ∙ c.has_room.ensures)),
    )

pub returns-else-has_room : goal.returns-else-has_room
returns-else-has_room c =
    let s = c.args in
    let serves = sym c.in_set.ensures ∙ c.if-not-in_set.false in (
      search rules,
      idler_taken (in_set s.set s.disk && room_for s.start (s.tail + get_or s.fills.now s.disk 0) s.sum s.ring 2) (λ d. started_blocks (get_or s.fills.now d 0)) s.disk s.best
          c.is_idler.ensures (c.if-not-is_idler.false) {there = false} (rw serves (sym c.if-has_room.false ∙ c.has_room.ensures)),
    )
