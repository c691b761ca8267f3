-- `table::room::idlest` meets its contract: the best of the disks passed. Assumes nothing.
use mathlib.Core.Path.{◌≡◌, refl, sym, ◌∙◌}
use native.Mathlib.Omega.{arith}
use borrow.Author.Rules.{rules}
use Rattle.model.specs.Room.{idlest_below}
use Rattle.table.specs.Parts.{idlest_in}
use Rattle.table.proofs.HasRoom.{choice_computed, idlest_step}
use Rattle.table.proofs.room.idlest.Goals as goal

pub loop-d-init : goal.loop-d-init
unfolding idlest_below
loop-d-init c = (search rules, refl)

pub loop-d-preserved : goal.loop-d-preserved
loop-d-preserved c =
    (search rules, idlest_step _ _ _ _ _ _ c.loop-d.invariant.1 (choice_computed _ _ _ _ _ _ refl) c.better_disk-best.ensures.1)

pub returns-then-best-lt8 : goal.returns-then-best-lt8
unfolding idlest_in
returns-then-best-lt8 c =
    let last : c.loop-d.d ≡ c.args.disks = omega arith in
    record { low = omega arith; chosen = rw last at c.loop-d.invariant.1 }

pub returns-else-best-lt8 : goal.returns-else-best-lt8
unfolding idlest_in
returns-else-best-lt8 c =
    let last : c.loop-d.d ≡ c.args.disks = omega arith in
    let none : c.loop-d.best ≡ 8 = omega arith in
    record { low = search rules; chosen = sym (rw last at c.loop-d.invariant.1) ∙ none }
