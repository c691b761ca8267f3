-- `replay::save::store_checkpoint` meets its contract: the checkpoint is made current once all pages are stored. Assumes nothing.
use native.Mathlib.Omega.{arith}
use borrow.Author.Rules.{rules}
use Rattle.model.proofs.Bounds.{bounded}
use Rattle.replay.proofs.Saving.{pages_cut, pages_switched}
use Rattle.replay.proofs.save.store_checkpoint.Goals as goal

pub backup_at-at-requires : goal.backup_at-at-requires
backup_at-at-requires c = (bounded _ c.requires.0).pages_max

pub returns-then-not-store_copy : goal.returns-then-not-store_copy
returns-then-not-store_copy c =
    λ logs work. pages_cut _ _ _ _ _ c.backup_at-at.ensures.0 c.store_copy.ensures (c.if-not-store_copy.true)

pub switch_to-requires : goal.switch_to-requires
switch_to-requires c =
    (search (rules, c.requires), (bounded _ c.requires.0).disks_max)

pub returns : goal.returns
returns c =
    let few = (bounded _ c.requires.0).disks_max in
    λ logs work.
    pages_switched _ _ _ _ _ c.backup_at-at.ensures.0 c.store_copy.ensures (c.if-not-store_copy.false)
    (omega (arith, few, c.well_formed.1.1.0)) (c.switch_to.ensures _ _ logs work)
