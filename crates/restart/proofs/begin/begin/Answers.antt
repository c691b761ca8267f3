-- `restart::begin::begin` meets its contract: rows 1 to 5, and then the others. Assumes nothing.
use mathlib.Core.Path.{refl, sym, ◌∙◌}
use Rattle.model.specs.World.{world_of}
use Rattle.model.proofs.Bounds.{bounded}
use Rattle.model.proofs.Lengths.{lengths_right_lem}
use Rattle.layout.proofs.Laws.{lengths_made}
use Rattle.replay.proofs.Checks.{anchor_passed}
use Rattle.restart.proofs.Beginning.{begin_stage, begin_anchor, begin_lengths, begin_given}
use Rattle.frame.proofs.Refusals.{numbered}
use Rattle.restart.proofs.begin.begin.Goals as goal

pub returns-then-not-is_shut : goal.returns-then-not-is_shut
returns-then-not-is_shut c = rw c.refuse.ensures (begin_stage _ _ (sym c.is_shut.ensures ∙ c.if-not-is_shut.true))

pub returns-in-Err : goal.returns-in-Err
returns-in-Err c =
    rw c.refuse-in-Err.ensures
    (begin_anchor _ _ (sym c.is_shut.ensures ∙ c.if-not-is_shut.false) c.in-Err.ensures (numbered _))

pub anchor_sizes-sizes-requires : goal.anchor_sizes-sizes-requires
anchor_sizes-sizes-requires c = anchor_passed _ (sym c.in_default.ensures ∙ refl)

pub bases_of-bases-requires : goal.bases_of-bases-requires
bases_of-bases-requires c =
    rw c.anchor_sizes-sizes.ensures (anchor_passed _ (sym c.in_default.ensures ∙ refl)).1

pub lengths_right-requires : goal.lengths_right-requires
lengths_right-requires c =
    let inside = (anchor_passed _ (sym c.in_default.ensures ∙ refl)).1 in
    let b = bounded c.anchor_sizes-sizes.result (rw c.anchor_sizes-sizes.ensures inside) in
    (b.disks_max, b.ring_max, c.bases_of-bases.ensures.1)

pub returns-then-not-lengths_right : goal.returns-then-not-lengths_right
returns-then-not-lengths_right c =
    let a = c.args in
    let w = world_of a.anchor.now a.pages.now a.backups.now a.logs.now a.work.now in
    let right = lengths_made c.anchor_sizes-sizes.result c.bases_of-bases.ensures.0 w c.lengths_right.ensures in
    rw c.refuse-then-not-lengths_right.ensures
    (begin_lengths _ _ (sym c.is_shut.ensures ∙ c.if-not-is_shut.false) c.in_default.ensures refl
    (rw c.anchor_sizes-sizes.ensures at (sym right ∙ c.if-not-lengths_right.true)))

pub begin_on-requires : goal.begin_on-requires
begin_on-requires c =
    let a = c.args in
    let s = c.anchor_sizes-sizes.result in
    let w = world_of a.anchor.now a.pages.now a.backups.now a.logs.now a.work.now in
    let right = lengths_made s c.bases_of-bases.ensures.0 w c.lengths_right.ensures in
    let long = lengths_right_lem s _ w (sym right ∙ c.if-not-lengths_right.false) in
    let anchor = anchor_passed _ (sym c.in_default.ensures ∙ refl) in
    (c.anchor_sizes-sizes.ensures, rw c.anchor_sizes-sizes.ensures anchor.1, anchor.0, long.pages, long.logs, c.bases_of-bases.ensures.0)

pub returns : goal.returns
returns c =
    let a = c.args in
    let w = world_of a.anchor.now a.pages.now a.backups.now a.logs.now a.work.now in
    let right = lengths_made c.anchor_sizes-sizes.result c.bases_of-bases.ensures.0 w c.lengths_right.ensures in
    begin_given _ _ (sym c.is_shut.ensures ∙ c.if-not-is_shut.false) c.in_default.ensures refl
    (rw c.anchor_sizes-sizes.ensures at (sym right ∙ c.if-not-lengths_right.false)) _ _ (c.begin_on.ensures _ _)
