-- `format::format::format` meets its contract: each refusal is the first row that applies, and memory is made fresh once all is stored.
-- Assumes nothing.
use native.Mathlib.Omega.{arith}
use mathlib.Core.Path.{sym, ◌∙◌}
use Rattle.model.specs.World.{world_of}
use Rattle.model.proofs.Bounds.{bounded}
use Rattle.layout.proofs.Laws.{total_made}
use Rattle.frame.proofs.Verdicts.{refusal_given, task_given}
use Rattle.format.proofs.Joined.{lay_cut, lay_whole}
use Rattle.format.proofs.Rows.{format_forbidden, format_anchor, format_sizes, format_lengths, format_accepted, lengths_tested, devices_right, memories_right}
use Rattle.format.proofs.format.format.Goals as goal

pub returns-then-not-is_shut : goal.returns-then-not-is_shut
returns-then-not-is_shut c =
    let x = c.args in
    let w = world_of x.anchor.now x.pages.now x.backups.now x.logs.now x.work.now in
    rw c.refuse.ensures
    (refusal_given _ x.core w 1 0 0 (format_forbidden x.core w _ (sym c.is_shut.ensures ∙ c.if-not-is_shut.true)))

pub returns-then-anchor-ne-ANCHOR_WORDS : goal.returns-then-anchor-ne-ANCHOR_WORDS
returns-then-anchor-ne-ANCHOR_WORDS c =
    let x = c.args in
    let w = world_of x.anchor.now x.pages.now x.backups.now x.logs.now x.work.now in
    rw c.refuse-then-anchor-ne-ANCHOR_WORDS.ensures
    (refusal_given _ x.core w 2 0 0 (format_anchor x.core w _ (sym c.is_shut.ensures ∙ c.if-not-is_shut.false) c.if-anchor-ne-ANCHOR_WORDS.true))

pub returns-then-not-in_bounds : goal.returns-then-not-in_bounds
returns-then-not-in_bounds c =
    let x = c.args in
    let w = world_of x.anchor.now x.pages.now x.backups.now x.logs.now x.work.now in
    rw c.refuse-then-not-in_bounds.ensures
    (refusal_given _ x.core w 4 0 0
    (format_sizes x.core w _ (sym c.is_shut.ensures ∙ c.if-not-is_shut.false) (omega (arith, c.if-anchor-ne-ANCHOR_WORDS.false)) (sym c.in_bounds.ensures ∙ c.if-not-in_bounds.true)))

pub narrow-sizes-requires : goal.narrow-sizes-requires
narrow-sizes-requires c = sym c.in_bounds.ensures ∙ c.if-not-in_bounds.false

pub bases_of-bases-requires : goal.bases_of-bases-requires
bases_of-bases-requires c = rw c.narrow-sizes.ensures (sym c.in_bounds.ensures ∙ c.if-not-in_bounds.false)

pub lengths_right-requires : goal.lengths_right-requires
lengths_right-requires c =
    let inside = sym c.in_bounds.ensures ∙ c.if-not-in_bounds.false in
    let b = bounded c.narrow-sizes.result (rw c.narrow-sizes.ensures inside) in
    (b.disks_max, b.ring_max, c.bases_of-bases.ensures.1)

pub returns-then-not-lengths_right : goal.returns-then-not-lengths_right
returns-then-not-lengths_right c =
    let x = c.args in
    let w = world_of x.anchor.now x.pages.now x.backups.now x.logs.now x.work.now in
    rw c.refuse-then-not-lengths_right.ensures
    (refusal_given _ x.core w 5 0 0
    (format_lengths x.core w _ (sym c.is_shut.ensures ∙ c.if-not-is_shut.false) (omega (arith, c.if-anchor-ne-ANCHOR_WORDS.false)) (sym c.in_bounds.ensures ∙ c.if-not-in_bounds.false)
    (lengths_tested _ _ w c.narrow-sizes.ensures c.bases_of-bases.ensures.0 c.lengths_right.ensures ∙ c.if-not-lengths_right.true)))

pub open_core-next-requires : goal.open_core-next-requires
open_core-next-requires c = c.bases_of-bases.ensures.0

pub store_devices-requires : goal.store_devices-requires
store_devices-requires c =
    let x = c.args in
    let w = world_of x.anchor.now x.pages.now x.backups.now x.logs.now x.work.now in
    let right = lengths_tested _ _ w c.narrow-sizes.ensures c.bases_of-bases.ensures.0 c.lengths_right.ensures ∙ c.if-not-lengths_right.false in
    let inside = sym c.in_bounds.ensures ∙ c.if-not-in_bounds.false in
    (devices_right _ _ w c.narrow-sizes.ensures inside right (omega (arith, c.if-anchor-ne-ANCHOR_WORDS.false)), c.narrow-sizes.ensures, total_made c.narrow-sizes.result c.bases_of-bases.ensures.0)

pub returns-then-not-store_devices : goal.returns-then-not-store_devices
returns-then-not-store_devices c =
    let x = c.args in
    let w = world_of x.anchor.now x.pages.now x.backups.now x.logs.now x.work.now in
    task_given _ x.core w _ _ _
    (format_accepted x.core w _ (sym c.is_shut.ensures ∙ c.if-not-is_shut.false) (omega (arith, c.if-anchor-ne-ANCHOR_WORDS.false)) (sym c.in_bounds.ensures ∙ c.if-not-in_bounds.false)
    (lengths_tested _ _ w c.narrow-sizes.ensures c.bases_of-bases.ensures.0 c.lengths_right.ensures ∙ c.if-not-lengths_right.false))
    (rw c.narrow-sizes.ensures at (lay_cut _ (c.store_devices.ensures x.pages.now x.work.now) (c.if-not-store_devices.true) c.settle.ensures))

pub make_fresh-requires : goal.make_fresh-requires
make_fresh-requires c =
    let x = c.args in
    let w = world_of x.anchor.now x.pages.now x.backups.now x.logs.now x.work.now in
    let right = lengths_tested _ _ w c.narrow-sizes.ensures c.bases_of-bases.ensures.0 c.lengths_right.ensures ∙ c.if-not-lengths_right.false in
    let inside = sym c.in_bounds.ensures ∙ c.if-not-in_bounds.false in
    (memories_right _ _ w c.narrow-sizes.ensures inside right, total_made c.narrow-sizes.result c.bases_of-bases.ensures.0)

pub returns : goal.returns
returns c =
    let x = c.args in
    let w = world_of x.anchor.now x.pages.now x.backups.now x.logs.now x.work.now in
    task_given _ x.core w _ _ _
    (format_accepted x.core w _ (sym c.is_shut.ensures ∙ c.if-not-is_shut.false) (omega (arith, c.if-anchor-ne-ANCHOR_WORDS.false)) (sym c.in_bounds.ensures ∙ c.if-not-in_bounds.false)
    (lengths_tested _ _ w c.narrow-sizes.ensures c.bases_of-bases.ensures.0 c.lengths_right.ensures ∙ c.if-not-lengths_right.false))
    (rw c.narrow-sizes.ensures at
    (lay_whole _ (c.store_devices.ensures x.pages.now x.work.now) (c.if-not-store_devices.false) (c.make_fresh.ensures _ _ _ _) c.open_core-next.ensures c.settle-2.ensures))
