-- `access::slots::is_locked` meets its contract: by cases on the owner. Assumes nothing.
use mathlib.Core.Path.{refl, ap, ◌∙◌}
use native.Mathlib.Omega.{arith}
use Rattle.model.specs.declared.Carried.{Carried}
use Rattle.model.specs.View.{core_of}
use Rattle.model.proofs.View.Head.{carried_back}
use Rattle.layout.specs.Raw.{counts_of}
use Rattle.access.proofs.SlotBounds.{owner_at_lem, own_slot, others_slot}
use borrow.Author.Tests.{eq-eqb}
use borrow.Author.Rules.{rules}
use Rattle.access.proofs.slots.is_locked.Goals as goal

pub overflow_add-owner : goal.overflow_add-owner
overflow_add-owner c =
    let x = c.args in
    let there = owner_at_lem (counts_of 0 x.disks 0) x.at (c.owner_place.ensures (counts_of 0 x.disks 0) refl) in
    search (rules, there)

pub offset_bounds-work-owner_place : goal.offset_bounds-work-owner_place
offset_bounds-work-owner_place c =
    let x = c.args in
    let there = owner_at_lem (counts_of 0 x.disks 0) x.at (c.owner_place.ensures (counts_of 0 x.disks 0) refl) in
    search (rules, there)

pub bounds-work-owner_place : goal.bounds-work-owner_place
bounds-work-owner_place c =
    let x = c.args in
    omega (arith, owner_at_lem (counts_of 0 x.disks 0) x.at (c.owner_place.ensures (counts_of 0 x.disks 0) refl), c.requires)

pub returns-then-owner-number : goal.returns-then-owner-number
returns-then-owner-number c h own same =
    let x = c.args in
    others_slot h x.work.now x.at x.number
    (c.owner_place.ensures (core_of h x.work.now).sizes (ap (λ (k : Carried). k.disks) (carried_back h x.work.now) ∙ same)) c.if-owner-number.true
    (c.is_open.ensures h own)

pub returns-else-owner-number : goal.returns-else-owner-number
returns-else-owner-number c h own same =
    let x = c.args in
    rw (eq-eqb _ _ c.if-owner-number.false)
    (own_slot h x.work.now x.at x.number
    (c.owner_place.ensures (core_of h x.work.now).sizes (ap (λ (k : Carried). k.disks) (carried_back h x.work.now) ∙ same)) c.if-owner-number.false)
