-- `access::plan::plan_update` meets its contract: one row after the other. Assumes nothing.
use mathlib.Core.Path.{refl}
use Rattle.std.proofs.lemmas.Result.{err_from_is_err_and}
use Rattle.model.specs.World.{world_of}
use Rattle.access.proofs.FirstRows.{ready, own, numbers_fit}
use Rattle.access.proofs.PlanRows.{update_first, update_early, update_late}
use Rattle.access.proofs.PlanReady.{disk_low, entry_small, slot_small}
use Rattle.access.proofs.PlanMade.{planned_refused, planned_made}
use borrow.Author.Rules.{rules}
use Rattle.access.proofs.plan.plan_update.Goals as goal

pub returns-in_err-check_lent : goal.returns-in_err-check_lent
returns-in_err-check_lent c =
    let x = c.args in
    let w = world_of x.anchor.now x.pages.now x.backups.now x.logs.now x.work.now in
    let p = err_from_is_err_and c.from_residual.result c.from_residual.ensures.1 in
    let refusal = c.in_err-check_lent.field-0.0 in
    rw (p.1, p.2) (planned_refused refusal (λ value long. update_first x.carried.now w x.number x.page x.slot value refusal c.in_err-check_lent.ensures))

pub find_slot-asked-requires : goal.find_slot-asked-requires
find_slot-asked-requires c =
    let x = c.args in
    let w = world_of x.anchor.now x.pages.now x.backups.now x.logs.now x.work.now in
    numbers_fit x.carried.now w c.in_ok-check_lent.ensures

pub find_entry-opened-requires : goal.find_entry-opened-requires
find_entry-opened-requires c =
    let x = c.args in
    let w = world_of x.anchor.now x.pages.now x.backups.now x.logs.now x.work.now in
    let first = c.in_ok-check_lent.ensures in
    ((ready x.carried.now w first).counts.disks_max, (numbers_fit x.carried.now w first).2, search rules)

pub returns-in_err-found : goal.returns-in_err-found
returns-in_err-found c =
    let x = c.args in
    let w = world_of x.anchor.now x.pages.now x.backups.now x.logs.now x.work.now in
    let first = c.in_ok-check_lent.ensures in
    let mine = own x.carried.now w first in
    let p = err_from_is_err_and c.from_residual-in_err-found.result c.from_residual-in_err-found.ensures.1 in
    let refusal = c.in_err-found.field-0.0 in
    rw (p.1, p.2)
    (planned_refused refusal
    (λ value long.
    update_early x.carried.now w x.number x.page x.slot value first (c.find_slot-asked.ensures x.carried.now mine refl refl)
    (c.find_entry-opened.ensures x.carried.now mine refl refl) long c.both.ensures refusal c.in_err-found.was))

pub offset_bounds-starts-entry : goal.offset_bounds-starts-entry
offset_bounds-starts-entry c =
    let x = c.args in
    let w = world_of x.anchor.now x.pages.now x.backups.now x.logs.now x.work.now in
    let first = c.in_ok-check_lent.ensures in
    let mine = own x.carried.now w first in
    let both = c.both.ensures.ready _ _ c.in_ok-found.was in
    let low = disk_low x.carried.now w mine (ready x.carried.now w first) ((c.find_entry-opened.ensures x.carried.now mine refl refl).ready _ both.1) in
    search (rules, low)

pub bounds-starts-entry : goal.bounds-starts-entry
bounds-starts-entry c =
    let x = c.args in
    let w = world_of x.anchor.now x.pages.now x.backups.now x.logs.now x.work.now in
    let first = c.in_ok-check_lent.ensures in
    let mine = own x.carried.now w first in
    let both = c.both.ensures.ready _ _ c.in_ok-found.was in
    disk_low x.carried.now w mine (ready x.carried.now w first) ((c.find_entry-opened.ensures x.carried.now mine refl refl).ready _ both.1)

pub check_late-requires : goal.check_late-requires
check_late-requires c =
    let x = c.args in
    let w = world_of x.anchor.now x.pages.now x.backups.now x.logs.now x.work.now in
    let first = c.in_ok-check_lent.ensures in
    let known = ready x.carried.now w first in
    let mine = own x.carried.now w first in
    let both = c.both.ensures.ready _ _ c.in_ok-found.was in
    let entry = (c.find_entry-opened.ensures x.carried.now mine refl refl).ready _ both.1 in
    let small = slot_small x.carried.now w mine known entry (c.find_slot-asked.ensures x.carried.now mine refl refl) both.0 in
    record {
      disks_bound = (small.0, small.2, small.3, small.4);
      sum_bound = (entry_small x.carried.now w mine known entry).2;
    }

pub returns-in_err-check_late : goal.returns-in_err-check_late
returns-in_err-check_late c =
    let x = c.args in
    let w = world_of x.anchor.now x.pages.now x.backups.now x.logs.now x.work.now in
    let first = c.in_ok-check_lent.ensures in
    let mine = own x.carried.now w first in
    let p = err_from_is_err_and c.from_residual-in_err-check_late.result c.from_residual-in_err-check_late.ensures.1 in
    let refusal = c.in_err-check_late.field-0.0 in
    rw (p.1, p.2)
    (planned_refused refusal
    (λ value long.
    update_late x.carried.now w x.number x.page x.slot value first (c.find_slot-asked.ensures x.carried.now mine refl refl)
    (c.find_entry-opened.ensures x.carried.now mine refl refl) long c.both.ensures c.in_ok-found.was refl (c.in_err-check_late.ensures x.carried.now mine refl)))

pub make_plan-requires : goal.make_plan-requires
make_plan-requires c =
    let x = c.args in
    let w = world_of x.anchor.now x.pages.now x.backups.now x.logs.now x.work.now in
    let first = c.in_ok-check_lent.ensures in
    let known = ready x.carried.now w first in
    let mine = own x.carried.now w first in
    let both = c.both.ensures.ready _ _ c.in_ok-found.was in
    let entry = (c.find_entry-opened.ensures x.carried.now mine refl refl).ready _ both.1 in
    record {
      disks_bound = slot_small x.carried.now w mine known entry (c.find_slot-asked.ensures x.carried.now mine refl refl) both.0;
      place_bound = entry_small x.carried.now w mine known entry;
    }

pub returns : goal.returns
returns c =
    let x = c.args in
    let w = world_of x.anchor.now x.pages.now x.backups.now x.logs.now x.work.now in
    let first = c.in_ok-check_lent.ensures in
    let mine = own x.carried.now w first in
    rw c.make_plan.ensures
    (planned_made x.carried.now w x.number x.page x.slot first (c.find_slot-asked.ensures x.carried.now mine refl refl)
    (c.find_entry-opened.ensures x.carried.now mine refl refl) c.both.ensures c.in_ok-found.was refl (c.in_ok-check_late.ensures x.carried.now mine refl))
