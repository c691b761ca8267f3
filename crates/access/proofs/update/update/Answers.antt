-- `access::update::update` meets its contract: refused by a row, cut, or finished. Assumes nothing.
use mathlib.Core.Path.{refl, ◌∙◌}
use Rattle.model.specs.World.{world_of}
use Rattle.model.specs.View.{core_of, body_of}
use Rattle.model.proofs.View.Head.{own_long}
use Rattle.access.proofs.Updating.{update_refused, update_taken, home_is, home_disk, change_ready, change_lent, update_cut, update_finished, update_unmoved, body_lent, body_kept, head_there}
use borrow.Author.Rules.{rules}
use Rattle.access.proofs.update.update.Goals as goal

pub returns-in-Err : goal.returns-in-Err
returns-in-Err c =
    let x = c.args in
    let w = world_of x.anchor.now x.pages.now x.backups.now x.logs.now x.work.now in
    update_refused x.carried w x.value.now x.budget.now c.plan_update.ensures c.in-Err.refusal c.in-Err.is c.refused.ensures

pub home_at-home-requires : goal.home_at-home-requires
home_at-home-requires c =
    let taken = c.plan_update.ensures.ready _ c.in-Ok.is in
    (taken.plans.disk_low, taken.ring_max)

pub slice_bounds-body-count : goal.slice_bounds-body-count
slice_bounds-body-count c =
    let x = c.args in
    let taken = c.plan_update.ensures.ready _ c.in-Ok.is in
    own_long x.carried x.work.now taken.own

pub slice_bounds-body-start : goal.slice_bounds-body-start
slice_bounds-body-start c =
    let x = c.args in
    let taken = c.plan_update.ensures.ready _ c.in-Ok.is in
    own_long x.carried x.work.now taken.own

pub log_and_set-requires : goal.log_and_set-requires
unfolding body_of
log_and_set-requires c =
    let x = c.args in
    let w = world_of x.anchor.now x.pages.now x.backups.now x.logs.now x.work.now in
    let taken = c.plan_update.ensures.ready _ c.in-Ok.is in
    let plans = taken.plans in
    let own = taken.own in
    let home = home_is x.carried w own x.value.now plans c.home_at-home.ensures in
    rw (body_lent x.work.now) (change_ready x.carried w own x.value.now plans home)

pub returns-in_default : goal.returns-in_default
unfolding body_of
returns-in_default c =
    let x = c.args in
    let w = world_of x.anchor.now x.pages.now x.backups.now x.logs.now x.work.now in
    let taken = c.plan_update.ensures.ready _ c.in-Ok.is in
    let plans = taken.plans in
    let own = taken.own in
    let home = home_is x.carried w own x.value.now plans c.home_at-home.ensures in
    let did = rw (home_disk x.carried w own x.value.now plans home) at
    (c.log_and_set.ensures (core_of x.carried x.work.now).sizes (core_of x.carried x.work.now).logs (body_of w)
    (rw (body_lent x.work.now) (change_lent x.carried w own x.value.now plans home)) refl plans.owner) in
    update_cut x.carried w own x.value.now plans (update_taken x.carried w x.value.now c.plan_update.ensures c.in-Ok.is) (rw c.in_default.is at did)
    (body_kept x.work.now _) (c.cut.ensures ∙ rw c.saturating_sub.ensures refl)

pub count_update-requires : goal.count_update-requires
count_update-requires c =
    let x = c.args in
    let taken = c.plan_update.ensures.ready _ c.in-Ok.is in
    let plans = taken.plans in
    (plans.place_low, plans.disk_low, head_there x.work.now _ (own_long x.carried x.work.now taken.own))

pub returns-then-changed-plan : goal.returns-then-changed-plan
unfolding body_of
returns-then-changed-plan c =
    let x = c.args in
    let w = world_of x.anchor.now x.pages.now x.backups.now x.logs.now x.work.now in
    let taken = c.plan_update.ensures.ready _ c.in-Ok.is in
    let plans = taken.plans in
    let own = taken.own in
    let home = home_is x.carried w own x.value.now plans c.home_at-home.ensures in
    let did = rw (home_disk x.carried w own x.value.now plans home) at
    (c.log_and_set.ensures (core_of x.carried x.work.now).sizes (core_of x.carried x.work.now).logs (body_of w)
    (rw (body_lent x.work.now) (change_lent x.carried w own x.value.now plans home)) refl plans.owner) in
    update_unmoved x.carried w own x.value.now plans (update_taken x.carried w x.value.now c.plan_update.ensures c.in-Ok.is) (rw c.in-Some.is at did) c.if-changed-plan.true
    (c.count_update.ensures ∙ rw (body_kept x.work.now _) refl) (c.finished.ensures ∙ rw c.saturating_sub-stores.ensures refl)

pub offset_bounds-moved-d : goal.offset_bounds-moved-d
offset_bounds-moved-d c =
    let taken = c.plan_update.ensures.ready _ c.in-Ok.is in
    let low = taken.plans.disk_low in
    search (rules, low)

pub bounds-moved-d : goal.bounds-moved-d
bounds-moved-d c =
    let taken = c.plan_update.ensures.ready _ c.in-Ok.is in
    taken.plans.disk_low

pub returns : goal.returns
unfolding body_of
returns c =
    let x = c.args in
    let w = world_of x.anchor.now x.pages.now x.backups.now x.logs.now x.work.now in
    let taken = c.plan_update.ensures.ready _ c.in-Ok.is in
    let plans = taken.plans in
    let own = taken.own in
    let home = home_is x.carried w own x.value.now plans c.home_at-home.ensures in
    let did = rw (home_disk x.carried w own x.value.now plans home) at
    (c.log_and_set.ensures (core_of x.carried x.work.now).sizes (core_of x.carried x.work.now).logs (body_of w)
    (rw (body_lent x.work.now) (change_lent x.carried w own x.value.now plans home)) refl plans.owner) in
    update_finished x.carried w own x.value.now plans (update_taken x.carried w x.value.now c.plan_update.ensures c.in-Ok.is) (rw c.in-Some.is at did)
    (c.count_update.ensures ∙ rw (body_kept x.work.now _) refl) (c.finished-2.ensures ∙ rw c.saturating_sub-stores.ensures refl)
