-- `restart::step::log_step` meets its contract: nothing is left, or by what its record comes to. Assumes nothing.
use mathlib.Core.Path.{sym}
use native.Mathlib.Omega.{arith}
use lib.ListN.{drop, take-append-drop}
use Rattle.model.specs.World.{world_of}
use Rattle.model.specs.State.{tail_of}
use Rattle.model.specs.Restart.{moved_to}
use Rattle.model.specs.View.{head_words, core_of, body_of}
use Rattle.model.proofs.View.Head.{own_long}
use Rattle.replay.proofs.Facts.{eight}
use Rattle.replay.proofs.Stepping.{step_none}
use Rattle.restart.proofs.Records.{position_here}
use Rattle.restart.proofs.Steps.{moved_words, to_refused, to_finished, replaying_open}
use Rattle.restart.proofs.step.log_step.Goals as goal

pub offset_bounds-carried-d : goal.offset_bounds-carried-d
offset_bounds-carried-d c = let few = eight c.requires.on in omega arith

pub bounds-carried-d : goal.bounds-carried-d
bounds-carried-d c = eight c.requires.on

pub overflow_add-position : goal.overflow_add-position
overflow_add-position c = let few = eight c.requires.on in omega arith

pub offset_bounds-work-d : goal.offset_bounds-work-d
offset_bounds-work-d c = let few = eight c.requires.on in omega arith

pub bounds-work-d : goal.bounds-work-d
bounds-work-d c = omega (arith, eight c.requires.on, own_long _ _ c.requires.own)

pub returns-then-tail-position : goal.returns-then-tail-position
unfolding tail_of core_of body_of
returns-then-tail-position c =
    let x = c.args in
    let here = position_here x.carried x.work.now c.requires.own x.disk (eight c.requires.on) in
    λ anchor backups.
    let w = world_of anchor x.pages.now backups x.logs.now x.work.now in
    to_refused x.carried w x.disk (body_of w)
    (step_none (core_of x.carried x.work.now) (body_of w) x.disk c.requires.on.disk_in (omega (arith, here, c.if-tail-position.true)))
    (sym (take-append-drop head_words x.work.now)) c.refused.ensures

pub take_record-requires : goal.take_record-requires
unfolding tail_of core_of
take_record-requires c =
    let x = c.args in
    (c.requires, position_here x.carried x.work.now c.requires.own x.disk (eight c.requires.on), c.if-tail-position.false)

pub returns-in-Err : goal.returns-in-Err
unfolding body_of
returns-in-Err c =
    let x = c.args in
    λ anchor backups.
    to_refused x.carried (world_of anchor x.pages.now backups x.logs.now x.work.now) x.disk _
    (c.in-Err.ensures anchor backups (drop head_words x.work.now))
    (sym (take-append-drop head_words x.work.now)) c.unreadable.ensures

pub bounds-work-d-in-Ok : goal.bounds-work-d-in-Ok
bounds-work-d-in-Ok c = omega (arith, eight c.requires.on, own_long _ _ c.requires.own)

pub returns-in-Ok : goal.returns-in-Ok
unfolding body_of
returns-in-Ok c =
    let x = c.args in
    let next = c.in-Ok.next in
    let h = x.carried in
    λ anchor backups.
    to_finished h (world_of anchor x.pages.now backups x.logs.now x.work.now) x.disk (moved_to (core_of h x.work.now) x.disk next) _
    (c.in-Ok.ensures anchor backups (drop head_words x.work.now))
    (replaying_open h x.work.now c.requires.on.replays x.disk next).0 (replaying_open h x.work.now c.requires.on.replays x.disk next).1
    (moved_words h x.work.now c.requires.own x.disk next (eight c.requires.on)) c.finished.ensures
