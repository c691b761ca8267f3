-- `store::restarts::restart_end` meets its contract: what the call gives on the whole state, kept. Assumes nothing.
use mathlib.Core.Path.{refl}
use Rattle.model.specs.World.{world_of}
use Rattle.model.specs.Call.{restart_end}
use Rattle.store.proofs.Served.{lent_room, lent_served}
use Rattle.store.proofs.restarts.restart_end.Goals as goal

pub kept-requires : goal.kept-requires
kept-requires c =
    let x = c.args in
    lent_room (restart_end x.budget.now) refl x.state.carried (world_of x.anchor.now x.pages.now x.backups.now x.logs.now x.work.now)
    (c.loaded-core.ensures.value, c.loaded-core.ensures.arrays) c.body_start-from.ensures _ _ _
    c.end-reply.ensures

pub returns : goal.returns
returns c =
    let x = c.args in
    let whole = lent_served (restart_end x.budget.now) refl x.state.carried (world_of x.anchor.now x.pages.now x.backups.now x.logs.now x.work.now)
    (c.loaded-core.ensures.value, c.loaded-core.ensures.arrays) c.body_start-from.ensures _ _ _
    c.end-reply.ensures (c.kept.ensures.result_value, c.kept.ensures.work_value) in
    record {
      serves = whole.0;
      work_value = whole.1;
    }
