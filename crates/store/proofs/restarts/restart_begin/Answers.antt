-- `store::restarts::restart_begin` meets its contract: what the call gives on the whole state, kept. Assumes nothing.
use mathlib.Core.Path.{refl}
use Rattle.model.specs.World.{world_of}
use Rattle.model.specs.Call.{restart_begin}
use Rattle.store.proofs.Served.{read_room, read_served}
use Rattle.store.proofs.restarts.restart_begin.Goals as goal

pub kept-requires : goal.kept-requires
kept-requires c =
    let x = c.args in
    read_room restart_begin refl x.state.carried (world_of x.anchor.now x.pages.now x.backups.now x.logs.now x.work.now)
    (c.loaded-core.ensures.value, c.loaded-core.ensures.arrays) c.body_start-from.ensures _ _ _
    c.begin-reply.ensures refl

pub returns : goal.returns
returns c =
    let x = c.args in
    let whole = read_served restart_begin refl x.state.carried (world_of x.anchor.now x.pages.now x.backups.now x.logs.now x.work.now)
    (c.loaded-core.ensures.value, c.loaded-core.ensures.arrays) c.body_start-from.ensures _ _ _
    c.begin-reply.ensures refl (c.kept.ensures.result_value, c.kept.ensures.work_value) in
    record {
      serves = whole.0;
      work_value = whole.1;
    }
