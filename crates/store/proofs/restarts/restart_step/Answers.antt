-- `store::restarts::restart_step` meets its contract: what the call gives, handed back. Assumes nothing.
use Rattle.model.specs.World.{world_of}
use Rattle.model.specs.Call.{restart_step}
use Rattle.store.proofs.Handing.{handed_on}
use Rattle.store.proofs.restarts.restart_step.Goals as goal

pub returns : goal.returns
returns c =
    let x = c.args in
    let whole = handed_on (restart_step x.source) x.state.carried (world_of x.anchor.now x.pages.now x.backups.now x.logs.now x.work.now) _ _ _
    (c.carried_of-carried.ensures.value, c.carried_of-carried.ensures.arrays) c.step-handed.ensures c.hand_back.ensures in
    record {
      serves = whole.0;
      work_value = whole.1;
    }
