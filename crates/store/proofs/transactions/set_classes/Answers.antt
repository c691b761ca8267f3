-- `store::transactions::set_classes` meets its contract: what the call gives, handed back, whatever the other slices hold. Assumes nothing.
use Rattle.model.specs.Call.{set_classes}
use Rattle.store.proofs.Handing.{handed_over}
use Rattle.store.proofs.transactions.set_classes.Goals as goal

pub returns : goal.returns
returns c =
    let x = c.args in
    let whole = handed_over (set_classes x.lines.now) x.state.carried x.work.now _ (c.carried_of-carried.ensures.value, c.carried_of-carried.ensures.arrays) c.set_classes-handed.ensures
    c.hand_back.ensures in
    record {
      serves = whole.0;
      work_value = whole.1;
    }
