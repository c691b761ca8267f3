-- `store::whole::kept` meets its contract: what is handed back, handed on. Assumes nothing.
use mathlib.Core.Path.{refl}
use Rattle.store.proofs.whole.kept.Goals as goal

pub returns : goal.returns
returns c =
    let back = c.hand_back-handed.ensures in
    record {
      result_value = rw (c.hand_back.ensures.0, c.hand_back.ensures.1, back.0) refl;
      work_value = back.1;
    }
