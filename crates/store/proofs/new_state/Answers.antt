-- `store::new_state` meets its contract: a new state does nothing and is shut. Assumes nothing.
use mathlib.Core.Path.{ap}
use Rattle.model.specs.State.{sound, new_core}
use Rattle.model.proofs.View.Back.{view_new}
use Rattle.model.proofs.View.Shown.{new_serves}
use Rattle.store.proofs.new_state.Goals as goal

pub returns : goal.returns
unfolding sound new_core
returns c =
    record {
      serves = λ h w. rw c.new_carried-carried.ensures (new_serves h w);
      by_index = λ work. rw c.new_carried-carried.ensures (ap sound (view_new work));
    }
