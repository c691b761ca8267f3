-- `frame::states::new_core` meets its contract: every field is what it says. Assumes nothing.
use mathlib.Core.Path.{refl}
use Rattle.model.specs.State.{new_core}
use Rattle.frame.proofs.states.new_core.Goals as goal

pub returns : goal.returns
unfolding new_core
returns c = rw (c.empty_logs.ensures, c.no_table.ensures, c.no_checkpoint.ensures, c.no_replay.ensures, c.no_classes.ensures) refl
