-- `frame::states::open_core` meets its contract: every field is what it says. Assumes nothing.
use mathlib.Core.Path.{refl}
use Rattle.model.specs.State.{open_core}
use Rattle.frame.proofs.states.open_core.Goals as goal

pub returns : goal.returns
unfolding open_core
returns c = rw (← c.requires, c.empty_logs.ensures, c.no_table.ensures, c.no_checkpoint.ensures, c.no_replay.ensures, c.no_classes.ensures) refl
