-- `frame::states::replaying_core` meets its contract: field by field. Assumes nothing.
use Rattle.frame.proofs.states.replaying_core.Goals as goal

pub returns : goal.returns
returns c = rw (← c.requires, c.no_table.ensures, c.no_checkpoint.ensures, c.no_classes.ensures)
