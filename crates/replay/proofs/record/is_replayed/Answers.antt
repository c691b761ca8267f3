-- `replay::record::is_replayed` meets its contract, for each fate. Assumes nothing.
use Rattle.model.specs.Record.{in_backup}
use Rattle.replay.proofs.record.is_replayed.Goals as goal

pub returns-in-Closed : goal.returns-in-Closed
unfolding in_backup
returns-in-Closed c = rw c.in-Closed.is

pub returns-in-Unclosed : goal.returns-in-Unclosed
unfolding in_backup
returns-in-Unclosed c = rw c.in-Unclosed.is
