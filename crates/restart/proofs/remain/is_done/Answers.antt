-- `restart::remain::is_done` meets its contract: the logs first, then the backup. Assumes nothing.
use Rattle.restart.proofs.Remaining.{done_split}
use Rattle.restart.proofs.remain.is_done.Goals as goal

pub returns-then-logs_done : goal.returns-then-logs_done
returns-then-logs_done c = rw (done_split, ← c.logs_done.ensures, c.if-logs_done.true)

pub returns-else-logs_done : goal.returns-else-logs_done
returns-else-logs_done c = rw (done_split, ← c.logs_done.ensures, c.if-logs_done.false)
