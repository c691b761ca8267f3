-- `restart::remain::logs_done` meets its contract: of the logs passed nothing remains. Assumes nothing.
use native.Mathlib.Omega.{arith}
use Rattle.model.proofs.Below.{all_none, all_more, all_stop}
use Rattle.restart.proofs.Remaining.{left_none, left_some}
use Rattle.restart.proofs.remain.logs_done.Goals as goal

pub loop-d-init : goal.loop-d-init
loop-d-init c = all_none _

pub returns-then-positions-d : goal.returns-then-positions-d
returns-then-positions-d c = all_stop _ _ c.loop-d.d (omega arith) (left_some _ _ c.if-positions-d.true)

pub loop-d-preserved : goal.loop-d-preserved
loop-d-preserved c = all_more _ _ c.loop-d.invariant (left_none _ _ c.if-positions-d.false)
