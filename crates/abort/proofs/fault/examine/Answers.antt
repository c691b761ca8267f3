-- `abort::fault::examine` meets its contract: one survey of the log, then the test of the updates' words. Assumes nothing.
use Rattle.frame.proofs.Refusals.{passed_on}
use Rattle.abort.proofs.Examining.{examined_malformed, examined_long, examined_none}
use Rattle.abort.proofs.fault.examine.Goals as goal

pub returns-in_err-found : goal.returns-in_err-found
returns-in_err-found c = rw (passed_on _ _ c.from_residual.ensures.1) (examined_malformed _ _ _ _ _ _ c.in_err-found.ensures)

pub returns-then-scope-found : goal.returns-then-scope-found
returns-then-scope-found c = examined_long _ _ _ _ _ _ c.in_ok-found.ensures c.if-scope-found.true

pub returns : goal.returns
returns c = examined_none _ _ _ _ _ _ c.in_ok-found.ensures c.if-scope-found.false
