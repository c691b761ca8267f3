-- `restart::step::backup_start` meets its contract: by the remainder. Assumes nothing.
use native.Mathlib.Omega.{arith}
use Rattle.restart.proofs.Steps.{backup_even, backup_odd}
use Rattle.restart.proofs.step.backup_start.Goals as goal

pub returns-then-epoch-eq0 : goal.returns-then-epoch-eq0
returns-then-epoch-eq0 c = (λ s e. backup_even s _ c.if-epoch-eq0.true, omega arith)

pub returns-else-epoch-eq0 : goal.returns-else-epoch-eq0
returns-else-epoch-eq0 c = (λ s e. backup_odd s _ c.if-epoch-eq0.false e, omega arith)
