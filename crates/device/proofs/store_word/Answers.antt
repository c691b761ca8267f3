-- `device::store_word` meets its contract: by cases on an empty budget. Assumes nothing.
use mathlib.Core.Path.{◌≡◌}
use native.Mathlib.Omega.{arith}
use Rattle.device.proofs.Runs.{stored_none, stored_one}
use Rattle.device.proofs.store_word.Goals as goal

pub returns-then-budget-eq0 : goal.returns-then-budget-eq0
returns-then-budget-eq0 c =
    let none : c.args.budget.now ≡ 0 = omega arith in rw none (stored_none _ _ _)

pub returns : goal.returns
returns c = stored_one _ _ _ _ (omega arith)
