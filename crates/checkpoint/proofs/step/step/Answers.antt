-- `checkpoint::step::step` meets its contract: each refusal is the first row that applies. Assumes nothing.
use mathlib.Core.Path.{refl}
use Rattle.model.specs.Checkpoint.{checkpoint_step_rows}
use Rattle.model.specs.Call.{checkpoint_step}
use Rattle.frame.proofs.Given.{given_first}
use Rattle.checkpoint.proofs.Waiting.{step_none, step_given, steppable}
use Rattle.frame.proofs.Refusals.{numbered}
use Rattle.checkpoint.proofs.step.step.Goals as goal

pub returns-in-Err : goal.returns-in-Err
unfolding checkpoint_step_rows
returns-in-Err c = given_first c.in-Err.ensures (checkpoint_step _) refl (numbered _) c.refuse.ensures

pub returns-then-core : goal.returns-then-core
returns-then-core c = step_none c.in_default.ensures refl _ c.if-core.true c.refuse-then-core.ensures

pub copy_next-requires : goal.copy_next-requires
copy_next-requires c = steppable c.in_default.ensures refl c.if-core.false

pub returns : goal.returns
returns c =
    let x = c.args in
    step_given c.in_default.ensures refl _ c.if-core.false _ _ _ (c.copy_next.ensures x.anchor.now x.logs.now)
