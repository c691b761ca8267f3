-- `checkpoint::end::end` meets its contract: each refusal is the first row that applies. Assumes nothing.
use mathlib.Core.Path.{refl}
use Rattle.model.specs.Checkpoint.{checkpoint_end_rows}
use Rattle.model.specs.Call.{checkpoint_end}
use Rattle.frame.proofs.Given.{given_first}
use Rattle.checkpoint.proofs.Waiting.{end_early, end_given, endable}
use Rattle.frame.proofs.Refusals.{numbered}
use Rattle.checkpoint.proofs.end.end.Goals as goal

pub returns-in-Err : goal.returns-in-Err
unfolding checkpoint_end_rows
returns-in-Err c = given_first c.in-Err.ensures (checkpoint_end _) refl (numbered _) c.refuse.ensures

pub returns-then-core : goal.returns-then-core
returns-then-core c = end_early c.in_default.ensures refl _ c.if-core.true c.refuse-then-core.ensures

pub flush_and_switch-requires : goal.flush_and_switch-requires
flush_and_switch-requires c = endable c.in_default.ensures refl

pub returns : goal.returns
returns c =
    let x = c.args in
    end_given c.in_default.ensures refl _ c.if-core.false _ _ _ (c.flush_and_switch.ensures x.pages.now x.backups.now)
