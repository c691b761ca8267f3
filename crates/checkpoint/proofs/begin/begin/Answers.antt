-- `checkpoint::begin::begin` meets its contract: each refusal is the first row that applies. Assumes nothing.
use mathlib.Core.Path.{refl}
use Rattle.model.specs.Checkpoint.{checkpoint_begin_rows}
use Rattle.model.specs.Call.{checkpoint_begin}
use Rattle.frame.proofs.Given.{given_first}
use Rattle.checkpoint.proofs.Marks.{begin_serving, begin_spent, begin_given}
use Rattle.frame.proofs.Refusals.{numbered}
use Rattle.checkpoint.proofs.begin.begin.Goals as goal

pub returns-in-Err : goal.returns-in-Err
unfolding checkpoint_begin_rows
returns-in-Err c = given_first c.in-Err.ensures checkpoint_begin refl (numbered _) c.refuse.ensures

pub returns-then-core-ge-LIMIT : goal.returns-then-core-ge-LIMIT
returns-then-core-ge-LIMIT c = begin_spent c.in_default.ensures refl c.if-core-ge-LIMIT.true c.refuse-then-core-ge-LIMIT.ensures

pub marked-requires : goal.marked-requires
marked-requires c = begin_serving c.in_default.ensures refl

pub returns : goal.returns
returns c = begin_given c.in_default.ensures refl c.if-core-ge-LIMIT.false (c.marked.ensures _) c.finish.ensures
