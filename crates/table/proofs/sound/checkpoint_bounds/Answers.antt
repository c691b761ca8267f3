-- `table::sound::checkpoint_bounds` meets its contract: by cases on the tests, in the order of the definition. Assumes nothing.
use borrow.Author.Tests.{le-ltb, lt-ltb, le-leb, lt-leb}
use Rattle.table.proofs.Tests.{ends_parts}
use Rattle.table.proofs.sound.checkpoint_bounds.Goals as goal

pub returns-then-core-ge-LIMIT : goal.returns-then-core-ge-LIMIT
returns-then-core-ge-LIMIT c = rw (ends_parts, le-ltb _ _ c.if-core-ge-LIMIT.true)

pub returns-then-checkpoint-core : goal.returns-then-checkpoint-core
returns-then-checkpoint-core c = rw (ends_parts, lt-ltb _ _ c.if-core-ge-LIMIT.false, lt-leb _ _ c.if-checkpoint-core.true)

pub returns : goal.returns
returns c = rw (ends_parts, lt-ltb _ _ c.if-core-ge-LIMIT.false, le-leb _ _ c.if-checkpoint-core.false) c.ends_sound.ensures
