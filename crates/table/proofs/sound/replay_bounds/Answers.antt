-- `table::sound::replay_bounds` meets its contract: by cases on the tests, in the order of the definition. Assumes nothing.
use borrow.Author.Tests.{le-ltb, lt-ltb, le-leb, lt-leb}
use Rattle.table.proofs.sound.replay_bounds.Goals as goal

pub returns-then-core-ge-LIMIT : goal.returns-then-core-ge-LIMIT
returns-then-core-ge-LIMIT c = rw (le-ltb _ _ c.if-core-ge-LIMIT.true)

pub returns-then-replay-core : goal.returns-then-replay-core
returns-then-replay-core c = rw (lt-ltb _ _ c.if-core-ge-LIMIT.false, lt-leb _ _ c.if-replay-core.true)

pub returns : goal.returns
returns c = rw (lt-ltb _ _ c.if-core-ge-LIMIT.false, le-leb _ _ c.if-replay-core.false) c.positions_sound.ensures
