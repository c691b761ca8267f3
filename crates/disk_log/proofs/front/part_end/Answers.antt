-- `disk_log::front::part_end` meets its contract, by its test.
use borrow.Author.Tests.{lt-ltb, le-ltb}
use Rattle.disk_log.proofs.front.part_end.Goals as goal

pub returns-then-p-tail : goal.returns-then-p-tail
returns-then-p-tail c = simp (lt-ltb _ _ c.if-p-tail.true)

pub returns-else-p-tail : goal.returns-else-p-tail
returns-else-p-tail c = simp (le-ltb _ _ c.if-p-tail.false)
