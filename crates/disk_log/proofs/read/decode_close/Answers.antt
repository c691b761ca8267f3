-- `disk_log::read::decode_close` meets its contract, by its test.
use borrow.Author.Tests.{eq-eqb, ne_eqb}
use Rattle.disk_log.proofs.read.decode_close.Goals as goal

pub returns-then-w-ne0 : goal.returns-then-w-ne0
returns-then-w-ne0 c = simp (ne_eqb _ _ c.if-w-ne0.true)

pub returns : goal.returns
returns c = simp (eq-eqb _ _ c.if-w-ne0.false)
