-- `table::room::is_idler` meets its contract: by cases on the tests. Assumes nothing.
use mathlib.Core.Path.{refl}
use borrow.Author.Tests.{eq-eqb, ne_eqb}
use Rattle.table.proofs.room.is_idler.Goals as goal

pub returns-then-best-eq8 : goal.returns-then-best-eq8
returns-then-best-eq8 c = rw (eq-eqb _ _ c.if-best-eq8.true) refl

pub returns : goal.returns
returns c =
    rw (ne_eqb _ _ c.if-best-eq8.false, c.started_blocks.ensures, c.started_blocks-2.ensures) refl
