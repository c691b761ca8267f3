-- `access::slots::reader_missing` meets its contract: by cases on the reader. Assumes nothing.
use mathlib.Core.Path.{refl}
use borrow.Author.Tests.{eq-eqb, ne_eqb}
use Rattle.model.specs.Causes.{not_open, reader_not_open}
use Rattle.access.proofs.slots.reader_missing.Goals as goal

pub returns-then-reader-ne0 : goal.returns-then-reader-ne0
unfolding reader_not_open not_open
returns-then-reader-ne0 c h own = rw (ne_eqb _ _ c.if-reader-ne0.true, c.is_open.ensures h own) refl

pub returns-else-reader-ne0 : goal.returns-else-reader-ne0
unfolding reader_not_open
returns-else-reader-ne0 c h own = rw (eq-eqb _ _ c.if-reader-ne0.false) refl
