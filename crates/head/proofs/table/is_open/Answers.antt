-- `head::table::is_open` meets its contract: a number other than 0 that has a place. Assumes nothing.
use mathlib.Core.Path.{◌∙◌}
use borrow.Author.Tests.{eq-eqb, ne_eqb}
use Rattle.model.specs.State.{is_open, in_table}
use Rattle.head.proofs.InTable.{found_low}
use Rattle.head.proofs.table.is_open.Goals as goal

pub returns-then-number-ne0 : goal.returns-then-number-ne0
unfolding is_open in_table
returns-then-number-ne0 c h own =
    rw (ne_eqb _ _ c.if-number-ne0.true) (c.is_some.ensures ∙ found_low _ _ c.place_of.ensures.low (c.place_of.ensures.found h own))

pub returns-else-number-ne0 : goal.returns-else-number-ne0
unfolding is_open in_table
returns-else-number-ne0 c h own = rw (eq-eqb _ _ c.if-number-ne0.false)
