-- `frame::pages::pages_right` meets its contract: by its two tests. Assumes nothing.
use mathlib.Core.Path.{sym, ◌∙◌}
use Rattle.frame.proofs.PagesRight.{pages_tested}
use Rattle.frame.proofs.pages.pages_right.Goals as goal

pub returns-then-not-used_right : goal.returns-then-not-used_right
returns-then-not-used_right c h own pages total counts =
    rw (sym c.used_right.ensures ∙ c.if-not-used_right.true) at (pages_tested h _ own pages total counts c.requires.0)

pub returns : goal.returns
returns c h own pages total counts =
    c.unused_right.ensures
    ∙ (rw (sym c.used_right.ensures ∙ c.if-not-used_right.false) at (pages_tested h _ own pages total counts c.requires.0))
