-- `disk_log::read::is_misplaced` meets its contract: its tests are the definition's, in their order.
use mathlib.Core.Path.{refl}
use borrow.Author.Tests.{le-leb, lt-leb}
use Rattle.model.specs.Sizes.{slots_in, width_in}
use Rattle.model.specs.Decode.{misplaced}
use Rattle.disk_log.proofs.read.is_misplaced.Goals as goal

pub returns-then-pages-page : goal.returns-then-pages-page
unfolding misplaced
returns-then-pages-page c = λ s of. rw (of.same_pages, le-leb _ _ c.if-pages-page.true) refl

pub returns-else-pages-page : goal.returns-else-pages-page
unfolding misplaced slots_in width_in
returns-else-pages-page c =
    λ s of. rw (c.is_unlike.ensures, of.same_pages, of.same_slots, of.same_widths, lt-leb _ _ c.if-pages-page.false) refl
