-- `listing::pages::is_wanted` meets its contract. Assumes nothing.
use borrow.Author.Tests.{le-leb, lt-leb}
use Rattle.listing.specs.Laid.{wanted}
use Rattle.listing.proofs.pages.is_wanted.Goals as goal

pub returns-then-line-first : goal.returns-then-line-first
unfolding wanted
returns-then-line-first c = rw (lt-leb _ _ c.if-line-first.true)

pub returns : goal.returns
unfolding wanted
returns c = rw (le-leb _ _ c.if-line-first.false)
