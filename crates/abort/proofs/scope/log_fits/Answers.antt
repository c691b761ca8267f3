-- `abort::scope::log_fits` meets its contract: by whether there is an update. Assumes nothing.
use mathlib.Core.Path.{refl}
use borrow.Author.Tests.{lt-ltb, le-ltb}
use Rattle.abort.proofs.scope.log_fits.Goals as goal

pub returns-then-reserved-le-CLOSE_WORDS : goal.returns-then-reserved-le-CLOSE_WORDS
returns-then-reserved-le-CLOSE_WORDS c = rw (le-ltb _ _ c.if-reserved-le-CLOSE_WORDS.true) refl

pub returns : goal.returns
returns c = rw (lt-ltb _ _ c.if-reserved-le-CLOSE_WORDS.false, c.saturating_sub.ensures) refl
