-- `run::run::next_position` meets its contract. Assumes nothing.
use mathlib.Core.Path.{refl}
use borrow.Author.Rules.{rules}
use Rattle.run.proofs.run.next_position.Goals as goal

pub returns : goal.returns
returns c = (refl, search rules)
