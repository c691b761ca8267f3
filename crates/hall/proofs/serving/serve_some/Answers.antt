-- `hall::serving::serve_some` meets its contract: what came is taken in, all of it, and its text is handed on.
use mathlib.Core.Path.{refl, sym}
use mathlib.Core.List.{[]}
use Rattle.hall.specs.Running.{fed}
use Rattle.hall.proofs.serving.serve_some.Goals as goal

pub returns-in_default-clause-by_index : goal.returns-in_default-clause-by_index
unfolding fed
returns-in_default-clause-by_index c = λ p s. ([], refl, s)

pub returns-then-got-eq0-clause-by_index : goal.returns-then-got-eq0-clause-by_index
unfolding fed
returns-then-got-eq0-clause-by_index c = λ p s. ([], sym c.if-got-eq0.true, s)

pub returns-clause-by_index : goal.returns-clause-by_index
returns-clause-by_index c = λ p s. (_, sym c.in-Ok.ensures.bound.1, c.flush-flushed.ensures.stands _ _ _ (c.feed-after.ensures.by_index p.text p s))
