-- `replay::image::wrong_tail` meets its contract: no disk passed has a wrong tail. Assumes nothing.
use mathlib.Core.Path.{sym, ◌∙◌}
use native.Mathlib.Omega.{arith}
use Rattle.replay.proofs.Tails.{search_found, search_none}
use Rattle.replay.proofs.image.wrong_tail.Goals as goal

pub returns-then-tail_out : goal.returns-then-tail_out
returns-then-tail_out c =
    let out = rw c.ring_of-ring.ensures at c.tail_out.ensures in
    (omega arith, search_found _ _ _ c.loop-d.invariant (omega arith) (sym out ∙ c.if-tail_out.true))

pub returns : goal.returns
returns c = sym (search_none _ _ c.loop-d.d c.loop-d.invariant (omega arith))
