-- `replay::image::tail_out` meets its contract: by cases on the tests. Assumes nothing.
use Rattle.replay.proofs.Tails.{out_below, out_above, out_limit}
use Rattle.replay.proofs.image.tail_out.Goals as goal

pub returns-then-tail-start : goal.returns-then-tail-start
returns-then-tail-start c = out_below _ _ _ c.if-tail-start.true

pub returns-then-ring-tail : goal.returns-then-ring-tail
returns-then-ring-tail c = out_above _ _ _ c.if-tail-start.false c.if-ring-tail.true

pub returns : goal.returns
returns c = out_limit _ _ _ c.if-tail-start.false c.if-ring-tail.false
