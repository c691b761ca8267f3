-- `disk_log::front::turn_at` meets its contract: a turn begins at a multiple of the ring's size.
use native.Mathlib.Omega.{arith}
use native.Mathlib.Nat.{mod-le}
use Rattle.disk_log.proofs.Fronts.{turn_here}
use Rattle.disk_log.proofs.front.turn_at.Goals as goal

pub overflow_sub-low : goal.overflow_sub-low
overflow_sub-low c = mod-le _ _

pub returns-then-tail-next : goal.returns-then-tail-next
returns-then-tail-next c = let args = c.args in turn_here args.ring args.tail args.p args.tail (omega arith) (omega (arith, c.if-tail-next.true))

pub returns : goal.returns
returns c = let args = c.args in turn_here args.ring args.tail args.p _ (omega (arith, c.if-tail-next.false)) (omega arith)
