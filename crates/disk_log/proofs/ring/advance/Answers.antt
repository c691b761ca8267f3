-- `disk_log::ring::advance` meets its contract, on this side of the ring's end and past it.
use native.Mathlib.Omega.{arith}
use Rattle.disk_log.proofs.Rings.{step_on, step_round}
use Rattle.disk_log.proofs.ring.advance.Goals as goal

pub returns-then-next-size : goal.returns-then-next-size
returns-then-next-size c = let pre = c.requires in (c.if-next-size.true, step_on _ _ _ pre.0 pre.1 c.if-next-size.true)

pub returns-else-next-size : goal.returns-else-next-size
returns-else-next-size c = let pre = c.requires in (omega (arith, pre), step_round _ _ _ pre.0 pre.1 c.if-next-size.false)
