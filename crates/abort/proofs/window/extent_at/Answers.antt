-- `abort::window::extent_at` meets its contract: by the tip's numbers. Assumes nothing.
use native.Mathlib.Omega.{arith}
use Rattle.abort.proofs.Tips.{tip_tail, tip_end}
use Rattle.abort.proofs.window.extent_at.Goals as goal

pub overflow_add-tip : goal.overflow_add-tip
overflow_add-tip c = omega (arith, tip_end c.args.disk c.args.tip c.requires.0, c.requires.2)

pub extent_of-requires : goal.extent_of-requires
extent_of-requires c = (omega (arith, c.requires.0), c.requires.1)

pub returns : goal.returns
returns c = rw (tip_end c.args.disk c.args.tip c.requires.0, tip_tail c.args.disk c.args.tip c.requires.0) c.extent_of.ensures
