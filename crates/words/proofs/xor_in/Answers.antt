-- `words::xor_in` meets its contract: after i turns the first i words are XORed in. Assumes nothing.
use mathlib.Core.Path.{◌≡◌}
use native.Mathlib.Omega.{arith}
use Rattle.words.proofs.Laws.{xor_in_none, xor_in_more}
use Rattle.words.proofs.xor_in.Goals as goal

pub loop-i-init : goal.loop-i-init
loop-i-init c = xor_in_none _ _ _ _

pub loop-i-preserved : goal.loop-i-preserved
loop-i-preserved c =
    let s = c.args in
    let l = c.loop-i in
    rw l.invariant (xor_in_more s.target.now s.at s.source.now s.from l.i (omega arith) (omega arith))

pub returns : goal.returns
returns c =
    let e : c.loop-i.i ≡ c.args.n = omega arith in
    rw (← e) c.loop-i.invariant
