-- `head::lists::put_numbers` meets its contract: after i turns the first i numbers are laid. Assumes nothing.
use Rattle.std.proofs.Common.{arith}
use Rattle.head.proofs.Capped.{laid_more}
use Rattle.head.proofs.lists.put_numbers.Goals as goal

pub loop-i-preserved : goal.loop-i-preserved
loop-i-preserved g c word is =
    let s = c.args in
    let l = c.loop-i in
    let x = c.index-numbers-i in
    rw (l.invariant word is) (laid_more word s.work.now s.at s.numbers.now l.i x.result c.into.result (omega arith) x.is (is _ _ c.into.ensures))
