-- The loop's invariant: the first i bytes are done.
use mathlib.Core.Path.{◌≡◌, refl}
use native.Mathlib.Omega.{arith}
use borrow.Author.Rules.{rules}
use lib.ListN.{length, length-set}
use Rattle.layout.proofs.Laws.{fill_more, fill_end}
use Rattle.layout.proofs.bounds.bytes_of.Goals as goal

pub overflow_cast-bytes : goal.overflow_cast-bytes
overflow_cast-bytes c = omega (arith, c.requires c.loop-i.i (omega arith))

pub loop-i-preserved : goal.loop-i-preserved
loop-i-preserved c =
    let words = c.args.words in
    let inv = c.loop-i.invariant in
    let long : length words ≡ 64 = search rules in
    (simp length-set inv.0, fill_more c.loop-i.bytes words c.loop-i.i _ (omega arith) (omega arith) refl inv.1)

pub returns : goal.returns
returns c =
    let words = c.args.words in
    let inv = c.loop-i.invariant in
    fill_end c.loop-i.bytes words 64 c.loop-i.i (omega arith) inv.0 (search rules) inv.1
