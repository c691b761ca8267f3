-- `head::lists::bytes_at` meets its contract: each word of the part is made narrower. Assumes nothing.
use Rattle.std.proofs.Common.{arith, ◌≡◌, ◌+◌, ◌-◌, min}
use Rattle.model.specs.Word.{part}
use Rattle.head.specs.Narrow.{capped, byte_most}
use Rattle.head.proofs.lists.bytes_at.Goals as goal

pub returns : goal.returns
unfolding capped part
returns c =
    let read : c.args.at + 64 - c.args.at ≡ 64 = omega arith in
    rw read at (c.narrow.ensures (min byte_most) (λ x y fits narrowed. omega (arith, narrowed)))
