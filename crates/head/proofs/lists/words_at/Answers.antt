-- `head::lists::words_at` meets its contract: the words are copied over the whole array. Assumes nothing.
use Rattle.std.proofs.Common.{arith, ◌≡◌, ◌+◌, ◌-◌}
use Rattle.model.specs.Word.{part}
use Rattle.head.proofs.lists.words_at.Goals as goal

pub returns : goal.returns
unfolding part
returns g c =
    let read : c.args.at + g.row.N - c.args.at ≡ g.row.N = omega arith in
    rw read at c.copy_from_slice.ensures.after
