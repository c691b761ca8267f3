-- `words::fill_words` meets its contract: a part of the target becomes n times the value. Assumes nothing.
use Rattle.std.proofs.Common.{arith, ◌≡◌, ◌+◌, ◌-◌}
use lib.ListN.{length-replicate}
use Rattle.model.specs.Word.{part}
use Rattle.model.proofs.Parts.{length_part}
use Rattle.words.proofs.Laws.{put_part}
use Rattle.words.proofs.fill_words.Goals as goal

pub returns : goal.returns
unfolding part
returns c =
    let s = c.args in
    let written : s.at + s.n - s.at ≡ s.n = omega arith in
    let filled = rw (written, length_part s.at s.n s.target.now (omega arith)) at (c.fill.ensures.after (λ y same. same)) in
    rw written (put_part _ s.at s.n _ _ filled (length-replicate s.n s.value) (omega arith))
