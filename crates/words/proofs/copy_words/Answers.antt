-- `words::copy_words` meets its contract: a part of the target becomes a part of the source. Assumes nothing.
use Rattle.std.proofs.Common.{arith, ◌∙◌}
use Rattle.model.proofs.Parts.{length_part}
use Rattle.words.proofs.Laws.{part_same, put_part, put_wide}
use Rattle.words.proofs.copy_words.Goals as goal

pub returns : goal.returns
returns c =
    let s = c.args in
    put_wide _ _ s.at s.n (omega arith)
    (put_part _ s.at s.n _ _ (c.copy_from_slice.ensures.after ∙ part_same _ s.n s.from (omega arith) (omega arith)) (length_part s.from s.n s.source.now (omega arith)) (omega arith))
