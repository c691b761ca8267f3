-- `classes::lines::wrong_line` meets its contract: no line before i is wrong. Assumes nothing.
use mathlib.Core.Path.{sym, ◌∙◌}
use native.Mathlib.Omega.{arith}
use borrow.Author.Count.{below_none, below_more}
use Rattle.model.specs.Classes.{low_at, high_at, set_at, line_count, wrong_line}
use Rattle.model.proofs.Below.{first_unique, first_none}
use Rattle.classes.proofs.lines.wrong_line.Goals as goal

pub loop-i-init : goal.loop-i-init
loop-i-init c = below_none _

pub returns-then-line_wrong : goal.returns-then-line_wrong
unfolding wrong_line line_count low_at high_at set_at
returns-then-line_wrong c =
    let l = c.loop-i in
    (sym (first_unique _ _ l.i (omega arith) (sym c.line_wrong.ensures ∙ c.if-line_wrong.true) l.invariant), omega arith)

pub loop-i-preserved : goal.loop-i-preserved
unfolding low_at high_at set_at
loop-i-preserved c =
    let l = c.loop-i in
    below_more _ _ l.invariant (sym c.line_wrong.ensures ∙ c.if-line_wrong.false)

pub returns : goal.returns
unfolding wrong_line line_count
returns c =
    let l = c.loop-i in
    first_none _ _ (λ j h. l.invariant j (omega arith))
