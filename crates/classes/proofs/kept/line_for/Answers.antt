-- `classes::kept::line_for` meets its contract: no line before i covers the class. Assumes nothing.
use mathlib.Core.Path.{sym, ◌∙◌}
use native.Mathlib.Omega.{arith}
use borrow.Author.Count.{below_none, below_more}
use Rattle.model.proofs.Below.{first_unique, first_none}
use Rattle.classes.proofs.kept.line_for.Goals as goal

pub loop-i-init : goal.loop-i-init
loop-i-init c = below_none _

pub returns-then-covers : goal.returns-then-covers
returns-then-covers c =
    let l = c.loop-i in
    (sym (first_unique _ _ l.i (omega arith) (sym c.covers.ensures ∙ c.if-covers.true) l.invariant), omega arith)

pub loop-i-preserved : goal.loop-i-preserved
loop-i-preserved c =
    let l = c.loop-i in
    below_more _ _ l.invariant (sym c.covers.ensures ∙ c.if-covers.false)

pub returns : goal.returns
returns c =
    let l = c.loop-i in
    first_none _ _ (λ j h. l.invariant j (omega arith))
