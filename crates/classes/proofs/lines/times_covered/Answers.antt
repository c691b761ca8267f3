-- `classes::lines::times_covered` meets its contract: the sum over the lines before i. Assumes nothing.
use Prim.Native.Nat.{◌+◌, ◌/◌}
use mathlib.Core.Path.{◌≡◌, refl, ◌∙◌}
use mathlib.Core.Bool.{cond}
use native.Mathlib.Omega.{arith}
use borrow.Author.Rules.{rules}
use lib.ListN.{length}
use Rattle.model.specs.Below.{sum_below}
use Rattle.model.specs.Classes.{low_at, high_at, line_count, times_covered}
use Rattle.classes.proofs.Tables.{covered_more}
use Rattle.classes.proofs.lines.times_covered.Goals as goal
use Rattle.classes.proofs.lines.times_covered.Goals.{then-covers, else-covers}

pub loop-i-init : goal.loop-i-init
unfolding sum_below
loop-i-init c = (search rules, refl)

pub loop-i-preserved : goal.loop-i-preserved
unfolding low_at high_at
loop-i-preserved c =
    let s = c.args in
    let l = c.loop-i in
    let grown : c.if-covers.times ≡ l.times + cond c.covers.result 1 0 =
    elim c.if-covers.branch [ then-covers w ↦ rw w.if-covers.true w.times-is | else-covers w ↦ rw w.if-covers.false (omega arith) ] in (
      elim c.if-covers.branch [ then-covers w ↦ omega arith | else-covers w ↦ omega arith ],
      grown ∙ covered_more s.lines.now s.class l.i l.times l.invariant.1 c.covers.ensures,
    )

pub returns : goal.returns
unfolding times_covered line_count
returns c =
    let l = c.loop-i in
    let last : l.i ≡ length c.args.lines.now / 3 = omega arith in
    rw last at l.invariant.1
