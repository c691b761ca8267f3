-- `classes::kept::column` meets its contract: the first i lines are read. Assumes nothing.
use mathlib.Core.Path.{sym, ◌∙◌}
use native.Mathlib.Omega.{arith}
use borrow.Author.Count.{below_more}
use lib.ListN.{length-set}
use lib.Seq.{ext_get_or, get_or-set_same, get_or-set_other}
use Rattle.model.proofs.Below.{length_list, get_or_list}
use Rattle.classes.proofs.kept.column.Goals as goal

pub byte_at-requires : goal.byte_at-requires
byte_at-requires c = c.requires.1 _

pub loop-i-preserved : goal.loop-i-preserved
loop-i-preserved c =
    let l = c.loop-i in (
      simp length-set l.invariant.0,
      below_more _ _ (λ k h. get_or-set_other l.out l.i k _ 0 (λ e. omega arith) ∙ l.invariant.1 k h)
          (get_or-set_same l.out l.i _ 0 (omega arith) ∙ c.byte_at.ensures),
    )

pub returns : goal.returns
returns c =
    let l = c.loop-i in
    ext_get_or 0 l.out _ (l.invariant.0 ∙ sym (length_list _ 16)) (λ k h. l.invariant.1 k (omega arith) ∙ sym (get_or_list _ 16 k 0 (omega arith)))
