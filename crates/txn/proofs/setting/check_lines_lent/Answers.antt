-- `txn::setting::check_lines_lent` meets its contract: the tests in the order of the rows. Assumes nothing.
use mathlib.Core.Path.{refl, sym, ◌∙◌}
use Rattle.txn.specs.ClassChecks.{lent_fault}
use Rattle.txn.proofs.setting.check_lines_lent.Goals as goal

pub returns-then-not-is_serving : goal.returns-then-not-is_serving
unfolding lent_fault
returns-then-not-is_serving c = rw (sym c.is_serving.ensures ∙ c.if-not-is_serving.true) refl

pub returns-then-not-counts_fit : goal.returns-then-not-counts_fit
unfolding lent_fault
returns-then-not-counts_fit c = rw (sym c.is_serving.ensures ∙ c.if-not-is_serving.false, sym c.counts_fit.ensures ∙ c.if-not-counts_fit.true) refl

pub returns-then-not-is_own : goal.returns-then-not-is_own
unfolding lent_fault
returns-then-not-is_own c =
    rw (sym (c.is_own.ensures c.args.carried.now c.args.work.now refl refl refl refl) ∙ c.if-not-is_own.true, sym c.is_serving.ensures ∙ c.if-not-is_serving.false, sym c.counts_fit.ensures ∙ c.if-not-counts_fit.false) refl

pub returns-then-not_a_table : goal.returns-then-not_a_table
unfolding lent_fault
returns-then-not_a_table c =
    rw (
      sym (c.is_own.ensures c.args.carried.now c.args.work.now refl refl refl refl) ∙ c.if-not-is_own.false,
      sym c.is_serving.ensures ∙ c.if-not-is_serving.false,
      sym c.counts_fit.ensures ∙ c.if-not-counts_fit.false,
      sym c.not_a_table.ensures ∙ c.if-not_a_table.true,
    )
    refl

pub returns-else-not_a_table : goal.returns-else-not_a_table
unfolding lent_fault
returns-else-not_a_table c =
    rw (
      sym (c.is_own.ensures c.args.carried.now c.args.work.now refl refl refl refl) ∙ c.if-not-is_own.false,
      sym c.is_serving.ensures ∙ c.if-not-is_serving.false,
      sym c.counts_fit.ensures ∙ c.if-not-counts_fit.false,
      sym c.not_a_table.ensures ∙ c.if-not_a_table.false,
    )
    refl
