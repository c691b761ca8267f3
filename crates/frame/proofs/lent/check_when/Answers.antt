-- `frame::lent::check_when` meets its contract: the tests in their order. Assumes nothing.
use mathlib.Core.Path.{refl, sym, ◌∙◌}
use borrow.Author.Tests.{eq-eqb, ne_eqb}
use Rattle.frame.specs.Lent.{lent_refusal}
use Rattle.frame.proofs.Fitting.{counted}
use Rattle.frame.proofs.lent.check_when.Goals as goal

pub returns-then-not-allowed : goal.returns-then-not-allowed
unfolding lent_refusal
returns-then-not-allowed c = rw (c.if-not-allowed.true) refl

pub returns-then-not-counts_fit : goal.returns-then-not-counts_fit
unfolding lent_refusal
returns-then-not-counts_fit c = rw (c.if-not-allowed.false, sym c.counts_fit.ensures ∙ c.if-not-counts_fit.true) refl

pub lengths_right-requires : goal.lengths_right-requires
lengths_right-requires c =
    let n = counted (sym c.counts_fit.ensures ∙ c.if-not-counts_fit.false) in
    (n.disks_max, n.ring_max, n.total_max)

pub returns-then-lengths_right : goal.returns-then-lengths_right
unfolding lent_refusal
returns-then-lengths_right c =
    rw (
      c.if-not-allowed.false,
      sym c.counts_fit.ensures ∙ c.if-not-counts_fit.false,
      ← c.body_words-body.ensures,
      sym c.lengths_right.ensures ∙ c.if-lengths_right.true,
    ) refl

pub returns-then-anchor-eq-ANCHOR_WORDS : goal.returns-then-anchor-eq-ANCHOR_WORDS
unfolding lent_refusal
returns-then-anchor-eq-ANCHOR_WORDS c =
    rw (
      c.if-not-allowed.false,
      sym c.counts_fit.ensures ∙ c.if-not-counts_fit.false,
      ← c.body_words-body.ensures,
      sym c.lengths_right.ensures ∙ c.if-lengths_right.false,
      eq-eqb _ _ c.if-anchor-eq-ANCHOR_WORDS.true,
    ) refl

pub returns-else-anchor-eq-ANCHOR_WORDS : goal.returns-else-anchor-eq-ANCHOR_WORDS
unfolding lent_refusal
returns-else-anchor-eq-ANCHOR_WORDS c =
    rw (
      c.if-not-allowed.false,
      sym c.counts_fit.ensures ∙ c.if-not-counts_fit.false,
      ← c.body_words-body.ensures,
      sym c.lengths_right.ensures ∙ c.if-lengths_right.false,
      ne_eqb _ _ c.if-anchor-eq-ANCHOR_WORDS.false,
    ) refl
