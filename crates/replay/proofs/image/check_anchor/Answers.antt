-- `replay::image::check_anchor` meets its contract: the tests in the definition's order. Assumes nothing.
use borrow.Author.Tests.{eq-eqb, ne_eqb}
use Rattle.model.specs.Anchor.{epoch_on}
use Rattle.replay.specs.Parts.{anchor_refusal}
use Rattle.replay.proofs.image.check_anchor.Goals as goal

pub returns-then-anchor-ne-ANCHOR_WORDS : goal.returns-then-anchor-ne-ANCHOR_WORDS
unfolding anchor_refusal
returns-then-anchor-ne-ANCHOR_WORDS c = rw (ne_eqb _ _ c.if-anchor-ne-ANCHOR_WORDS.true)

pub returns-then-anchor-eq0 : goal.returns-then-anchor-eq0
unfolding anchor_refusal epoch_on
returns-then-anchor-eq0 c = rw (eq-eqb _ _ c.if-anchor-ne-ANCHOR_WORDS.false, eq-eqb _ _ c.if-anchor-eq0.true)

pub returns-then-in_bounds : goal.returns-then-in_bounds
unfolding anchor_refusal epoch_on
returns-then-in_bounds c =
    rw (eq-eqb _ _ c.if-anchor-ne-ANCHOR_WORDS.false, ne_eqb _ _ c.if-anchor-eq0.false, ← c.read_sizes.ensures, ← c.in_bounds.ensures, c.if-in_bounds.true)

pub returns-else-in_bounds : goal.returns-else-in_bounds
unfolding anchor_refusal epoch_on
returns-else-in_bounds c =
    rw (eq-eqb _ _ c.if-anchor-ne-ANCHOR_WORDS.false, ne_eqb _ _ c.if-anchor-eq0.false, ← c.read_sizes.ensures, ← c.in_bounds.ensures, c.if-in_bounds.false)
