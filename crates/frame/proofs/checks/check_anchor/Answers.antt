-- `frame::checks::check_anchor` meets its contract: by the test. Assumes nothing.
use mathlib.Core.Path.{refl}
use borrow.Author.Tests.{eq-eqb, ne_eqb}
use Rattle.frame.specs.Checks.{anchor_refusal}
use Rattle.frame.proofs.checks.check_anchor.Goals as goal

pub returns-then-anchor-eq-ANCHOR_WORDS : goal.returns-then-anchor-eq-ANCHOR_WORDS
unfolding anchor_refusal
returns-then-anchor-eq-ANCHOR_WORDS c = rw (eq-eqb _ _ c.if-anchor-eq-ANCHOR_WORDS.true) refl

pub returns-else-anchor-eq-ANCHOR_WORDS : goal.returns-else-anchor-eq-ANCHOR_WORDS
unfolding anchor_refusal
returns-else-anchor-eq-ANCHOR_WORDS c = rw (ne_eqb _ _ c.if-anchor-eq-ANCHOR_WORDS.false) refl
