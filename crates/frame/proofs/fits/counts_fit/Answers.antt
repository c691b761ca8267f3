-- `frame::fits::counts_fit` meets its contract: by cases on the first test. Assumes nothing.
use mathlib.Core.Path.{refl, sym, ◌∙◌}
use Rattle.frame.specs.Fits.{counts_within}
use Rattle.frame.proofs.fits.counts_fit.Goals as goal

pub returns-then-not-counts_in_bounds : goal.returns-then-not-counts_in_bounds
unfolding counts_within
returns-then-not-counts_in_bounds c = rw (sym c.counts_in_bounds.ensures ∙ c.if-not-counts_in_bounds.true) refl

pub returns : goal.returns
unfolding counts_within
returns c = rw (sym c.counts_in_bounds.ensures ∙ c.if-not-counts_in_bounds.false) refl
