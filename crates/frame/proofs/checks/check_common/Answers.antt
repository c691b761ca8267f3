-- `frame::checks::check_common` meets its contract: rows 1, 2 and 5 by their tests. Assumes nothing.
use mathlib.Core.Path.{sym, ◌∙◌}
use Rattle.frame.proofs.Fitting.{counted}
use Rattle.frame.proofs.Verdicts.{stage_refused, counts_refused, lengths_refused, state_refused, anchor_asked}
use Rattle.frame.proofs.checks.check_common.Goals as goal

pub returns-then-not-is_allowed : goal.returns-then-not-is_allowed
returns-then-not-is_allowed c = stage_refused _ _ _ (sym c.is_allowed.ensures ∙ c.if-not-is_allowed.true)

pub returns-then-not-counts_fit : goal.returns-then-not-counts_fit
returns-then-not-counts_fit c = counts_refused _ _ _ (sym c.is_allowed.ensures ∙ c.if-not-is_allowed.false) (sym c.counts_fit.ensures ∙ c.if-not-counts_fit.true)

pub lengths_right-requires : goal.lengths_right-requires
lengths_right-requires c =
    let b = counted (sym c.counts_fit.ensures ∙ c.if-not-counts_fit.false) in
    (b.disks_max, b.ring_max, b.total_max)

pub returns-then-not-lengths_right : goal.returns-then-not-lengths_right
returns-then-not-lengths_right c =
    lengths_refused _ _ _ (sym c.is_allowed.ensures ∙ c.if-not-is_allowed.false) (sym c.counts_fit.ensures ∙ c.if-not-counts_fit.false) c.lengths_right.ensures
    (c.if-not-lengths_right.true) c.check_anchor.ensures

pub returns-then-not-is_sound : goal.returns-then-not-is_sound
returns-then-not-is_sound c =
    state_refused _ _ _ (sym c.is_allowed.ensures ∙ c.if-not-is_allowed.false) (sym c.counts_fit.ensures ∙ c.if-not-counts_fit.false) c.lengths_right.ensures
    (c.if-not-lengths_right.false) (sym c.is_sound.ensures ∙ c.if-not-is_sound.true)

pub returns : goal.returns
returns c =
    anchor_asked _ _ _ (sym c.is_allowed.ensures ∙ c.if-not-is_allowed.false) (sym c.counts_fit.ensures ∙ c.if-not-counts_fit.false) c.lengths_right.ensures
    (c.if-not-lengths_right.false) (sym c.is_sound.ensures ∙ c.if-not-is_sound.false) c.check_anchor-2.ensures
