-- `listing::call::list` meets its contract: rows 1 to 5, and then the others. Assumes nothing.
use mathlib.Core.Path.{refl, sym, ◌∙◌}
use Rattle.std.proofs.lemmas.Result.{err_from_is_err_and}
use Rattle.model.proofs.Bounds.{bounded}
use Rattle.replay.proofs.Checks.{anchor_passed}
use Rattle.listing.proofs.Calling.{list_stage, list_anchor, list_lent, list_rest, logs_short, bytes_wrong_lem, lent_right}
use Rattle.model.specs.Sizes.{log_words}
use Rattle.listing.proofs.call.list.Goals as goal

pub returns-then-not-is_shut : goal.returns-then-not-is_shut
returns-then-not-is_shut c =
    rw c.from.ensures (list_stage _ _ _ _ _ _ (sym c.is_shut.ensures ∙ c.if-not-is_shut.true))

pub returns-in_err-check_anchor : goal.returns-in_err-check_anchor
returns-in_err-check_anchor c =
    let p = err_from_is_err_and c.from_residual.result c.from_residual.ensures.1 in
    rw (p.1, p.2) (list_anchor _ _ _ _ _ _ (sym c.is_shut.ensures ∙ c.if-not-is_shut.false) refl _ c.in_err-check_anchor.ensures)

pub anchor_sizes-sizes-requires : goal.anchor_sizes-sizes-requires
anchor_sizes-sizes-requires c = anchor_passed _ (sym c.in_ok-check_anchor.ensures)

pub disk_at-requires : goal.disk_at-requires
disk_at-requires c =
    let inside = (anchor_passed _ (sym c.in_ok-check_anchor.ensures)).1 in
    let b = bounded c.anchor_sizes-sizes.result (rw c.anchor_sizes-sizes.ensures inside) in
    (b.disks_max, b.ring_max)

pub returns-then-logs-disk_at : goal.returns-then-logs-disk_at
unfolding log_words
returns-then-logs-disk_at c =
    let s = c.anchor_sizes-sizes.result in
    let a = c.args in
    rw c.from-then-logs-disk_at.ensures (list_lent _ _ _ _ _ _ (sym c.is_shut.ensures ∙ c.if-not-is_shut.false) c.in_ok-check_anchor.ensures refl
    (rw c.anchor_sizes-sizes.ensures at (logs_short a.wrong a.logs.now s (λ e. c.if-logs-disk_at.true (e ∙ sym (c.disk_at.ensures.0 s refl))))))

pub returns-then-wrong : goal.returns-then-wrong
returns-then-wrong c =
    let s = c.anchor_sizes-sizes.result in
    let a = c.args in
    rw c.from-then-wrong.ensures (list_lent _ _ _ _ _ _ (sym c.is_shut.ensures ∙ c.if-not-is_shut.false) c.in_ok-check_anchor.ensures refl
    (rw c.anchor_sizes-sizes.ensures at (bytes_wrong_lem a.logs.now s c.if-wrong.true)))

pub list_on-requires : goal.list_on-requires
unfolding log_words
list_on-requires c =
    let s = c.anchor_sizes-sizes.result in
    let passed = anchor_passed _ (sym c.in_ok-check_anchor.ensures) in
    (c.anchor_sizes-sizes.ensures, rw c.anchor_sizes-sizes.ensures passed.1, passed.0, c.if-logs-disk_at.false ∙ c.disk_at.ensures.0 s refl)

pub returns : goal.returns
unfolding log_words
returns c =
    let s = c.anchor_sizes-sizes.result in
    let a = c.args in
    list_rest _ _ _ _ _ _ (sym c.is_shut.ensures ∙ c.if-not-is_shut.false) c.in_ok-check_anchor.ensures refl
    (rw c.anchor_sizes-sizes.ensures at (lent_right a.logs.now s (c.if-logs-disk_at.false ∙ c.disk_at.ensures.0 s refl) c.if-wrong.false))
    c.list_on.ensures
