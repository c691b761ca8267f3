-- `frame::sizes::known_sizes` meets its contract: sizes within their bounds are bytes. Assumes nothing.
use mathlib.Core.Path.{refl, sym, ◌∙◌}
use Rattle.model.proofs.Bounds.{bounded}
use Rattle.frame.proofs.KnownSizes.{head_out}
use Rattle.frame.proofs.sizes.known_sizes.Goals as goal

pub returns-then-above_bytes-ne0 : goal.returns-then-above_bytes-ne0
returns-then-above_bytes-ne0 c =
    let x = c.args in
    rw (head_out x.pages x.disks x.ring x.work.now c.if-above_bytes-ne0.true c.above_bytes.ensures.1) refl

pub returns-then-not-sizes_in_bounds : goal.returns-then-not-sizes_in_bounds
returns-then-not-sizes_in_bounds c =
    rw (← c.sizes_at-sizes.ensures, sym c.sizes_in_bounds.ensures ∙ c.if-not-sizes_in_bounds.true) refl

pub total-requires : goal.total-requires
total-requires c = (bounded _ (sym c.sizes_in_bounds.ensures ∙ c.if-not-sizes_in_bounds.false)).pages_max
