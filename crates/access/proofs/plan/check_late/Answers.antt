-- `access::plan::check_late` meets its contract: held by another, without room, or neither. Assumes nothing.
use mathlib.Core.Path.{refl}
use native.Mathlib.Omega.{arith}
use Rattle.model.specs.Record.{update_kind}
use Rattle.model.proofs.RecordSizes.{words_most}
use Rattle.access.proofs.plan.check_late.Goals as goal

pub returns-then-is_locked : goal.returns-then-is_locked
returns-then-is_locked c h own same = rw (← c.is_locked.ensures h own same, c.if-is_locked.true) refl

pub overflow_mul-need : goal.overflow_mul-need
overflow_mul-need c =
    omega (arith, c.words_of-need.ensures, words_most update_kind c.args.found.width, c.requires.disks_bound.2)

pub fits_ring-requires : goal.fits_ring-requires
fits_ring-requires c =
    omega (arith, c.words_of-need.ensures, words_most update_kind c.args.found.width, c.requires.disks_bound.2, c.requires.sum_bound)

pub returns-then-fits_ring : goal.returns-then-fits_ring
returns-then-fits_ring c h own same = rw (← c.is_locked.ensures h own same, c.if-is_locked.false, ← c.words_of-need.ensures, ← c.fits_ring.ensures, c.if-fits_ring.true) refl

pub returns-else-fits_ring : goal.returns-else-fits_ring
returns-else-fits_ring c h own same = rw (← c.is_locked.ensures h own same, c.if-is_locked.false, ← c.words_of-need.ensures, ← c.fits_ring.ensures, c.if-fits_ring.false) refl
