-- `access::slots::find_slot` meets its contract: by cases on the page's words. Assumes nothing.
use mathlib.Core.Path.{sym, ◌∙◌}
use native.Mathlib.Omega.{arith}
use Rattle.access.proofs.SlotBounds.{page_bounds, slot_beyond, slot_high, page_unfit, slot_found}
use Rattle.access.proofs.slots.find_slot.Goals as goal

pub returns-then-page-pages : goal.returns-then-page-pages
returns-then-page-pages c h own pages total = slot_beyond h _ own _ _ pages total c.if-page-pages.true

pub returns-then-slot-slots : goal.returns-then-slot-slots
returns-then-slot-slots c h own pages total =
    slot_high h _ own _ _ pages total c.if-page-pages.false c.requires.0 c.if-slot-slots.true

pub returns-then-not-page_fits : goal.returns-then-not-page_fits
returns-then-not-page_fits c h own pages total =
    page_unfit h _ own _ _ pages total c.if-page-pages.false c.requires.0
    c.if-slot-slots.false c.page_fits.ensures (c.if-not-page_fits.true)

pub overflow_mul-result : goal.overflow_mul-result
overflow_mul-result c =
    let fits = page_bounds _ _ _ _ c.if-slot-slots.false (sym c.page_fits.ensures ∙ c.if-not-page_fits.false) in
    record { fits = omega (arith, fits.0) }

pub overflow_add-result : goal.overflow_add-result
overflow_add-result c =
    let fits = page_bounds _ _ _ _ c.if-slot-slots.false (sym c.page_fits.ensures ∙ c.if-not-page_fits.false) in
    record { fits = omega (arith, fits.2, c.requires.1) }

pub returns : goal.returns
returns c h own pages total =
    slot_found h _ own _ _ pages total c.if-page-pages.false c.requires.0
    c.if-slot-slots.false c.page_fits.ensures (c.if-not-page_fits.false)
