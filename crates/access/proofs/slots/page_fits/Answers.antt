-- `access::slots::page_fits` meets its contract: one bound after the other. Assumes nothing.
use native.Mathlib.Omega.{arith}
use Rattle.layout.proofs.Laws.{product_max}
use Rattle.layout.proofs.Faults.{no_words, too_many, too_wide, all_right}
use Rattle.access.proofs.SlotBounds.{page_out, many_slots, base_out, page_in}
use Rattle.access.proofs.slots.page_fits.Goals.{then-slots-gt128-via-then-slots-gt128, then-slots-gt128-via-else-slots-gt128+then-width-gt32, then-slots-gt128-via-else-slots-gt128+else-width-gt32+then-base-total, then-words-eq0-via-then-words-eq0, then-words-eq0-via-else-words-eq0+then-words-gt128}
use Rattle.access.proofs.slots.page_fits.Goals as goal

pub returns-then-slots-gt128 : goal.returns-then-slots-gt128
returns-then-slots-gt128 c =
    let x = c.args in
    elim c.then-slots-gt128.branch [
      | then-slots-gt128-via-then-slots-gt128 w ↦ page_out x.slots x.width x.base x.total (many_slots x.slots x.width x.base x.total w.if-slots-gt128.true)
      | then-slots-gt128-via-else-slots-gt128+then-width-gt32 w ↦ page_out x.slots x.width x.base x.total (too_wide x.slots x.width w.if-width-gt32.true)
      | then-slots-gt128-via-else-slots-gt128+else-width-gt32+then-base-total w ↦ base_out x.slots x.width x.base x.total w.if-base-total.true
    ]

pub overflow_mul-words : goal.overflow_mul-words
overflow_mul-words c = let x = c.args in record { fits = omega (arith, product_max x.slots x.width 128 32 c.if-slots-gt128.false c.if-width-gt32.false) }

pub returns-then-words-eq0 : goal.returns-then-words-eq0
returns-then-words-eq0 c =
    let x = c.args in
    elim c.then-words-eq0.branch [
      | then-words-eq0-via-then-words-eq0 w ↦ page_out x.slots x.width x.base x.total (no_words x.slots x.width w.if-words-eq0.true)
      | then-words-eq0-via-else-words-eq0+then-words-gt128 w ↦ page_out x.slots x.width x.base x.total (too_many x.slots x.width w.if-words-gt128.true)
    ]

pub returns : goal.returns
returns c =
    let x = c.args in
    page_in x.slots x.width x.base x.total
    (all_right x.slots x.width c.if-words-eq0.false c.if-words-gt128.false c.if-width-gt32.false)
