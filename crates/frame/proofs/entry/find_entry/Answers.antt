-- `frame::entry::find_entry` meets its contract: by cases on the words of the head. Assumes nothing.
use mathlib.Core.Path.{sym}
use native.Mathlib.Omega.{arith}
use Rattle.frame.proofs.Entries.{entry_zero, entry_none, entry_outside, entry_unfit, entry_found}
use Rattle.frame.proofs.entry.find_entry.Goals as goal

pub returns-then-number-eq0 : goal.returns-then-number-eq0
returns-then-number-eq0 c h own disks tails = entry_zero _ _ c.if-number-eq0.true

pub returns-in_default : goal.returns-in_default
returns-in_default c h own disks tails =
    entry_none h _ own _ c.if-number-eq0.false (sym (c.in_default.ensures.found h own)) (omega arith)

pub returns-then-disk-disks : goal.returns-then-disk-disks
returns-then-disk-disks c h own disks tails =
    entry_outside h _ own _ c.if-number-eq0.false (c.in-Some.ensures.found h own) c.in-Some.ensures.low disks tails c.if-disk-disks.true

pub returns-then-not-place_fits : goal.returns-then-not-place_fits
returns-then-not-place_fits c h own disks tails =
    entry_unfit h _ own _ c.if-number-eq0.false (c.in-Some.ensures.found h own) c.in-Some.ensures.low disks tails c.if-disk-disks.false c.requires.0
    c.place_fits.ensures (c.if-not-place_fits.true)

pub returns : goal.returns
returns c h own disks tails =
    entry_found h _ own _ c.if-number-eq0.false (c.in-Some.ensures.found h own) c.in-Some.ensures.low disks tails c.if-disk-disks.false c.requires.0
    c.place_fits.ensures (c.if-not-place_fits.false)
