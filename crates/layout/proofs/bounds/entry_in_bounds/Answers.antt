use Rattle.layout.proofs.Faults.{slots_large, width_large, no_fault}
use Rattle.layout.proofs.bounds.entry_in_bounds.Goals as goal

pub returns-then-slots-gt255 : goal.returns-then-slots-gt255
returns-then-slots-gt255 c =
    let x = c.args in
    slots_large x.slots x.width x.used c.if-slots-gt255.true

pub returns-then-width-gt255 : goal.returns-then-width-gt255
returns-then-width-gt255 c =
    let x = c.args in
    width_large x.slots x.width x.used c.if-width-gt255.true

pub returns-then-used : goal.returns-then-used
returns-then-used c = rw c.if-used.true (no_fault _ _ c.used_fault.ensures.1)

pub returns : goal.returns
returns c = rw c.if-used.false (no_fault _ _ c.unused_fault.ensures.1)
