-- `table::counted::add_place` meets its contract: each sum is as it was, or has the place's words more. Assumes nothing.
use native.Mathlib.Omega.{arith}
use Rattle.table.proofs.Sums.{free_adds, away_adds, place_adds}
use Rattle.table.proofs.counted.add_place.Goals as goal

pub returns-then-number-eq0 : goal.returns-then-number-eq0
returns-then-number-eq0 c d h =
    let a = c.args in
    free_adds a.sums.now a.number a.disk a.words d c.if-number-eq0.true (c.requires.1 d h)

pub returns-then-disk-ge8 : goal.returns-then-disk-ge8
returns-then-disk-ge8 c d h =
    let a = c.args in
    away_adds a.sums.now a.number a.disk a.words d (omega (arith, h, c.if-disk-ge8.true)) (c.requires.1 d h)

pub returns : goal.returns
returns c d h =
    let a = c.args in
    place_adds a.sums.now a.number a.disk a.words d c.capped.result c.if-number-eq0.false (omega (arith, c.if-disk-ge8.false, c.requires.0))
    (c.requires.1 d h) c.capped.ensures
