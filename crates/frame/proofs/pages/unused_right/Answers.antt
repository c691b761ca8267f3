-- `frame::pages::unused_right` meets its contract: the entries passed are right. Assumes nothing.
use mathlib.Core.Bool.{true, and-false}
use mathlib.Core.Path.{◌≡◌, refl}
use native.Mathlib.Omega.{arith}
use borrow.Author.Tests.{le-ltb, eq-eqb, ne_eqb}
use Rattle.model.proofs.Below.{all_more}
use Rattle.frame.specs.Pages.{unused_at}
use Rattle.frame.proofs.PagesRight.{unused_begins, unused_wrong, unused_done}
use Rattle.frame.proofs.pages.unused_right.Goals as goal

pub loop-i-init : goal.loop-i-init
loop-i-init c = let x = c.args in unused_begins x.work.now x.from x.total

pub returns-then-work-i-ne0 : goal.returns-then-work-i-ne0
returns-then-work-i-ne0 c =
    let x = c.args in
    let i = c.loop-i.i in
    unused_wrong x.work.now x.from x.total i (omega arith) (rw (le-ltb i x.from c.loop-i.auto.i, ne_eqb _ _ c.if-work-i-ne0.true) refl)

pub returns-then-work-i-ne0-2 : goal.returns-then-work-i-ne0-2
returns-then-work-i-ne0-2 c =
    let x = c.args in
    let i = c.loop-i.i in
    unused_wrong x.work.now x.from x.total i (omega arith) (rw (le-ltb i x.from c.loop-i.auto.i, ne_eqb _ _ c.if-work-i-ne0-2.true, and-false) refl)

pub returns-then-work-i : goal.returns-then-work-i
returns-then-work-i c =
    let x = c.args in
    let i = c.loop-i.i in
    unused_wrong x.work.now x.from x.total i (omega arith) (rw (le-ltb i x.from c.loop-i.auto.i, ne_eqb _ _ c.if-work-i.true, and-false) refl)

pub loop-i-preserved : goal.loop-i-preserved
loop-i-preserved c =
    let x = c.args in
    let i = c.loop-i.i in
    let passes : unused_at x.work.now x.from x.total i ≡ true = rw (le-ltb i x.from c.loop-i.auto.i, eq-eqb _ _ c.if-work-i-ne0.false, eq-eqb _ _ c.if-work-i-ne0-2.false, eq-eqb _ _ c.if-work-i.false) refl in
    all_more (unused_at x.work.now x.from x.total) i c.loop-i.invariant passes

pub returns : goal.returns
returns c =
    let x = c.args in
    unused_done x.work.now x.from x.total c.loop-i.i (omega arith) c.loop-i.invariant
