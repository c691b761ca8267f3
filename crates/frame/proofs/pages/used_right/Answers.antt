-- `frame::pages::used_right` meets its contract: the pages passed are right, and the sum is that of their words, at most 128 each.
-- Assumes nothing.
use mathlib.Core.Path.{refl, sym, ◌∙◌}
use native.Mathlib.Omega.{arith}
use Rattle.model.specs.Below.{sum_below}
use Rattle.model.proofs.Below.{sum_step, all_none, all_more}
use Rattle.frame.specs.Pages.{used_at}
use Rattle.frame.proofs.PagesRight.{many_slots, wide, wordless, many_words, elsewhere, page_passes, used_wrong, used_done}
use Rattle.frame.proofs.pages.used_right.Goals as goal

pub loop-i-init : goal.loop-i-init
unfolding sum_below
loop-i-init c = (omega arith, refl, all_none _)

pub returns-then-slots-gt128 : goal.returns-then-slots-gt128
returns-then-slots-gt128 c =
    let x = c.args in
    used_wrong x.work.now x.end x.total c.loop-i.i (omega arith) (many_slots _ _ _ _ c.if-slots-gt128.true)

pub returns-then-width-gt32 : goal.returns-then-width-gt32
returns-then-width-gt32 c =
    let x = c.args in
    used_wrong x.work.now x.end x.total c.loop-i.i (omega arith) (wide _ _ _ _ c.if-width-gt32.true)

pub returns-then-work-i : goal.returns-then-work-i
returns-then-work-i c =
    let x = c.args in
    used_wrong x.work.now x.end x.total c.loop-i.i (omega arith) (elsewhere _ _ _ _ (λ same. c.if-work-i.true (same ∙ sym c.loop-i.invariant.1)))

pub returns-then-words-eq0 : goal.returns-then-words-eq0
returns-then-words-eq0 c =
    let x = c.args in
    used_wrong x.work.now x.end x.total c.loop-i.i (omega arith) (wordless _ _ _ _ c.if-words-eq0.true)

pub returns-then-words-gt128 : goal.returns-then-words-gt128
returns-then-words-gt128 c =
    let x = c.args in
    used_wrong x.work.now x.end x.total c.loop-i.i (omega arith) (many_words _ _ _ _ c.if-words-gt128.true)

pub loop-i-preserved : goal.loop-i-preserved
loop-i-preserved c =
    let i = c.loop-i.i in
    let inv = c.loop-i.invariant in
    let passes = page_passes _ _ _ _ c.if-words-eq0.false c.if-words-gt128.false c.if-width-gt32.false (c.if-work-i.false ∙ inv.1) in
    (omega arith, rw (sum_step, inv.1) refl, all_more (used_at c.args.work.now) i inv.2 passes)

pub returns : goal.returns
returns c =
    let x = c.args in
    used_done x.work.now x.end x.total c.loop-i.i (omega arith) c.loop-i.invariant.1 c.loop-i.invariant.2
