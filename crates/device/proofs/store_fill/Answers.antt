-- `device::store_fill` meets its contract: after i turns the value is stored i times, and the budget is less by i. Assumes nothing.
use mathlib.Core.Path.{refl, sym, ◌∙◌}
use native.Mathlib.Omega.{arith}
use borrow.Author.Tests.{le-leb, lt-leb}
use Rattle.words.proofs.Laws.{fill_more}
use Rattle.device.proofs.Runs.{stored_fill, word_made, word_cut}
use Rattle.device.proofs.store_fill.Goals as goal

pub loop-i-init : goal.loop-i-init
loop-i-init c = (omega arith, refl)

-- a word that is not stored: the budget was used up by those before it
pub returns-then-not-store_word : goal.returns-then-not-store_word
returns-then-not-store_word c =
    let s = c.args in
    let h = c.loop-i in
    let cut = word_cut c.store_word.ensures (c.if-not-store_word.true) in
    stored_fill s.budget.now s.n s.value {m = h.i} (omega (arith, cut.0)) (omega (arith, cut.0, cut.1)) (cut.2 ∙ h.invariant.1)
    (sym (lt-leb s.n s.budget.now (omega (arith, cut.0))))

pub loop-i-preserved : goal.loop-i-preserved
loop-i-preserved c =
    let s = c.args in
    let h = c.loop-i in
    let made = word_made c.store_word.ensures (c.if-not-store_word.false) in
    (omega (arith, made.0), rw (made.1, h.invariant.1) (fill_more s.device.now s.at s.value h.i))

pub returns : goal.returns
returns c =
    let s = c.args in
    let h = c.loop-i in
    stored_fill s.budget.now s.n s.value {m = h.i} (omega arith) (omega arith) h.invariant.1
    (sym (le-leb s.n s.budget.now (omega arith)))
