-- `device::store_copy` meets its contract: after i turns the first i words are stored, and the budget is less by i. Assumes nothing.
use mathlib.Core.Path.{refl, sym, ◌∙◌}
use native.Mathlib.Omega.{arith}
use borrow.Author.Rules.{rules}
use borrow.Author.Tests.{le-leb, lt-leb}
use Rattle.model.specs.Word.{part}
use Rattle.words.proofs.Laws.{copy_more}
use Rattle.device.proofs.Runs.{stored_copy, word_made, word_cut}
use Rattle.device.proofs.store_copy.Goals as goal

pub loop-i-init : goal.loop-i-init
unfolding part
loop-i-init c = (omega arith, refl)

-- a word that is not stored: the budget was used up by those before it
pub returns-then-not-store_word : goal.returns-then-not-store_word
returns-then-not-store_word c =
    let s = c.args in
    let h = c.loop-i in
    let cut = word_cut c.store_word.ensures (c.if-not-store_word.true) in
    stored_copy s.budget.now s.from s.n s.source.now {m = h.i} (search rules) (omega (arith, cut.0)) (omega (arith, cut.0, cut.1)) (cut.2 ∙ h.invariant.1)
    (sym (lt-leb s.n s.budget.now (omega (arith, cut.0))))

pub loop-i-preserved : goal.loop-i-preserved
loop-i-preserved c =
    let s = c.args in
    let h = c.loop-i in
    let made = word_made c.store_word.ensures (c.if-not-store_word.false) in
    (omega (arith, made.0), rw (made.1, h.invariant.1) (copy_more s.device.now s.at s.source.now s.from h.i (omega arith)))

pub returns : goal.returns
returns c =
    let s = c.args in
    let h = c.loop-i in
    stored_copy s.budget.now s.from s.n s.source.now {m = h.i} (search rules) (omega arith) (omega arith) h.invariant.1
    (sym (le-leb s.n s.budget.now (omega arith)))
