-- `restart::remain::remaining` meets its contract: by the source. Assumes nothing.
use mathlib.Core.Path.{refl, ◌∙◌}
use native.Mathlib.Omega.{arith}
use borrow.Author.Rules.{rules}
use Rattle.model.specs.View.{core_of}
use Rattle.restart.proofs.Remaining.{remains_outside, remains_log, remains_backup, remains_none, position_word, page_word, own_room}
use Rattle.restart.proofs.remain.remaining.Goals as goal

pub returns-then-source-ge8 : goal.returns-then-source-ge8
unfolding core_of
returns-then-source-ge8 c =
    let x = c.args in
    remains_outside (core_of x.carried x.work.now) _ c.if-source-carried.true (search rules) c.if-source-ge8.true

pub head_word-requires : goal.head_word-requires
head_word-requires c =
    let x = c.args in
    (omega (arith, c.if-source-ge8.false), own_room x.carried x.work.now (c.is_own-own.ensures x.carried x.work.now refl refl refl refl))

pub returns-then-source-carried : goal.returns-then-source-carried
unfolding core_of
returns-then-source-carried c =
    let x = c.args in
    let word = c.head_word.ensures ∙ position_word x.carried x.work.now (c.is_own-own.ensures x.carried x.work.now refl refl refl refl) x.source c.if-source-ge8.false in
    remains_log (core_of x.carried x.work.now) x.source c.if-source-carried.true (rw (← word) c.saturating_sub.ensures)

pub head_word-requires-then-source-carried-2 : goal.head_word-requires-then-source-carried-2
head_word-requires-then-source-carried-2 c =
    let x = c.args in
    (omega arith, own_room x.carried x.work.now (c.is_own-own.ensures x.carried x.work.now refl refl refl refl))

pub returns-then-source-carried-2 : goal.returns-then-source-carried-2
unfolding core_of
returns-then-source-carried-2 c =
    let x = c.args in
    let word = c.head_word-then-source-carried-2.ensures ∙ page_word x.carried x.work.now (c.is_own-own.ensures x.carried x.work.now refl refl refl refl) in
    remains_backup (core_of x.carried x.work.now) x.source c.if-source-carried-2.true (rw (← word) c.saturating_sub-then-source-carried-2.ensures)

pub returns : goal.returns
unfolding core_of
returns c =
    let x = c.args in
    remains_none (core_of x.carried x.work.now) _ c.if-source-carried.false c.if-source-carried-2.false
