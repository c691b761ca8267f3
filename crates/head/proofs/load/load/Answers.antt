-- `head::load::load` meets its contract: by cases on whose the work memory is. Assumes nothing.
use mathlib.Core.Path.{refl, sym, ap, ◌∙◌}
use Rattle.model.proofs.View.Head.{own_long, own_view, other_view}
use Rattle.head.specs.Narrow.{narrowed}
use Rattle.head.proofs.load.load.Goals as goal

pub core_in-requires : goal.core_in-requires
core_in-requires c =
    let s = c.args in
    own_long s.carried s.work.now (sym (c.is_own.ensures s.carried s.work.now refl refl refl refl) ∙ c.if-is_own.true)

pub returns-then-is_own : goal.returns-then-is_own
returns-then-is_own c =
    let s = c.args in
    let own = sym (c.is_own.ensures s.carried s.work.now refl refl refl refl) ∙ c.if-is_own.true in
    c.core_in.ensures ∙ ap narrowed (sym (own_view s.carried s.work.now own))

pub returns : goal.returns
returns c =
    let s = c.args in
    let other = sym (c.is_own.ensures s.carried s.work.now refl refl refl refl) ∙ c.if-is_own.false in
    c.core_in-2.ensures ∙ ap narrowed (sym (other_view s.carried s.work.now other))
