-- `classes::kept::set_for` meets its contract: by cases on the tests. Assumes nothing.
use Prim.Native.Nat.{ℕ}
use mathlib.Core.Path.{◌≡◌, sym, ap, ◌∙◌}
use native.Mathlib.Omega.{arith}
use lib.ListN.{length, get_or, get_or-eq_default}
use mir.Syntax.{w8}
use mir.Val.{Fits}
use borrow.Author.Rules.{rules}
use borrow.Author.Tests.{eq-eqb, ne_eqb}
use Rattle.model.specs.Classes.{set_for, line_for}
use Rattle.classes.proofs.kept.set_for.Goals as goal

pub returns-then-sets-eq0 : goal.returns-then-sets-eq0
unfolding set_for
returns-then-sets-eq0 c = (search rules, rw (eq-eqb _ _ c.if-sets-eq0.true))

pub returns-in-Some : goal.returns-in-Some
unfolding set_for line_for
returns-in-Some c =
    let t = c.args.classes in
    let small : Fits w8 (get_or t.sets c.in-Some.line 0) = search rules in
    (omega (arith, small.fits), rw (ne_eqb _ _ c.if-sets-eq0.false) (ap (λ (i : ℕ). get_or t.sets i 0) c.in-Some.ensures.0))

pub returns-in-None : goal.returns-in-None
unfolding set_for line_for
returns-in-None c =
    let t = c.args.classes in
    let long : length t.sets ≡ 16 = search rules in
    let none : get_or t.sets 16 0 ≡ 0 = get_or-eq_default t.sets 0 {n = 16} (omega arith) in
    (search rules, rw (ne_eqb _ _ c.if-sets-eq0.false) (sym (ap (λ (i : ℕ). get_or t.sets i 0) c.in-None.ensures ∙ none)))
