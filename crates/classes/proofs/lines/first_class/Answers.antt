-- `classes::lines::first_class` meets its contract: no class passed is the one asked for. Assumes nothing.
use Rattle.std.proofs.Common.{arith, rules, ◌≡◌, sym, ap, ◌∙◌}
use borrow.Author.Count.{below_more}
use Rattle.model.specs.Classes.{times_covered}
use Rattle.model.proofs.Below.{first_unique, first_none}
use Rattle.classes.proofs.lines.first_class.Goals as goal

pub loop-class-preserved : goal.loop-class-preserved
loop-class-preserved g c test is =
    let told : c.asked.result ≡ test (times_covered c.args.lines.now c.loop-class.class) = is _ _ (search rules) c.asked.ensures ∙ ap test c.times_covered.ensures in
    below_more _ _ (c.loop-class.invariant test is) (sym told ∙ c.if-asked.false)

pub returns-then-asked : goal.returns-then-asked
returns-then-asked g c test is =
    let told : c.asked.result ≡ test (times_covered c.args.lines.now c.loop-class.class) = is _ _ (search rules) c.asked.ensures ∙ ap test c.times_covered.ensures in
    (sym (first_unique _ 256 c.loop-class.class (omega arith) (sym told ∙ c.if-asked.true) (c.loop-class.invariant test is)), omega arith)

pub returns : goal.returns
returns g c test is = first_none _ 256 (λ j h. c.loop-class.invariant test is j (omega arith))
