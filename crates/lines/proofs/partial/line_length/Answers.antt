-- `lines::partial::line_length` meets its contract: the index of the first end of a line, if there is one.
use mathlib.Core.Path.{◌≡◌, refl, sym, ◌∙◌}
use borrow.Author.Rules.{rules}
use borrow.Author.Tests.{tests, eq-eqb, ne_eqb}
use Rattle.std.proofs.lemmas.Iterator.{IsFirst-from_position, YieldsList-from_slice, index_from_first}
use Rattle.lines.specs.Line.{line_length}
use Rattle.lines.proofs.partial.line_length.Goals as goal

pub returns-clause-value : goal.returns-clause-value
unfolding line_length
returns-clause-value c =
    let first = IsFirst-from_position _ _ _ (λ b. b ≡ 10) (λ b. b ≡ 10 → ⊥) c.position.ensures.ran (YieldsList-from_slice c.args.bytes.now cc)
    (λ x q k. search (rules, tests)) (λ x q k. search (rules, tests)) in
    c.unwrap_or.ensures ∙ sym (index_from_first line_length (λ b. b ≡ 10) (λ b. b ≡ 10 → ⊥) refl (λ b bs e. rw (eq-eqb b 10 e)) (λ b bs n. rw (ne_eqb b 10 n)) c.args.bytes.now c.position.result first)
