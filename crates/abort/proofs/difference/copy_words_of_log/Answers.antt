-- `abort::difference::copy_words_of_log` meets its contract: after i turns the first i words are copied and their bits counted. Assumes nothing.
use mathlib.Core.Path.{◌≡◌, refl, ◌∙◌}
use Prim.Native.Nat.{ℕ}
use native.Mathlib.Omega.{arith}
use lib.ListN.{length-set}
use Rattle.model.specs.Below.{sum_over}
use Rattle.model.specs.Word.{ones_over}
use Rattle.model.specs.Decode.{read_log, span}
use Rattle.words.proofs.Laws.{ones_fit, few_fit, few_more}
use Rattle.abort.proofs.Spans.{set_span, ones_span}
use borrow.Author.Rules.{rules}
use Rattle.abort.proofs.difference.copy_words_of_log.Goals as goal

pub loop-i-init : goal.loop-i-init
unfolding span ones_over sum_over
loop-i-init c = (refl, λ s disk lies. (refl, refl), omega arith)

pub bounds-out-i : goal.bounds-out-i
bounds-out-i c = omega (arith, c.loop-i.invariant.0)

pub overflow_cast-ones : goal.overflow_cast-ones
overflow_cast-ones c = record { fits = ones_fit c.read_word-word.result (search rules) }

pub overflow_add-ones : goal.overflow_add-ones
overflow_add-ones c =
    let counted = c.loop-i.invariant.2 in
    record { fits = few_fit _ c.read_word-word.result (omega (arith, counted, c.requires.n_bound.2)) (search rules) }

pub loop-i-preserved : goal.loop-i-preserved
loop-i-preserved c =
    let a = c.args in
    let l = c.loop-i in (
      length-set l.out l.i _ ∙ l.invariant.0,
      λ s disk lies.
          let read : ℕ → ℕ = read_log s a.logs.now disk a.extent.tail a.buffer.now in
          let done = l.invariant.1 s disk lies in
          let word = c.read_word-word.ensures s disk lies in (
            rw (done.0, word) (set_span a.out.now read a.position l.i),
            rw (done.1, word) (ones_span read a.position l.i),
          ),
      few_more _ c.read_word-word.result l.i l.invariant.2 (search rules),
    )

pub shape_of-out : goal.shape_of-out
shape_of-out c = c.loop-i.invariant.0

pub returns : goal.returns
returns c =
    let args = c.args in
    let e : c.loop-i.i ≡ args.n = omega arith in
    (λ s disk lies. rw (← e) (c.loop-i.invariant.1 s disk lies), rw (← e) c.loop-i.invariant.2)
