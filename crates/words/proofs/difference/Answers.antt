-- `words::difference` meets its contract: after i turns the first i words of the difference are written and their bits counted. Assumes
-- nothing.
use mathlib.Core.Path.{refl, ap₂, ◌∙◌}
use Prim.Native.Nat.{ℕ, ◌+◌}
use native.Mathlib.Omega.{arith}
use lib.Count.{ones}
use lib.Seq.{get_or-set_same}
use Rattle.model.specs.Below.{sum_over}
use Rattle.model.specs.Word.{xors, ones_over, part}
use Rattle.words.proofs.Laws.{difference_more, ones_more, ones_fit, few_fit, few_more, difference_whole}
use Rattle.words.proofs.difference.Goals as goal

pub loop-i-init : goal.loop-i-init
unfolding part xors ones_over sum_over
loop-i-init c = (refl, refl, refl, omega arith)

-- a word has at most 64 bits that are 1
pub overflow_cast-ones : goal.overflow_cast-ones
overflow_cast-ones c = record { fits = ones_fit _ (c.type_inv.out _).fits }

pub overflow_add-ones-in-loop-i : goal.overflow_add-ones-in-loop-i
overflow_add-ones-in-loop-i c =
    let counted = c.loop-i.invariant.3 in
    record { fits = few_fit _ _ (omega (arith, counted, c.requires.value_len_bound)) (c.type_inv.out _).fits }

pub loop-i-preserved : goal.loop-i-preserved
loop-i-preserved c =
    let s = c.args in
    let l = c.loop-i in (
      l.invariant.0,
      rw l.invariant.1 (difference_more s.out.now s.at s.pages.now s.from s.value.now l.i (omega arith) (omega arith)),
      ap₂ (λ (counted word : ℕ). counted + ones word) l.invariant.2 (get_or-set_same l.out (s.at + l.i) _ 0 (omega (arith, l.auto.out)))
          ∙ ones_more s.pages.now s.from s.value.now l.i (omega arith) (omega arith),
      few_more _ _ l.i l.invariant.3 (c.type_inv.out _).fits,
    )

pub returns : goal.returns
returns c =
    let s = c.args in
    let l = c.loop-i in
    let whole = difference_whole s.pages.now s.from s.value.now l.i (omega arith) in
    (rw (l.invariant.1, whole), rw (l.invariant.2, whole))
