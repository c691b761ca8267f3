-- `replay::take::xor_span` meets its contract: the words passed are XORed in. Assumes nothing.
use mathlib.Core.Path.{refl}
use native.Mathlib.Omega.{arith}
use lib.ListN.{length-set}
use Rattle.replay.proofs.Taking.{xor_none, xor_more, xor_all_lem}
use Rattle.replay.proofs.take.xor_span.Goals as goal

pub loop-i-init : goal.loop-i-init
loop-i-init c = (refl, λ s disk lies. xor_none _ _ _ _ _)

pub loop-i-preserved : goal.loop-i-preserved
loop-i-preserved c = (
  simp length-set c.loop-i.invariant.0,
  λ s disk lies.
      xor_more _ _ _ _ _ c.loop-i.i _ (c.loop-i.invariant.1 s disk lies) (omega arith) (omega arith) (c.read_word-word.ensures s disk lies),
)

pub returns : goal.returns
returns c = λ s disk lies. xor_all_lem _ _ _ _ _ c.loop-i.i (omega arith) (c.loop-i.invariant.1 s disk lies)
