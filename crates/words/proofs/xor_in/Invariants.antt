-- `words::xor_in` meets its contract: after i turns the first i words are XORed in. Assumes nothing.
use mathlib.Core.Path.{◌≡◌}
use Rattle.model.specs.Word.{part}
use Rattle.model.specs.Image.{xor_at}
use Rattle.words.proofs.xor_in.Given as goal

abbrev pub invariant-loop-i : goal.invariant-loop-i
invariant-loop-i l = l.target ≡ xor_at l.at (part l.from l.i l.source) l.initial.target
