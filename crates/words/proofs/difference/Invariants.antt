-- `words::difference` meets its contract: after i turns the first i words of the difference are written and their bits counted. Assumes
-- nothing.
use mathlib.Core.Path.{◌≡◌}
use Prim.Native.Nat.{◌*◌, ◌≤◌}
use lib.ListN.{length}
use lib.Seq.{sets}
use Rattle.model.specs.Word.{xors, ones_over, part}
use Rattle.words.proofs.difference.Given as goal

abbrev pub invariant-loop-i : goal.invariant-loop-i
invariant-loop-i l = (l.n ≡ length l.value) × (l.out ≡ sets l.initial.out l.at (xors (part l.from l.i l.pages) (part 0 l.i l.value)))
    × (l.ones ≡ ones_over (xors (part l.from l.i l.pages) (part 0 l.i l.value))) × (l.ones ≤ 64 * l.i)
