-- `frame::sizes::entries_at` meets its contract: after i turns the first i words are done. Assumes nothing.

use mathlib.Core.Path.{◌≡◌}
use lib.Seq.{sets}
use Rattle.model.specs.Word.{part}
use Rattle.frame.proofs.sizes.entries_at.Given as goal

abbrev pub invariant-loop-i : goal.invariant-loop-i
invariant-loop-i l = l.out ≡ sets l.initial.out 0 (part l.at l.i l.work)
