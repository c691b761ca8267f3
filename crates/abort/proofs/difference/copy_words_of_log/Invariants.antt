-- `abort::difference::copy_words_of_log` meets its contract: after i turns the first i words are copied and their bits counted. Assumes nothing.
use mathlib.Core.Path.{◌≡◌}
use Prim.Native.Nat.{ℕ, ◌*◌, ◌≤◌}
use lib.ListN.{length}
use lib.Seq.{sets}
use Rattle.model.specs.declared.Sizes.{Sizes}
use Rattle.model.specs.Word.{ones_over}
use Rattle.model.specs.Decode.{read_log, span}
use Rattle.disk_log.specs.Reading.{LiesAt}
use Rattle.abort.proofs.difference.copy_words_of_log.Given as goal

abbrev pub invariant-loop-i : goal.invariant-loop-i
invariant-loop-i l = (length l.out ≡ length l.initial.out)
    × ((s : Sizes) (disk : ℕ) → LiesAt s disk l.place l.ring
    → (l.out ≡ sets l.initial.out 0 (span (read_log s l.logs disk l.tail l.buffer) l.position l.i)) × (l.ones ≡ ones_over (span (read_log s l.logs disk l.tail l.buffer) l.position l.i)))
    × (l.ones ≤ 64 * l.i)
