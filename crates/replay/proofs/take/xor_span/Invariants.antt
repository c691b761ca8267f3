-- `replay::take::xor_span` meets its contract: the words passed are XORed in. Assumes nothing.
use Prim.Native.Nat.{ℕ}
use mathlib.Core.Path.{◌≡◌}
use mathlib.Core.List.{[]}
use lib.ListN.{length}
use Rattle.model.specs.declared.Sizes.{Sizes}
use Rattle.model.specs.Word.{part}
use Rattle.model.specs.Decode.{read_log, span}
use Rattle.model.specs.Image.{xor_at}
use Rattle.disk_log.specs.Reading.{LiesAt}
use Rattle.replay.proofs.take.xor_span.Given as goal

abbrev pub invariant-loop-i : goal.invariant-loop-i
invariant-loop-i l = (length l.pages ≡ length l.initial.pages)
    × ((s : Sizes) (disk : ℕ) → LiesAt s disk l.place l.ring
    → l.pages ≡ xor_at l.at (part 0 l.i (span (read_log s l.logs disk l.tail []) l.from l.n)) l.initial.pages)
