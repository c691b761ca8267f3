-- `layout::anchor::read_sizes` meets its contract: both arrays are copied over.
use mathlib.Core.Path.{refl}
use native.Mathlib.Omega.{arith}
use Rattle.model.specs.Anchor.{sizes_on}
use Rattle.words.proofs.Laws.{copied_part}
use Rattle.layout.proofs.anchor.read_sizes.Goals as goal

pub returns : goal.returns
unfolding sizes_on
returns c =
    let pre = c.requires in
    rw (copied_part 64 4 _ _ (omega (arith, pre)) refl c.copy_words.ensures, copied_part 64 68 _ _ (omega (arith, pre)) refl c.copy_words-2.ensures)
