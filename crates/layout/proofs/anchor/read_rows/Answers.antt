-- `layout::anchor::read_rows` meets its contract: each row is copied over.
use mathlib.Core.Path.{refl}
use native.Mathlib.Omega.{arith}
use Rattle.words.proofs.Laws.{copied_part}
use Rattle.layout.proofs.anchor.read_rows.Goals as goal

pub returns : goal.returns
returns c =
    let pre = c.requires in
    rw (copied_part 8 132 _ _ (omega (arith, pre)) refl c.copy_words.ensures, copied_part 8 140 _ _ (omega (arith, pre)) refl c.copy_words-2.ensures)
