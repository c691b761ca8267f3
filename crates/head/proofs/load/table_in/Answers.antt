-- `head::load::table_in` meets its contract: each list is read at its place. Assumes nothing.
use Rattle.head.proofs.load.table_in.Goals as goal

pub returns : goal.returns
returns c h =
    rw (
      c.words_at.ensures,
      c.words_at-2.ensures,
      c.words_at-3.ensures,
      c.words_at-4.ensures,
      c.words_at-5.ensures,
    )
