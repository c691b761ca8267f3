-- `head::load::core_in` meets its contract: each list is read at its place. Assumes nothing.
use Rattle.head.specs.Narrow.{narrowed}
use Rattle.head.proofs.load.core_in.Goals as goal

pub returns : goal.returns
unfolding narrowed
returns c =
    rw (
      c.bytes_at-slots.ensures,
      c.bytes_at-widths.ensures,
      c.bases_at-bases.ensures,
      c.words_at-fills.ensures,
      c.words_at-positions.ensures,
      c.table_in-table.ensures c.args.carried,
    )
