use Rattle.layout.proofs.Laws.{entry_bytes}
use Rattle.layout.proofs.bounds.narrow.Goals as goal

pub bytes_of-requires : goal.bytes_of-requires
bytes_of-requires c = λ i h. (entry_bytes _ c.requires i h).0

pub bytes_of-requires-2 : goal.bytes_of-requires-2
bytes_of-requires-2 c = λ i h. (entry_bytes _ c.requires i h).1

pub returns : goal.returns
returns c = rw (c.bytes_of.ensures, c.bytes_of-2.ensures)
