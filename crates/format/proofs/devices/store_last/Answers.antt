-- `format::devices::store_last` meets its contract: the number is stored once the backup is. Assumes nothing.
use Rattle.format.proofs.Joined.{last_cut, last_whole}
use Rattle.format.proofs.devices.store_last.Goals as goal

pub returns-then-not-store_fill : goal.returns-then-not-store_fill
returns-then-not-store_fill c = λ memory logs work. last_cut memory logs work _ c.store_fill.ensures (c.if-not-store_fill.true)

pub returns : goal.returns
returns c = λ memory logs work. last_whole memory logs work _ c.store_fill.ensures (c.if-not-store_fill.false) c.store_word.ensures
