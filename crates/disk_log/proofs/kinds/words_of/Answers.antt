-- `disk_log::kinds::words_of` meets its contract: by the size. Assumes nothing.
use Rattle.std.proofs.Common.{rules}
use Rattle.model.specs.Record.{words_of}
use Rattle.disk_log.proofs.kinds.words_of.Goals as goal

pub returns : goal.returns
unfolding words_of
returns c = rw (← c.record_size.ensures) (search rules)
