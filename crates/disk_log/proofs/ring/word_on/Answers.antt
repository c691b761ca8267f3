-- `disk_log::ring::word_on` meets its contract, by the index that `advance` gives.
use Rattle.disk_log.specs.Ring.{read_ring}
use Rattle.disk_log.proofs.Rings.{stepped}
use Rattle.disk_log.proofs.ring.word_on.Goals as goal

pub returns : goal.returns
unfolding read_ring
returns c =
    let pre = c.requires in
    rw (stepped c.args.p c.args.q _ _ pre.3 (c.advance-there.ensures.1 _ pre.2))
