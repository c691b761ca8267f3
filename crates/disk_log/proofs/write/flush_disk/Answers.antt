-- `flush_disk` meets its contract. Assumes nothing.
use native.Mathlib.Omega.{arith}
use Rattle.disk_log.proofs.Stores.{flush_nothing, flush_cut, flush_tail}
use Rattle.disk_log.proofs.write.flush_disk.Goals as goal

pub returns-then-fill-eq0 : goal.returns-then-fill-eq0
returns-then-fill-eq0 c =
    λ s l w lent. flush_nothing lent c.requires.buffer_within c.requires.fill_small c.args.budget.now c.if-fill-eq0.true

pub returns-then-not-store_ring : goal.returns-then-not-store_ring
returns-then-not-store_ring c =
    λ s l w lent.
    flush_cut lent c.requires.buffer_within c.requires.fill_small c.store_ring.ensures (omega arith) (c.if-not-store_ring.true)

pub returns : goal.returns
returns c =
    λ s l w lent.
    flush_tail lent c.requires.buffer_within c.requires.fill_small c.store_ring.ensures (omega arith) (c.if-not-store_ring.false)
    c.store_word.ensures
