-- `restart::begin::begin_on` meets its contract: the tests in the order of the rows. Assumes nothing.
use mathlib.Core.Path.{refl}
use native.Mathlib.Omega.{arith}
use Rattle.model.specs.Anchor.{epoch_on}
use Rattle.model.proofs.Bounds.{bounded}
use Rattle.layout.proofs.Laws.{total_made}
use Rattle.restart.proofs.Beginning.{begin_refused, begin_spent, begin_taken}
use Rattle.restart.proofs.begin.begin_on.Goals as goal

pub current_starts-starts-requires : goal.current_starts-starts-requires
current_starts-starts-requires c = ((bounded _ c.requires.1).disks_max, c.requires.2)

pub tails_on-tails-requires : goal.tails_on-tails-requires
tails_on-tails-requires c =
    let pre = c.requires in
    let b = bounded _ pre.1 in
    (b.disks_max, b.ring_max, omega (arith, pre.4))

pub returns-in-Err : goal.returns-in-Err
returns-in-Err c =
    λ backups work.
    let a = c.args in
    let pre = c.requires in
    rw c.refuse_at.ensures (begin_refused a.core _ a.sizes pre.0 (bounded _ pre.1).disks_max
    (c.current_starts-starts.ensures _ refl) c.in-Err.ensures refl)

pub returns-then-epoch-ge-LIMIT : goal.returns-then-epoch-ge-LIMIT
unfolding epoch_on
returns-then-epoch-ge-LIMIT c =
    λ backups work.
    let a = c.args in
    let pre = c.requires in
    rw c.refuse.ensures (begin_spent a.core _ a.sizes pre.0 (bounded _ pre.1).disks_max
    (c.current_starts-starts.ensures _ refl) c.in_default.ensures refl c.if-epoch-ge-LIMIT.true)

pub fill_words-requires : goal.fill_words-requires
fill_words-requires c =
    omega (arith, total_made c.args.sizes c.requires.5, c.requires.3)

pub returns : goal.returns
unfolding epoch_on
returns c =
    λ backups work.
    let a = c.args in
    let pre = c.requires in
    rw c.finish.ensures (begin_taken a.core _ a.sizes pre.0 (bounded _ pre.1).disks_max
    (c.current_starts-starts.ensures _ refl) c.in_default.ensures refl c.tails_on-tails.ensures
    (omega (arith, c.if-epoch-ge-LIMIT.false)) (rw (total_made a.sizes pre.5) at c.fill_words.ensures) c.replaying_core.ensures)
