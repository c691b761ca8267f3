-- `run::run::run_ring` meets its contract. The loop keeps: the run goes on from here as it would have from the start, every remembered
-- fate is right from here on, and `at` is the index of p. The measure is the steps left.
use Prim.Native.Nat.{◌<◌}
use mathlib.Core.Path.{refl, ◌∙◌}
use native.Mathlib.Omega.{arith}
use lib.ListN.{length}
use borrow.Author.Rules.{rules}
use Rattle.model.specs.State.{tail_of}
use Rattle.model.specs.Restart.{position_of}
use Rattle.disk_log.proofs.Rings.{stepped}
use Rattle.replay.proofs.Facts.{sizes_bounded, replaying}
use Rattle.run.proofs.Facts.{laid_of}
use Rattle.run.proofs.Running.{run_start, run_most, run_end, run_record}
use Rattle.run.proofs.run.run_ring.Goals as goal

pub offset_bounds-tails-disk : goal.offset_bounds-tails-disk
offset_bounds-tails-disk c = omega (arith, c.requires.1, (sizes_bounded c.args.core c.requires.0).disks_max)

pub bounds-tails-disk : goal.bounds-tails-disk
bounds-tails-disk c = omega (arith, c.requires.1, (sizes_bounded c.args.core c.requires.0).disks_max)

pub next_position-p-requires : goal.next_position-p-requires
next_position-p-requires c = omega (arith, c.requires.1, (sizes_bounded c.args.core c.requires.0).disks_max)

pub nonzero_rem-at : goal.nonzero_rem-at
nonzero_rem-at c = omega (arith, c.requires.3.ring_min)

pub loop-made-init : goal.loop-made-init
unfolding tail_of position_of
loop-made-init c =
    let core = c.args.core in
    let next = c.next_position-p.ensures in
    let long : c.args.disk < length core.replay.positions = omega (arith, next.1, c.requires.1, (sizes_bounded core c.requires.0).disks_max) in (
      rw next.0 ((replaying core c.requires.0).positions c.args.disk c.requires.1),
      refl,
      omega arith,
      refl,
      rw next.0 c.requires.4,
      λ anchor backups logs work lies pass. rw next.0 (run_start core _ c.args.disk c.requires.1 long _ lies c.args.most),
    )

pub overflow_add-made : goal.overflow_add-made
overflow_add-made c = omega (arith, c.loop-made-test.true, c.ranges)

pub loop-made-smaller : goal.loop-made-smaller
loop-made-smaller c = omega (arith, c.loop-made-test.true)

pub take_record-requires : goal.take_record-requires
unfolding tail_of
take_record-requires c =
    let inv = c.loop-made.invariant in
    let bases = c.page_bases-bases.ensures in (
      c.requires.3,
      record { before_tail = c.if-p-tail.true; at_is = inv.1 },
      bases.0,
      record { sizes = c.args.core.sizes; are = laid_of c.requires.0 bases.1 (inv.3 ∙ c.requires.2) },
    )

pub returns-in_default : goal.returns-in_default
unfolding tail_of
returns-in_default c =
    let core = c.args.core in
    let inv = c.loop-made.invariant in
    let next = c.next_position-p.ensures in
    let long : c.args.disk < length core.replay.positions = omega (arith, next.1, c.requires.1, (sizes_bounded core c.requires.0).disks_max) in
    let laid = laid_of c.requires.0 c.page_bases-bases.ensures.1 (inv.3 ∙ c.requires.2) in
    λ anchor backups logs work lies pass.
    (run_record core _ c.args.disk c.requires.1 long _ lies pass inv.0 inv.3 (inv.5 anchor backups logs work lies pass) c.if-p-tail.true refl c.loop-made-test.true
    (c.in_default.ensures.takes core.sizes laid inv.4)).0 refl

pub loop-made-preserved : goal.loop-made-preserved
unfolding tail_of
loop-made-preserved c =
    let core = c.args.core in
    let inv = c.loop-made.invariant in
    let next = c.next_position-p.ensures in
    let long : c.args.disk < length core.replay.positions = omega (arith, next.1, c.requires.1, (sizes_bounded core c.requires.0).disks_max) in
    let laid = laid_of c.requires.0 c.page_bases-bases.ensures.1 (inv.3 ∙ c.requires.2) in
    let took = c.in-Some.ensures in
    let takes = took.takes core.sizes laid inv.4 in (
      took.onward.2,
      stepped _ _ _ _ (omega (arith, took.onward.0)) (c.advance-at.ensures.1 _ inv.1),
      omega (arith, c.loop-made-test.true),
      search (rules, inv.3),
      takes.1,
      λ anchor backups logs work lies pass.
          (run_record core _ c.args.disk c.requires.1 long _ lies pass inv.0 inv.3 (inv.5 anchor backups logs work lies pass) c.if-p-tail.true refl c.loop-made-test.true takes.0).1
          (λ e. absurd (omega (arith, took.onward.0, e))),
    )

pub returns-else-p-tail : goal.returns-else-p-tail
unfolding tail_of
returns-else-p-tail c =
    let core = c.args.core in
    let inv = c.loop-made.invariant in
    let next = c.next_position-p.ensures in
    let long : c.args.disk < length core.replay.positions = omega (arith, next.1, c.requires.1, (sizes_bounded core c.requires.0).disks_max) in
    λ anchor backups logs work lies pass.
    run_end core _ c.args.disk c.requires.1 long _ lies pass inv.0 inv.3 (inv.5 anchor backups logs work lies pass) c.if-p-tail.false

pub returns-after-loop-made : goal.returns-after-loop-made
unfolding tail_of
returns-after-loop-made c =
    let core = c.args.core in
    let inv = c.loop-made.invariant in
    let next = c.next_position-p.ensures in
    let long : c.args.disk < length core.replay.positions = omega (arith, next.1, c.requires.1, (sizes_bounded core c.requires.0).disks_max) in
    λ anchor backups logs work lies pass.
    run_most core _ c.args.disk c.requires.1 long _ lies pass inv.0 inv.3 (inv.5 anchor backups logs work lies pass) c.loop-made-test.false
