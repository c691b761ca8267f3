-- `run::run::run_log` meets its contract: what remains, the first record, and then the run.
use Rattle.std.specs.Prelude.{None}
use Prim.Native.Nat.{◌<◌}
use mathlib.Core.Path.{refl, sym, ◌∙◌}
use native.Mathlib.Omega.{arith}
use lib.ListN.{length}
use Rattle.model.specs.Sizes.{ring_of}
use Rattle.model.specs.State.{tail_of}
use Rattle.model.specs.Restart.{position_of}
use Rattle.model.proofs.Restart.Steps.{remaining_log}
use Rattle.model.proofs.Ring.{disk_within}
use Rattle.disk_log.proofs.Rings.{entries_long}
use Rattle.replay.proofs.Facts.{extent_asked, eight}
use Rattle.run.proofs.Facts.{disk_ring, log_ring, entries_of_lem}
use Rattle.replay.proofs.Stepping.{step_none, fault_refused}
use Rattle.run.proofs.Onward.{run_refused, run_given, step_accepted}
use Rattle.run.proofs.Running.{fault_at_lem}
use Rattle.run.proofs.run.run_log.Goals as goal

pub offset_bounds-tails-disk : goal.offset_bounds-tails-disk
offset_bounds-tails-disk c = omega (arith, eight c.requires)

pub bounds-tails-disk : goal.bounds-tails-disk
bounds-tails-disk c = eight c.requires

pub next_position-position-requires : goal.next_position-position-requires
next_position-position-requires c = eight c.requires

pub returns-then-tail-position : goal.returns-then-tail-position
unfolding position_of tail_of
returns-then-tail-position c =
    let none = rw c.next_position-position.ensures.0 at c.if-tail-position.true in
    λ anchor backups work pass. rw c.refuse.ensures (run_refused _ _ _ _ _ _ _ (step_none _ _ _ c.requires.disk_in none))

pub disk_at-place-requires : goal.disk_at-place-requires
disk_at-place-requires c = let on = c.requires in extent_asked on

pub ring_words-ring-requires : goal.ring_words-ring-requires
unfolding ring_of
ring_words-ring-requires c =
    let on = c.requires in
    omega (arith, c.disk_at-place.ensures.0 c.args.core.sizes refl, on.log_words_lem, disk_within c.args.core.sizes c.args.disk on.disk_in)

pub slice_bounds-record_fault-end : goal.slice_bounds-record_fault-end
slice_bounds-record_fault-end c =
    sym (entries_long (record { sizes = c.args.core.sizes; are = entries_of_lem c.requires.replays })).0

pub slice_bounds-record_fault-end-2 : goal.slice_bounds-record_fault-end-2
slice_bounds-record_fault-end-2 c =
    sym (entries_long (record { sizes = c.args.core.sizes; are = entries_of_lem c.requires.replays })).1

pub record_fault-fault-requires : goal.record_fault-fault-requires
unfolding tail_of
record_fault-fault-requires c =
    let core = c.args.core in
    (c.new-fates.ensures, record { sizes = core.sizes; are = entries_of_lem c.requires.replays }, log_ring c.requires (disk_ring c.requires c.disk_at-place.ensures.0 c.ring_words-ring.ensures), c.if-tail-position.false)

pub run_ring-ran-requires : goal.run_ring-ran-requires
unfolding tail_of position_of
run_ring-ran-requires c =
    let on = c.requires in
    let next = c.next_position-position.ensures in
    let core = c.args.core in (
      on.replays,
      on.disk_in,
      on.page_words_lem,
      log_ring on (disk_ring on c.disk_at-place.ensures.0 c.ring_words-ring.ensures),
      rw next.0 at (c.record_fault-fault.ensures core.sizes (entries_of_lem on.replays)).1,
    )

pub move_on-moved-requires : goal.move_on-moved-requires
move_on-moved-requires c = eight c.requires

pub returns-in-Some : goal.returns-in-Some
unfolding position_of tail_of
returns-in-Some c =
    let on = c.requires in
    let core = c.args.core in
    let next = c.next_position-position.ensures in
    let long : c.args.disk < length core.replay.positions = omega (arith, next.1, eight on) in
    let some = rw next.0 at c.if-tail-position.false in
    let found = rw next.0 at (c.record_fault-fault.ensures core.sizes (entries_of_lem on.replays)).0 in
    λ anchor backups work pass.
    rw c.refuse_at.ensures
    (run_refused _ _ _ _ _ _ _
    (fault_refused core _ c.args.disk _ _
    (fault_at_lem core _ c.args.disk on.disk_in long _ (disk_ring on c.disk_at-place.ensures.0 c.ring_words-ring.ensures) some found
    ∙ c.in-Some.is)))

pub returns-in-None : goal.returns-in-None
unfolding position_of tail_of
returns-in-None c =
    let on = c.requires in
    let core = c.args.core in
    let next = c.next_position-position.ensures in
    let long : c.args.disk < length core.replay.positions = omega (arith, next.1, eight on) in
    let some = rw next.0 at c.if-tail-position.false in
    let found = rw next.0 at (c.record_fault-fault.ensures core.sizes (entries_of_lem on.replays)).0 in
    let lies = disk_ring on c.disk_at-place.ensures.0 c.ring_words-ring.ensures in
    λ anchor backups work pass.
    let sound = fault_at_lem core _ c.args.disk on.disk_in long _ lies some found ∙ c.in-None.is in
    rw (c.finish.ensures, c.move_on-moved.ensures)
    (run_given _ _ _ _ (step_accepted c.args.disk core _ sound (omega (arith, on.disk_in)) (omega (arith, remaining_log core c.args.disk on.disk_in, some)))
    (c.run_ring-ran.ensures anchor backups _ work lies pass))
