-- `checkpoint::flush::flush_all` meets its contract: the disks passed are flushed whole. Assumes nothing.
use native.Mathlib.Omega.{arith}
use mathlib.Core.Path.{◌≡◌, refl, ◌∙◌}
use Rattle.model.specs.World.{world_of}
use Rattle.model.specs.Append.{flush}
use Rattle.model.proofs.Bounds.{bounded}
use Rattle.model.proofs.Store.Rows.{sizes_sound}
use Rattle.device.proofs.Below.{ran_zero, ran_next, ran_stop}
use Rattle.frame.proofs.Homes.{lent_there, within_there, disk_there}
use borrow.Author.Rules.{rules}
use Rattle.checkpoint.proofs.flush.flush_all.Goals as goal

pub loop-d-init : goal.loop-d-init
loop-d-init c = (refl, λ anchor pages backups. ran_zero _ _ _)

pub home_of-home-requires : goal.home_of-home-requires
home_of-home-requires c =
    let b = bounded _ (sizes_sound _ c.requires.state) in
    (c.loop-d-test.true, b.disks_max, b.ring_max)

pub flush_disk-requires : goal.flush_disk-requires
flush_disk-requires c =
    within_there c.args.core c.loop-d.d c.home_of-home.ensures.value _ _
    (record {
      state = c.requires.state;
      log_words_lem = c.loop-d.invariant.0 ∙ c.requires.log_words_lem;
      work_words_lem = c.requires.work_words_lem;
    })
    c.loop-d-test.true

pub returns-then-not-flush_disk : goal.returns-then-not-flush_disk
returns-then-not-flush_disk c =
    let core = c.args.core in
    let home = c.home_of-home.ensures.value in
    λ anchor pages backups.
    let w = world_of anchor pages backups c.loop-d.logs c.args.work.now in
    ran_stop (flush core.sizes core.logs c.args.work.now) core.sizes.disks c.loop-d.d (omega arith)
    (c.loop-d.invariant.1 anchor pages backups) (c.if-not-flush_disk.true)
    (rw (disk_there _ _ _ home) at (c.flush_disk.ensures core.sizes core.logs w (lent_there _ _ _ home w refl refl)))

pub loop-d-preserved : goal.loop-d-preserved
loop-d-preserved c =
    let core = c.args.core in
    let home = c.home_of-home.ensures.value in (
      search rules,
      λ anchor pages backups.
          let w = world_of anchor pages backups c.loop-d.logs c.args.work.now in
          ran_next (flush core.sizes core.logs c.args.work.now) c.loop-d.d (c.loop-d.invariant.1 anchor pages backups)
          (c.if-not-flush_disk.false)
          (rw (disk_there _ _ _ home) at (c.flush_disk.ensures core.sizes core.logs w (lent_there _ _ _ home w refl refl))),
    )

pub returns : goal.returns
returns c =
    let last : c.loop-d.d ≡ c.args.core.sizes.disks = omega arith in
    λ anchor pages backups. rw last at (c.loop-d.invariant.1 anchor pages backups)
