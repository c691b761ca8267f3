-- Checkpoint begin, step and end hand back a state that passes the first test.
use mathlib.Core.Path.{◌≡◌, refl}
use mathlib.Core.Logic.{◌⊎◌, inl, inr}
use mathlib.Core.Bool.{true}
use Prim.Native.Nat.{ℕ, ◌≤◌, ◌<◌}
use native.Mathlib.Omega.{arith}
use lib.ListN.{get_or, replicate, get_or-replicate}
use borrow.Author.Tests.{leb-true, leb-false}
use Rattle.model.specs.declared.Logs.{Logs}
use Rattle.model.specs.declared.Core.{Core}
use Rattle.model.specs.World.{World}
use Rattle.model.specs.State.{places, start_of, tail_of, fill_of, end_of, disk_at_place, first_at, base_of, bases_right, disk_sound, place_sound, serving_sound, sound}
use Rattle.model.specs.Refusal.{accepted, verdict}
use Rattle.model.specs.Causes.{when_open, when_copying, spent}
use Rattle.model.specs.Checkpoint.{per_disk, checkpoint_begin_rows, checkpoint_begin_task, to_copy, lowest_to_copy, checkpoint_step_rows, checkpoint_step_task, new_start, checkpoint_end_rows, checkpoint_end_task}
use Rattle.model.proofs.Below.{first_passes}
use Rattle.model.proofs.Meaning.{Holds, new_start_lem}
use Rattle.model.proofs.PerDisk.{get_or_per_disk, length_per_disk}
use Rattle.model.proofs.Store.Rows.{stage_row, open_serving, copying_serving, serving_sound_lem, sizes_sound, bases_sound, next_sound, disk_sound_lem, place_sound_lem, checkpoint_sound_lem}
use Rattle.model.proofs.KeptBases.{bases_carried}
use Rattle.model.proofs.Sound.Test.{Sized, Passing, serving_test, copying_test}
use Rattle.model.proofs.Growth.{tail_end, kept_start, kept_le}
use Rattle.model.proofs.Verdict.{row_passed}
use Rattle.model.proofs.Places.{served_is, served_here}
use Rattle.model.proofs.Store.Accepted.{disks_max}

-- Begin: the remembered ends are the logs' ends.
pub checkpoint_begin_passes : (c : Core) (w : World) → Sized c → sound c ≡ true → verdict (checkpoint_begin_rows c w) ≡ accepted
    → Passing (checkpoint_begin_task c w).core
unfolding checkpoint_begin_rows checkpoint_begin_task spent serving_sound bases_right base_of disk_sound place_sound
checkpoint_begin_passes c w sized s ok =
    let stage = row_passed _ _ ok in
    let anchor = row_passed _ _ stage.1 in
    let lengths = row_passed _ _ anchor.1 in
    let epoch = row_passed _ _ lengths.1 in
    let good = serving_sound_lem c (open_serving c (stage_row when_open _ c stage.0)) s in (
      record {
        logs = sized.logs;
        table = sized.table;
        ends = length_per_disk c.sizes (end_of c.logs);
        positions = sized.positions;
      },
      copying_test (checkpoint_begin_task c w).core refl good
          (record {
            epoch = leb-false _ _ epoch.0;
            copied = omega arith;
            ends = λ d h.
                let at = get_or_per_disk c.sizes (end_of c.logs) d (disks_max c good) h in
                (omega (arith, (disk_sound_lem c d good h).ordered, tail_end c.logs d), omega arith);
          }),
    )

-- Step: the page that is copied is one of the pages.
pub checkpoint_step_passes : (c : Core) (w : World) → Sized c → sound c ≡ true → verdict (checkpoint_step_rows c w) ≡ accepted
    → Passing (checkpoint_step_task c w).core
unfolding checkpoint_step_rows checkpoint_step_task lowest_to_copy to_copy serving_sound bases_right base_of disk_sound place_sound
checkpoint_step_passes c w sized s ok =
    let stage = row_passed _ _ ok in
    let anchor = row_passed _ _ stage.1 in
    let lengths = row_passed _ _ anchor.1 in
    let page = row_passed _ _ lengths.1 in
    let copying = stage_row when_copying _ c stage.0 in
    let good = serving_sound_lem c (copying_serving c copying) s in
    let k = checkpoint_sound_lem c copying s in
    let below : lowest_to_copy c < c.sizes.pages = leb-false _ _ page.0 in
    let from : c.checkpoint.copied ≤ lowest_to_copy c = leb-true _ _ (first_passes (to_copy c) c.sizes.pages below) in (
      record { logs = sized.logs; table = sized.table; ends = sized.ends; positions = sized.positions },
      copying_test (checkpoint_step_task c w).core copying good
          (record { epoch = k.epoch; copied = omega arith; ends = k.ends }),
    )

-- End: each new start lies between the old one and the new tail, which is the log's end.
module _ (c : Core) (w : World) (copying : when_copying c.stage ≡ true) (s : sound c ≡ true) where
  good : serving_sound c ≡ true
  good = serving_sound_lem c (copying_serving c copying) s

  abbrev after : Logs
  after = record { starts = per_disk c.sizes (new_start c); tails = per_disk c.sizes (end_of c.logs); fills = replicate 8 0 }

  module _ (d : ℕ) (h : d < c.sizes.disks) where
    start_after : start_of after d ≡ new_start c d
    unfolding start_of
    start_after = get_or_per_disk c.sizes (new_start c) d (disks_max c good) h

    tail_after : tail_of after d ≡ end_of c.logs d
    unfolding tail_of
    tail_after = get_or_per_disk c.sizes (end_of c.logs) d (disks_max c good) h

    fill_after : fill_of after d ≡ 0
    unfolding fill_of
    fill_after = get_or-replicate 8 d 0 0 (omega (arith, disks_max c good))

    end_after : end_of after d ≡ end_of c.logs d
    unfolding end_of
    end_after = omega (arith, tail_after, fill_after)

    start_from : start_of c.logs d ≤ new_start c d
    start_from = go (new_start_lem c d).one_of
      where
        go : (new_start c d ≡ get_or c.checkpoint.ends d 0)
            ⊎ ((i : ℕ) × (i < places) × Holds c.table d i × (new_start c d ≡ first_at c.table i))
            → start_of c.logs d ≤ new_start c d
        go (inl e) = omega (arith, ((checkpoint_sound_lem c copying s).ends d h).0)
        go (inr (i, l, holds, e)) =
            let on = served_is c.table d i holds.0 in
            rw (e, ← on.1) ((place_sound_lem c i good l on.0).first holds.1).0

    start_to : new_start c d ≤ end_of c.logs d
    start_to = omega (arith, (new_start_lem c d).at_most_end, ((checkpoint_sound_lem c copying s).ends d h).1)

  checkpoint_ended : serving_sound (checkpoint_end_task c w).core ≡ true
  unfolding checkpoint_end_task
  checkpoint_ended =
      serving_test (checkpoint_end_task c w).core (sizes_sound c good) (bases_carried c (checkpoint_end_task c w).core refl refl (bases_sound c good))
      (next_sound c good)
      (λ d h.
      let old = disk_sound_lem c d good h in
      record {
        counted = old.counted;
        fill = omega (arith, fill_after d h);
        ordered = omega (arith, start_after d h, tail_after d h, start_to d h);
        room = omega (arith, kept_start after d, start_after d h, end_after d h, start_from d h, kept_le c.logs d, old.room);
        limit = omega (arith, end_after d h, old.limit);
      })
      (λ i h some.
      let old = place_sound_lem c i good h some in
      let d : ℕ = disk_at_place c.table i in
      record {
        disk = old.disk;
        reserved = old.reserved;
        first = λ u. (
          omega (arith, start_after d old.disk, (new_start_lem c d).at_most_first i h (served_here c.table d i some refl, u)),
          omega (arith, end_after d old.disk, (old.first u).1),
        );
      })

pub checkpoint_end_passes : (c : Core) (w : World) → Sized c → sound c ≡ true → verdict (checkpoint_end_rows c w) ≡ accepted
    → Passing (checkpoint_end_task c w).core
unfolding checkpoint_end_rows checkpoint_end_task sound
checkpoint_end_passes c w sized s ok = (
  record {
    logs = record {
      starts = length_per_disk c.sizes (new_start c);
      tails = length_per_disk c.sizes (end_of c.logs);
      fills = refl;
    };
    table = sized.table;
    ends = refl;
    positions = sized.positions;
  },
  checkpoint_ended c w (stage_row when_copying _ c (row_passed _ _ ok).0) s,
)
