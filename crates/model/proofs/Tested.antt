-- What a call tests of a state before it reads it (specs/Reads.antt): every state that passes the whole test passes these.
use mathlib.Core.Path.{◌≡◌, refl}
use mathlib.Core.Bool.{Bool, true, false, not, ◌&&◌, ◌||◌}
use Prim.Native.Nat.{ℕ, ◌+◌, ◌-◌, ◌≤◌, ◌<◌}
use native.Mathlib.Omega.{arith}
use lib.Dec.{leb}
use borrow.Author.Tests.{leb-false, le-leb, lt-ltb, eq-eqb, not-false}
use Rattle.model.specs.declared.Stage.{Stage}
use Rattle.model.specs.declared.Stage.TheVariants.{Shut, Replaying, Open, Copying}
use Rattle.model.specs.declared.Core.{Core}
use Rattle.model.specs.Sizes.{page_words, ring_of, used_entry, sizes_in_bounds}
use Rattle.model.specs.World.{World}
use Rattle.model.specs.Memory.{lengths_right}
use Rattle.model.specs.State.{place_of, is_open, end_of, first_at, reserved_at, has_update, base_of, bases_right, serving_sound, checkpoint_sound, sound_in, sound}
use Rattle.model.specs.Causes.{when_shut, when_replaying, when_open, when_copying, when_serving, stage_forbids, lengths_wrong, slot_missing}
use Rattle.model.specs.Reads.{counts_fit, slot_fits, place_fits, home_fits, scope_fits, sizes_fit, abort_fits, fits_on, update_fits}
use Rattle.model.specs.Call.{Call, format, begin, update, look, read, list_line, list_lines, commit, abort, set_classes, checkpoint_begin, checkpoint_step, checkpoint_end, restart_begin, restart_step, restart_run, restart_end, new_state}
use Rattle.model.specs.Transaction.{disk_of}
use Rattle.model.specs.Answers.{stages_of, fits_call}
use Rattle.model.proofs.Booleans.{true_false, both, or_none, or_right}
use Rattle.model.proofs.Lengths.{counts_right}
use Rattle.model.proofs.Bounds.{Bounded, bounded, used_right_lem, total_max}
use Rattle.model.proofs.KeptBases.{total_kept, base_kept}
use Rattle.model.proofs.Geometry.{page_end}
use Rattle.model.proofs.Growth.{kept_le}
use Rattle.model.proofs.Store.Rows.{not_shut, serving_sound_lem, sizes_sound, bases_sound, disk_sound_lem}
use Rattle.model.proofs.Sound.Test.{replay_bounds}
use Rattle.model.proofs.Store.Accepted.{open_entry, open_below}

-- A state that is not shut, and passes the whole test, has its sizes within their bounds, and what it keeps of them is right.
kept_right : (c : Core) → sound c ≡ true → when_shut c.stage ≡ false → (sizes_in_bounds c.sizes ≡ true) × (bases_right c ≡ true)
unfolding sound
kept_right c = go c.stage
  where
    go : (s : Stage) → sound_in s c ≡ true → when_shut s ≡ false → (sizes_in_bounds c.sizes ≡ true) × (bases_right c ≡ true)
    go Shut ok shut = true_false refl shut
    go Replaying ok shut = let r = replay_bounds c ok in (r.bounds, r.bases)
    go Open ok shut = (sizes_sound c ok, bases_sound c ok)
    go Copying ok shut = let good = (both (serving_sound c) (checkpoint_sound c) ok).0 in (sizes_sound c good, bases_sound c good)

pub counts_pass : (c : Core) → sound c ≡ true → when_shut c.stage ≡ false → counts_fit c ≡ true
unfolding counts_fit
counts_pass c ok shut =
    let right = kept_right c ok shut in
    rw (counts_right c.sizes right.0)
    (le-leb c.bases.total 8192 (omega (arith, total_kept c right.1, total_max c.sizes (bounded c.sizes right.0))))

fits_passes : (allowed : Stage → Bool) → allowed Shut ≡ false → (test : Bool) (c : Core) (w : World) → sound c ≡ true → allowed c.stage ≡ true
    → test ≡ true → fits_on test c w ≡ true
unfolding fits_on
fits_passes allowed never test c w ok stage passes =
    rw (counts_pass c ok (not_shut allowed never c.stage stage))
    (or_right (lengths_wrong c.sizes c.bases.total w) test passes)

module _ (c : Core) (ok : serving_sound c ≡ true) where
  bounds : Bounded c.sizes
  bounds = bounded c.sizes (sizes_sound c ok)

  pub slot_passes : (page slot : ℕ) → slot_fits page slot c ≡ true
  unfolding slot_fits slot_missing
  slot_passes page slot = go (slot_missing c.sizes page slot) refl
    where
      go : (b : Bool) → slot_missing c.sizes page slot ≡ b
          → (b || used_entry c.sizes page && leb (base_of c page + page_words c.sizes page) c.bases.total) ≡ true
      go true e = refl
      go false e =
          let below : page < c.sizes.pages = leb-false _ _ (or_none _ _ e).0 in
          let base = base_kept c (bases_sound c ok) page (omega (arith, bounds.pages_max)) in
          rw (used_right_lem c.sizes bounds page below)
          (le-leb (base_of c page + page_words c.sizes page) c.bases.total
          (omega (arith, total_kept c (bases_sound c ok), page_end c.sizes page below)))

  module _ (number : ℕ) (opened : is_open c.table number ≡ true) where
    place_passes : place_fits (place_of c.table number) c ≡ true
    unfolding place_fits disk_of
    place_passes =
        let mine = open_entry c number ok opened in
        let disk = disk_sound_lem c (disk_of c number) ok (open_below c number ok opened) in
        rw (
          lt-ltb _ _ (open_below c number ok opened),
          le-leb _ _ disk.fill,
          le-leb _ _ mine.sound.reserved,
          le-leb _ _ mine.on,
          le-leb _ _ disk.limit,
        )

    scope_passes : scope_fits (place_of c.table number) c ≡ true
    unfolding scope_fits disk_of
    scope_passes = go (has_update c.table (place_of c.table number)) refl
      where
        place : ℕ
        place = place_of c.table number

        go : (b : Bool) → has_update c.table place ≡ b
            → (not b || leb (end_of c.logs (disk_of c number) - first_at c.table place + reserved_at c.table place) (ring_of c.sizes (disk_of c number))) ≡ true
        go false e = refl
        go true e =
            let mine = open_entry c number ok opened in
            let disk = disk_sound_lem c (disk_of c number) ok (open_below c number ok opened) in
            let first = mine.sound.first e in
            let near : end_of c.logs (disk_of c number) - first_at c.table place + reserved_at c.table place ≤ ring_of c.sizes (disk_of c number) =
            omega (arith, first.0, first.1, mine.on, disk.room, disk.ordered, kept_le c.logs (disk_of c number)) in
            le-leb _ _ near

  sizes_pass : sizes_fit c ≡ true
  unfolding sizes_fit
  sizes_pass = rw (sizes_sound c ok, eq-eqb _ _ (total_kept c (bases_sound c ok))) refl

  pub home_passes : (number : ℕ) → home_fits number c ≡ true
  unfolding home_fits
  home_passes number = go (is_open c.table number) refl
    where
      go : (b : Bool) → is_open c.table number ≡ b → (not b || place_fits (place_of c.table number) c) ≡ true
      go false e = refl
      go true e = place_passes number e

  pub abort_reads_pass : (number : ℕ) → abort_fits number c ≡ true
  unfolding abort_fits
  abort_reads_pass number = go (is_open c.table number) refl
    where
      go : (b : Bool) → is_open c.table number ≡ b
          → (not b || place_fits (place_of c.table number) c && scope_fits (place_of c.table number) c && sizes_fit c) ≡ true
      go false e = refl
      go true e = rw (place_passes number e, scope_passes number e, sizes_pass) refl

-- A state that passes the whole test, in a stage that the call is for, passes what the call tests, on whatever slices.
pub reads_pass : (k : Call) (c : Core) (w : World) → sound c ≡ true → stages_of k c.stage ≡ true → fits_call k c w ≡ true
unfolding update_fits
reads_pass (format s budget) c w ok stage = refl
reads_pass (begin class) c w ok stage = counts_pass c ok (not_shut when_serving refl c.stage stage)
reads_pass (update number page slot value budget) c w ok stage =
    let good = serving_sound_lem c stage ok in
    fits_passes when_serving refl _ c w ok stage (rw (slot_passes c good page slot, home_passes c good number))
reads_pass (look (read reader page slot)) c w ok stage = fits_passes when_serving refl _ c w ok stage (slot_passes c (serving_sound_lem c stage ok) page slot)
reads_pass (look (list_line number bytes)) c w ok stage = refl
reads_pass (look (list_lines first bytes)) c w ok stage = refl
reads_pass (commit number budget) c w ok stage = fits_passes when_serving refl _ c w ok stage (home_passes c (serving_sound_lem c stage ok) number)
reads_pass (abort number budget) c w ok stage = fits_passes when_serving refl _ c w ok stage (abort_reads_pass c (serving_sound_lem c stage ok) number)
reads_pass (set_classes lines) c w ok stage = counts_pass c ok (not_shut when_serving refl c.stage stage)
reads_pass checkpoint_begin c w ok stage = fits_passes when_open refl _ c w ok stage ok
reads_pass (checkpoint_step budget) c w ok stage = fits_passes when_copying refl _ c w ok stage ok
reads_pass (checkpoint_end budget) c w ok stage = fits_passes when_copying refl _ c w ok stage ok
reads_pass restart_begin c w ok stage = refl
reads_pass (restart_step source) c w ok stage = fits_passes when_replaying refl _ c w ok stage ok
reads_pass (restart_run source most) c w ok stage = fits_passes when_replaying refl _ c w ok stage ok
reads_pass (restart_end budget) c w ok stage = fits_passes when_replaying refl _ c w ok stage ok
reads_pass new_state c w ok stage = refl

-- Conversely, of a state that no call made: a call that rows 1 and 5 let pass has tested what it reads.
pub fits_row : (allowed : Stage → Bool) (fits : Bool) (c : Core) → stage_forbids allowed fits c ≡ false → fits ≡ true
unfolding stage_forbids
fits_row allowed fits c e = (both (allowed c.stage) fits (not-false _ e)).1

module _ (test : Bool) (c : Core) (w : World) (fits : fits_on test c w ≡ true) where
  pub counts_tested : counts_fit c ≡ true
  unfolding fits_on
  counts_tested = (both (counts_fit c) (lengths_wrong c.sizes c.bases.total w || test) fits).0

  pub tested : lengths_right c.sizes c.bases.total w ≡ true → test ≡ true
  unfolding fits_on lengths_wrong
  tested right = rw right at (both (counts_fit c) (lengths_wrong c.sizes c.bases.total w || test) fits).1
