-- What an accepted call learns of its stage, and what the bounds of a state say.
use mathlib.Core.Path.{◌≡◌, refl, sym}
use mathlib.Core.Bool.{Bool, true, false, not, ◌&&◌, ◌||◌}
use Prim.Native.Nat.{ℕ, ◌+◌, ◌-◌, ◌≤◌, ◌<◌}
use lib.Dec.{leb, ltb, eqb}
use lib.ListN.{get_or}
use borrow.Author.Tests.{leb-true, ltb-true, eqb-true, ne_eqb, not-false}
use Rattle.model.specs.declared.Stage.{Stage}
use Rattle.model.specs.declared.Stage.TheVariants.{Shut, Replaying, Open, Copying}
use Rattle.model.specs.declared.Core.{Core}
use Rattle.model.specs.Below.{within, all_below}
use Rattle.model.specs.Sizes.{ring_of, sizes_in_bounds}
use Rattle.model.specs.State.{places, limit, start_of, kept_of, tail_of, fill_of, end_of, number_at, disk_at_place, first_at, reserved_at, has_update, reserved_for, reserved_on, bases_right, disk_sound, place_sound, serving_sound, checkpoint_sound, sound_in, sound}
use Rattle.model.specs.Causes.{when_shut, when_open, when_copying, when_serving, stage_forbids}
use Rattle.model.proofs.Below.{all_each}
use Rattle.model.proofs.Booleans.{true_false, both, all_four, in_range}

-- Row 1: the stage is one that the call is for. That the state is within its bounds is known of every state that calls made
-- (proofs/Sound), so no law takes it from here.
pub stage_row : (allowed : Stage → Bool) (fits : Bool) (c : Core) → stage_forbids allowed fits c ≡ false → allowed c.stage ≡ true
unfolding stage_forbids
stage_row allowed fits c e = (both (allowed c.stage) fits (not-false _ e)).0

pub not_shut : (allowed : Stage → Bool) → allowed Shut ≡ false → (s : Stage) → allowed s ≡ true → when_shut s ≡ false
not_shut allowed never Shut e = true_false e never
not_shut allowed never Replaying e = refl
not_shut allowed never Open e = refl
not_shut allowed never Copying e = refl

-- a store that serves is open or copying
pub open_serving : (c : Core) → when_open c.stage ≡ true → when_serving c.stage ≡ true
open_serving c = go c.stage
  where
    go : (s : Stage) → when_open s ≡ true → when_serving s ≡ true
    go Shut e = e
    go Replaying e = e
    go Open e = refl
    go Copying e = refl

pub copying_serving : (c : Core) → when_copying c.stage ≡ true → when_serving c.stage ≡ true
copying_serving c = go c.stage
  where
    go : (s : Stage) → when_copying s ≡ true → when_serving s ≡ true
    go Shut e = e
    go Replaying e = e
    go Open e = refl
    go Copying e = refl

pub copying_not_open : (c : Core) → when_copying c.stage ≡ true → when_open c.stage ≡ false
copying_not_open c = go c.stage
  where
    go : (s : Stage) → when_copying s ≡ true → when_open s ≡ false
    go Shut e = refl
    go Replaying e = refl
    go Open e = sym e
    go Copying e = refl

-- What soundness says of an open or copying store.
pub serving_sound_lem : (c : Core) → when_serving c.stage ≡ true → sound c ≡ true → serving_sound c ≡ true
unfolding sound
serving_sound_lem c = go c.stage
  where
    go : (s : Stage) → when_serving s ≡ true → sound_in s c ≡ true → serving_sound c ≡ true
    go Shut e h = true_false refl (sym e)
    go Replaying e h = true_false refl (sym e)
    go Open e h = h
    go Copying e h = (both (serving_sound c) (checkpoint_sound c) h).0

-- its parts
record ServingParts (c : Core) : Type 0 where
  sizes : sizes_in_bounds c.sizes ≡ true
  bases : bases_right c ≡ true
  next : 0 < c.next
  disks : all_below (disk_sound c) c.sizes.disks ≡ true
  table : all_below (place_sound c) places ≡ true

serving_parts : (c : Core) → serving_sound c ≡ true → ServingParts c
unfolding serving_sound
serving_parts c e =
    let disks = all_below (disk_sound c) c.sizes.disks in
    let t = both (sizes_in_bounds c.sizes && bases_right c && ltb 0 c.next && disks) (all_below (place_sound c) places) e in
    let four = all_four (sizes_in_bounds c.sizes) (bases_right c) (ltb 0 c.next) disks t.0 in
    record { sizes = four.0; bases = four.1; next = ltb-true _ _ four.2; disks = four.3; table = t.1 }

-- its sizes are within their bounds, what is kept of them is right, and its next number is no free place's
pub sizes_sound : (c : Core) → serving_sound c ≡ true → sizes_in_bounds c.sizes ≡ true
sizes_sound c e = (serving_parts c e).sizes

pub bases_sound : (c : Core) → serving_sound c ≡ true → bases_right c ≡ true
bases_sound c e = (serving_parts c e).bases

pub next_sound : (c : Core) → serving_sound c ≡ true → 0 < c.next
next_sound c e = (serving_parts c e).next

-- A disk's log: the words reserved on it are counted right, its buffer holds 64 words, its start is no later than its tail, and
-- what is in it and what is reserved fits the ring and the bound of positions.
pub record DiskSound (c : Core) (d : ℕ) : Type 0 where
  pub counted : reserved_on c.table d ≡ reserved_for c.table d
  pub fill : fill_of c.logs d ≤ 64
  pub ordered : start_of c.logs d ≤ tail_of c.logs d
  pub room : end_of c.logs d - kept_of c.logs d + reserved_on c.table d ≤ ring_of c.sizes d
  pub limit : end_of c.logs d + reserved_on c.table d ≤ limit

disk_bounds : (c : Core) (d : ℕ) → disk_sound c d ≡ true → DiskSound c d
unfolding disk_sound
disk_bounds c d e =
    let counted = eqb (reserved_on c.table d) (reserved_for c.table d) in
    let fill = leb (fill_of c.logs d) 64 in
    let ordered = leb (start_of c.logs d) (tail_of c.logs d) in
    let room = leb (end_of c.logs d - kept_of c.logs d + reserved_on c.table d) (ring_of c.sizes d) in
    let t = both (counted && fill && ordered && room) (leb (end_of c.logs d + reserved_on c.table d) limit) e in
    let four = all_four counted fill ordered room t.0 in
    record {
      counted = eqb-true _ _ four.0;
      fill = leb-true _ _ four.1;
      ordered = leb-true _ _ four.2;
      room = leb-true _ _ four.3;
      limit = leb-true _ _ t.1;
    }

pub disk_sound_lem : (c : Core) (d : ℕ) → serving_sound c ≡ true → d < c.sizes.disks → DiskSound c d
disk_sound_lem c d e h = disk_bounds c d (all_each (disk_sound c) c.sizes.disks (serving_parts c e).disks d h)

-- A place of the table that holds a transaction: it is on a disk, has its two closing words reserved, and its first record
-- lies in that disk's log.
pub record PlaceSound (c : Core) (i : ℕ) : Type 0 where
  pub disk : disk_at_place c.table i < c.sizes.disks
  pub reserved : 2 ≤ reserved_at c.table i
  pub first : has_update c.table i ≡ true
      → (start_of c.logs (disk_at_place c.table i) ≤ first_at c.table i) × (first_at c.table i ≤ end_of c.logs (disk_at_place c.table i))

place_bounds : (c : Core) (i : ℕ) → place_sound c i ≡ true → (number_at c.table i ≡ 0 → ⊥) → PlaceSound c i
unfolding place_sound
place_bounds c i e some =
    let d = disk_at_place c.table i in
    let near = within (start_of c.logs d) (end_of c.logs d) (first_at c.table i) in
    let on = ltb d c.sizes.disks in
    let two = leb 2 (reserved_at c.table i) in
    let e' : on && two && (not (has_update c.table i) || near) ≡ true = rw (ne_eqb (number_at c.table i) 0 some) at e in
    let t1 = both (on && two) (not (has_update c.table i) || near) e' in
    let t0 = both on two t1.0 in
    record {
      disk = ltb-true _ _ t0.0;
      reserved = leb-true _ _ t0.1;
      first = λ h. in_range _ _ _ (rw h at t1.1);
    }

pub place_sound_lem : (c : Core) (i : ℕ) → serving_sound c ≡ true → i < places → (number_at c.table i ≡ 0 → ⊥) → PlaceSound c i
place_sound_lem c i e h some = place_bounds c i (all_each (place_sound c) places (serving_parts c e).table i h) some

-- A checkpoint under way: its number is within the bound, and each remembered end lies in its disk's log.
pub record CheckpointSound (c : Core) : Type 0 where
  pub epoch : c.epoch < limit
  pub copied : c.checkpoint.copied ≤ c.sizes.pages
  pub ends : (d : ℕ) → d < c.sizes.disks
      → (start_of c.logs d ≤ get_or c.checkpoint.ends d 0) × (get_or c.checkpoint.ends d 0 ≤ end_of c.logs d)

checkpoint_bounds : (c : Core) → checkpoint_sound c ≡ true → CheckpointSound c
unfolding checkpoint_sound
checkpoint_bounds c e =
    let near : ℕ → Bool = λ d. within (start_of c.logs d) (end_of c.logs d) (get_or c.checkpoint.ends d 0) in
    let t1 = both (ltb c.epoch limit && leb c.checkpoint.copied c.sizes.pages) (all_below near c.sizes.disks) e in
    let t0 = both (ltb c.epoch limit) (leb c.checkpoint.copied c.sizes.pages) t1.0 in
    record {
      epoch = ltb-true _ _ t0.0;
      copied = leb-true _ _ t0.1;
      ends = λ d h. in_range _ _ _ (all_each near c.sizes.disks t1.1 d h);
    }

pub checkpoint_sound_lem : (c : Core) → when_copying c.stage ≡ true → sound c ≡ true → CheckpointSound c
unfolding sound
checkpoint_sound_lem c = go c.stage
  where
    go : (s : Stage) → when_copying s ≡ true → sound_in s c ≡ true → CheckpointSound c
    go Shut e h = true_false refl (sym e)
    go Replaying e h = true_false refl (sym e)
    go Open e h = true_false refl (sym e)
    go Copying e h = checkpoint_bounds c (both (serving_sound c) (checkpoint_sound c) h).1
