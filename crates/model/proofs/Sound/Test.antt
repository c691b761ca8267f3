-- The arrays of a state have their lengths, and a state within its bounds passes the first test: the converse of what an
-- accepted call may rely on.
use mathlib.Core.Path.{◌≡◌, refl, sym}
use mathlib.Core.Bool.{Bool, true, false, not, ◌&&◌, ◌||◌, and-eq-true_iff}
use Prim.Native.Nat.{ℕ, ◌≤◌, ◌<◌}
use lib.Dec.{leb, ltb, eqb}
use lib.ListN.{length, get_or}
use borrow.Author.Tests.{leb-true, ltb-true, le-leb, lt-ltb, eq-eqb, eqb-false}
use Rattle.model.specs.declared.Stage.{Stage}
use Rattle.model.specs.declared.Stage.TheVariants.{Shut, Replaying, Open, Copying}
use Rattle.model.specs.declared.Core.{Core}
use Rattle.model.specs.Below.{within, all_below}
use Rattle.model.specs.Sizes.{sizes_in_bounds}
use Rattle.model.specs.State.{places, limit, start_of, tail_of, end_of, number_at, disk_at_place, first_at, has_update, bases_right, disk_sound, place_sound, serving_sound, checkpoint_sound, replay_sound, sound_in, sound}
use Rattle.model.specs.Causes.{when_replaying, when_copying}
use Rattle.model.proofs.Below.{all_each, each_all}
use Rattle.model.proofs.SetPlace.{SizedTable}
use Rattle.model.proofs.Store.Rows.{DiskSound, PlaceSound, CheckpointSound}
use Rattle.model.proofs.Growth.{SizedLogs}
use Rattle.model.proofs.Booleans.{true_false, both, all_four}

-- The lengths of the arrays.
pub record Sized (c : Core) : Type 0 where
  pub logs : SizedLogs c.logs
  pub table : SizedTable c.table
  pub ends : length c.checkpoint.ends ≡ 8
  pub positions : length c.replay.positions ≡ 8

-- what every call hands back
abbrev pub Passing : Core → Type 0
Passing c = Sized c × (sound c ≡ true)

within_test : (low high n : ℕ) → low ≤ n → n ≤ high → within low high n ≡ true
unfolding within
within_test low high n a b = rw (le-leb low n a, le-leb n high b)

-- Open or copying: a disk's log, a place of the table, and all of them.
disk_test : (c : Core) (d : ℕ) → DiskSound c d → disk_sound c d ≡ true
unfolding disk_sound
disk_test c d s = rw (eq-eqb _ _ s.counted, le-leb _ _ s.fill, le-leb _ _ s.ordered, le-leb _ _ s.room, le-leb _ _ s.limit)

place_test : (c : Core) (i : ℕ) → ((number_at c.table i ≡ 0 → ⊥) → PlaceSound c i) → place_sound c i ≡ true
unfolding place_sound
place_test c i s = go (eqb (number_at c.table i) 0) refl
  where
    d : ℕ
    d = disk_at_place c.table i

    near : Bool
    near = within (start_of c.logs d) (end_of c.logs d) (first_at c.table i)

    first : PlaceSound c i → (u : Bool) → has_update c.table i ≡ u → (not u || near) ≡ true
    first p false e = refl
    first p true e = within_test _ _ _ (p.first e).0 (p.first e).1

    go : (b : Bool) → eqb (number_at c.table i) 0 ≡ b → place_sound c i ≡ true
    go true e = rw e
    go false e =
        let p = s (eqb-false _ _ e) in
        rw (e, lt-ltb _ _ p.disk, le-leb _ _ p.reserved) (first p (has_update c.table i) refl)

pub serving_test : (c : Core) → sizes_in_bounds c.sizes ≡ true → bases_right c ≡ true → 0 < c.next → ((d : ℕ) → d < c.sizes.disks → DiskSound c d)
    → ((i : ℕ) → i < places → (number_at c.table i ≡ 0 → ⊥) → PlaceSound c i) → serving_sound c ≡ true
unfolding serving_sound
serving_test c sizes bases next disks table =
    rw (
      sizes,
      bases,
      lt-ltb _ _ next,
      each_all (disk_sound c) c.sizes.disks (λ d h. disk_test c d (disks d h)),
      each_all (place_sound c) places (λ i h. place_test c i (table i h)),
    )

-- A checkpoint under way.
pub checkpoint_test : (c : Core) → CheckpointSound c → checkpoint_sound c ≡ true
unfolding checkpoint_sound
checkpoint_test c s =
    rw (
      lt-ltb _ _ s.epoch,
      le-leb _ _ s.copied,
      each_all (λ d. within (start_of c.logs d) (end_of c.logs d) (get_or c.checkpoint.ends d 0)) c.sizes.disks
          (λ d h. within_test _ _ _ (s.ends d h).0 (s.ends d h).1),
    )

-- A restart under way: its number is within the bound, and each log's next position lies before its tail.
pub record ReplaySound (c : Core) : Type 0 where
  pub bounds : sizes_in_bounds c.sizes ≡ true
  pub bases : bases_right c ≡ true
  pub epoch : c.epoch < limit
  pub page : c.replay.page ≤ c.sizes.pages
  pub tails : (d : ℕ) → d < c.sizes.disks → tail_of c.logs d ≤ limit
  pub positions : (d : ℕ) → d < c.sizes.disks → get_or c.replay.positions d 0 ≤ tail_of c.logs d

replay_log : Core → ℕ → Bool
replay_log c d = leb (tail_of c.logs d) limit && leb (get_or c.replay.positions d 0) (tail_of c.logs d)

replay_log_bounds : (c : Core) (d : ℕ) → replay_log c d ≡ true
    → (tail_of c.logs d ≤ limit) × (get_or c.replay.positions d 0 ≤ tail_of c.logs d)
unfolding replay_log
replay_log_bounds c d e =
    let t = (and-eq-true_iff (leb (tail_of c.logs d) limit) (leb (get_or c.replay.positions d 0) (tail_of c.logs d))).0 e in
    (leb-true _ _ t.0, leb-true _ _ t.1)

pub replay_bounds : (c : Core) → replay_sound c ≡ true → ReplaySound c
unfolding replay_sound replay_log
replay_bounds c e =
    let epoch = ltb c.epoch limit in
    let page = leb c.replay.page c.sizes.pages in
    let t = both (sizes_in_bounds c.sizes && bases_right c && epoch && page) (all_below (replay_log c) c.sizes.disks) e in
    let four = all_four (sizes_in_bounds c.sizes) (bases_right c) epoch page t.0 in
    record {
      bounds = four.0;
      bases = four.1;
      epoch = ltb-true _ _ four.2;
      page = leb-true _ _ four.3;
      tails = λ d h. (replay_log_bounds c d (all_each (replay_log c) c.sizes.disks t.1 d h)).0;
      positions = λ d h. (replay_log_bounds c d (all_each (replay_log c) c.sizes.disks t.1 d h)).1;
    }

pub replay_test : (c : Core) → ReplaySound c → replay_sound c ≡ true
unfolding replay_sound replay_log
replay_test c s =
    rw (
      s.bounds,
      s.bases,
      lt-ltb _ _ s.epoch,
      le-leb _ _ s.page,
      each_all (replay_log c) c.sizes.disks (λ d h. rw (le-leb _ _ (s.tails d h), le-leb _ _ (s.positions d h))),
    )

pub replay_sound_lem : (c : Core) → when_replaying c.stage ≡ true → sound c ≡ true → ReplaySound c
unfolding sound
replay_sound_lem c = go c.stage
  where
    go : (s : Stage) → when_replaying s ≡ true → sound_in s c ≡ true → ReplaySound c
    go Shut e h = true_false refl (sym e)
    go Replaying e h = replay_bounds c h
    go Open e h = true_false refl (sym e)
    go Copying e h = true_false refl (sym e)

-- By its stage, what a state has to satisfy.
pub copying_test : (c : Core) → when_copying c.stage ≡ true → serving_sound c ≡ true → CheckpointSound c → sound c ≡ true
unfolding sound
copying_test c e ok k = go c.stage e
  where
    go : (s : Stage) → when_copying s ≡ true → sound_in s c ≡ true
    go Shut e = refl
    go Replaying e = true_false refl (sym e)
    go Open e = ok
    go Copying e = rw (ok, checkpoint_test c k)

pub replaying_test : (c : Core) → when_replaying c.stage ≡ true → ReplaySound c → sound c ≡ true
unfolding sound
replaying_test c e k = go c.stage e
  where
    go : (s : Stage) → when_replaying s ≡ true → sound_in s c ≡ true
    go Shut e = refl
    go Replaying e = replay_test c k
    go Open e = true_false refl (sym e)
    go Copying e = true_false refl (sym e)
