-- An open or copying state after one place of its table changed and the log of one disk grew: begin, update, commit and abort.
use mathlib.Core.Path.{◌≡◌, refl, sym, ◌∙◌}
use mathlib.Core.Bool.{true}
use Prim.Native.Nat.{ℕ, ◌+◌, ◌≤◌, ◌<◌}
use native.Mathlib.Omega.{arith}
use native.Mathlib.Decide.{ℕ_discrete}
use borrow.Author.Tests.{ltb-true}
use Rattle.model.specs.declared.Stage.{Stage}
use Rattle.model.specs.declared.Stage.TheVariants.{Shut, Replaying, Open, Copying}
use Rattle.model.specs.declared.Logs.{Logs}
use Rattle.model.specs.declared.Table.{Table}
use Rattle.model.specs.declared.Core.{Core}
use Rattle.model.specs.State.{serving_with, places, start_of, end_of, number_at, disk_at_place, has_update, reserved_for, reserved_on, serving_sound, sound_in, sound}
use Rattle.model.specs.Causes.{when_serving}
use Rattle.model.proofs.KeptBases.{bases_carried}
use Rattle.model.proofs.Store.Rows.{serving_sound_lem, sizes_sound, bases_sound, DiskSound, disk_sound_lem, PlaceSound, place_sound_lem, CheckpointSound, checkpoint_sound_lem}
use Rattle.model.proofs.SetPlace.{entered, put_number, put_disk, put_first, put_reserved, put_sum, other_sum, other_same}
use Rattle.model.proofs.Sound.Test.{Sized, serving_test, checkpoint_test}
use Rattle.model.proofs.Reserved.{reserved_by, free_by, own_by, other_by, reserved_changed}
use Rattle.model.proofs.Growth.{tail_end, kept_le, Longer, other_ends}
use Rattle.model.proofs.Booleans.{true_false}
use Rattle.model.proofs.Store.Accepted.{Room, room_none, disks_max}

-- a checkpoint under way stays within its bounds while the logs grow
pub grown_sound : (c : Core) (l : Logs) (t : Table) (next : ℕ) → when_serving c.stage ≡ true → sound c ≡ true
    → ((d : ℕ) → start_of l d ≡ start_of c.logs d) → ((d : ℕ) → end_of c.logs d ≤ end_of l d)
    → serving_sound (serving_with c l t next) ≡ true → sound (serving_with c l t next) ≡ true
unfolding sound
grown_sound c l t next serving s starts ends ok = go c.stage refl serving
  where
    copying : CheckpointSound c → CheckpointSound (serving_with c l t next)
    copying k =
        record {
          epoch = k.epoch;
          copied = k.copied;
          ends = λ d h. (omega (arith, starts d, (k.ends d h).0), omega (arith, ends d, (k.ends d h).1));
        }

    go : (g : Stage) → c.stage ≡ g → when_serving g ≡ true → sound_in g (serving_with c l t next) ≡ true
    go Shut e h = true_false refl (sym h)
    go Replaying e h = true_false refl (sym h)
    go Open e h = ok
    go Copying e h = rw (ok, checkpoint_test (serving_with c l t next) (copying (checkpoint_sound_lem c (rw e) s)))

-- What the entry of a transaction on disk d has to satisfy, where the log of d grew by `grow` words.
pub record Held (c : Core) (d grow disk first reserved : ℕ) : Type 0 where
  pub home : disk ≡ d
  pub closing : 2 ≤ reserved
  pub inside : 2 < reserved → (start_of c.logs d ≤ first) × (first ≤ end_of c.logs d + grow)

-- Place p holds a new entry, `words` are counted as reserved on disk d, and the log of d grew by `grow` words.
module _ (c : Core) (serving : when_serving c.stage ≡ true) (s : sound c ≡ true) (sized : Sized c) (d grow : ℕ) (l : Logs)
    (below : d < c.sizes.disks) (g : Longer c.sizes d grow c.logs l) (p : ℕ) (at : p < places)
    (number disk first reserved words next : ℕ) where
  ok : serving_sound c ≡ true
  ok = serving_sound_lem c serving s

  abbrev table : Table
  table = entered c.table p number disk first reserved d words

  abbrev after : Core
  after = serving_with c l table next

  ends : (e : ℕ) → end_of c.logs e ≤ end_of l e
  ends e = go (ℕ_discrete e d)
    where
      go : Dec (e ≡ d) → end_of c.logs e ≤ end_of l e
      go (yes same) = rw same (omega (arith, g.end_longer))
      go (no ne) = omega (arith, other_ends g e ne)

  -- a disk where no more words are taken and reserved than there is room for
  disk_after : (e k : ℕ) → e < c.sizes.disks → Room c e k → reserved_on table e ≡ reserved_for table e
      → end_of l e + reserved_on table e ≤ end_of c.logs e + reserved_on c.table e + k → DiskSound after e
  disk_after e k h room counted fits =
      let old = disk_sound_lem c e ok h in
      record {
        counted = counted;
        fill = g.small e h;
        ordered = omega (arith, g.start_same e, g.tail_up e);
        room = omega (arith, g.kept_same e, kept_le c.logs e, ends e, tail_end c.logs e, room.ring);
        limit = omega (arith, room.top);
      }

  -- a place other than p
  place_after : (i : ℕ) → i < places → (i ≡ p → ⊥) → (number_at table i ≡ 0 → ⊥) → PlaceSound after i
  unfolding has_update
  place_after i h ne some =
      let same = other_same c.table p number disk first reserved d words i ne in
      let old = place_sound_lem c i ok h (λ e. some (same.number ∙ e)) in
      let e : ℕ = disk_at_place c.table i in
      record {
        disk = rw same.disk old.disk;
        reserved = rw same.reserved old.reserved;
        first = λ u.
            let near = old.first (rw same.reserved at u) in
            rw (same.disk, same.first) (omega (arith, g.start_same e, near.0), omega (arith, ends e, near.1));
      }

  -- place p itself
  place_here : Held c d grow disk first reserved → PlaceSound after p
  unfolding has_update
  place_here n =
      let where_is = put_disk c.table sized.table p number disk first reserved d words at in
      let from = put_first c.table sized.table p number disk first reserved d words at in
      let held = put_reserved c.table sized.table p number disk first reserved d words at in
      record {
        disk = rw (where_is, n.home) below;
        reserved = rw held n.closing;
        first = λ u.
            let near = n.inside (ltb-true _ _ (rw held at u)) in
            rw (where_is, from, n.home) (omega (arith, g.start_same d, near.0), omega (arith, g.end_longer, near.1));
      }

  -- No more words are written and reserved than the place had reserved and disk d has room for, and the count is right.
  module _ (k : ℕ) (room : Room c d k) (fits : grow + reserved ≤ reserved_by c.table d p + k)
      (alone : (e : ℕ) → (e ≡ d → ⊥) → reserved_by c.table e p ≡ 0) (none : number ≡ 0 → reserved ≡ 0) (entry : (number ≡ 0 → ⊥) → Held c d grow disk first reserved)
      (count : words + reserved_by c.table d p ≡ reserved_on c.table d + reserved) where
    is : number_at table p ≡ number
    is = put_number c.table sized.table p number disk first reserved d words at

    at_home : (number ≡ 0 → ⊥) → disk_at_place table p ≡ d
    at_home nz = put_disk c.table sized.table p number disk first reserved d words at ∙ (entry nz).home

    -- the entry takes words on disk d alone, as the one before it did
    by_here : reserved_by table d p ≡ reserved
    by_here = go (ℕ_discrete number 0)
      where
        go : Dec (number ≡ 0) → reserved_by table d p ≡ reserved
        go (yes z) = free_by table d p (is ∙ z) ∙ sym (none z)
        go (no nz) =
            own_by table d p (λ z. nz (sym is ∙ z)) (at_home nz)
            ∙ put_reserved c.table sized.table p number disk first reserved d words at

    by_other : (e : ℕ) → (e ≡ d → ⊥) → reserved_by table e p ≡ 0
    by_other e ne = go (ℕ_discrete number 0)
      where
        go : Dec (number ≡ 0) → reserved_by table e p ≡ 0
        go (yes z) = free_by table e p (is ∙ z)
        go (no nz) = other_by table e p (λ z. nz (sym is ∙ z)) (λ x. ne (sym x ∙ at_home nz))

    disks_after : (e : ℕ) → e < c.sizes.disks → DiskSound after e
    disks_after e h = go (ℕ_discrete e d)
      where
        moved : (e : ℕ) → reserved_for table e + reserved_by c.table e p ≡ reserved_for c.table e + reserved_by table e p
        moved = reserved_changed c.table p number disk first reserved d words at

        go : Dec (e ≡ d) → DiskSound after e
        go (yes same) =
            let sum = put_sum c.table p number disk first reserved d words sized.table (omega (arith, disks_max c ok)) in
            let was = (disk_sound_lem c d ok below).counted in
            rw same
            (disk_after d k below room (omega (arith, by_here, moved d)) (omega (arith, g.end_longer)))
        go (no ne) =
            let sum = other_sum c.table p number disk first reserved d words e ne in
            let was = disk_sound_lem c e ok h in
            disk_after e 0 h (room_none c e was) (omega (arith, by_other e ne, moved e, was.counted, alone e ne)) (omega (arith, other_ends g e ne))

    -- so the state with the entry and the longer log is sound
    pub entry_sound_lem : 0 < next → sound (serving_with c l (entered c.table p number disk first reserved d words) next) ≡ true
    entry_sound_lem some_next =
        grown_sound c l table next serving s g.start_same ends
        (serving_test after (sizes_sound c ok) (bases_carried c after refl refl (bases_sound c ok)) some_next disks_after (λ i h. place i h (ℕ_discrete i p)))
      where
        place : (i : ℕ) → i < places → Dec (i ≡ p) → (number_at table i ≡ 0 → ⊥) → PlaceSound after i
        place i h (yes same) some =
            rw same
            (place_here (entry (λ z. some (rw same (is ∙ z)))))
        place i h (no ne) some = place_after i h ne some
