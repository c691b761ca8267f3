-- Tests of every disk and every place, and the parts of a state that they read.
use mathlib.Core.Path.{◌≡◌, refl, sym, ap, ◌∙◌}
use mathlib.Core.Bool.{Bool, ◌&&◌, and_assoc}
use mathlib.Core.List.{List}
use Prim.Native.Nat.{ℕ, ◌+◌, ◌-◌, ◌≤◌, ◌<◌, min}
use native.Mathlib.Omega.{arith}
use lib.Dec.{leb, ltb, eqb}
use lib.ListN.{get_or}
use Rattle.model.specs.declared.Core.{Core}
use Rattle.model.specs.declared.Logs.{Logs}
use Rattle.model.specs.declared.Table.{Table}
use Rattle.model.specs.Below.{all_below}
use Rattle.model.specs.Sizes.{ring_of, sizes_in_bounds}
use Rattle.model.specs.State.{limit, places, start_of, kept_of, tail_of, fill_of, end_of, number_at, disk_at_place, first_at, reserved_at, has_update, reserved_for, reserved_on, bases_right, disk_sound, place_sound, serving_sound, checkpoint_sound, replay_sound}
use Rattle.model.proofs.Below.{all_cong}
use Rattle.table.specs.Parts.{cap, entries_of, core_of, room_for, log_sound, entry_sound, end_within, position_within}
use Rattle.table.proofs.Places.{reserved_parts}
use Rattle.table.proofs.HasRoom.{room_none, counted_capped}
use Rattle.table.proofs.Sums.{SumsOf}

-- a disk is sound when its log is, by the sums of the table
module _ (c : Core) (sums : List ℕ) (all : SumsOf sums c.table) where
  disk_computed : (d : ℕ) → d < 8 → disk_sound c d ≡ log_sound c.sizes.ring c.logs c.table.sums sums d
  unfolding disk_sound log_sound ring_of kept_of reserved_on
  disk_computed d h =
      let start : ℕ = start_of c.logs d in
      let end : ℕ = end_of c.logs d in
      let kept : ℕ = get_or c.table.sums d 0 in
      let count : ℕ = reserved_for c.table d in
      let fill : Bool = leb (fill_of c.logs d) 64 in
      let order : Bool = leb start (tail_of c.logs d) in
      and_assoc (eqb kept count && fill && order) (leb (end - start + kept) c.sizes.ring) (leb (end + kept) limit)
      ∙ ap (λ (b : Bool). eqb kept count && fill && order && b) (room_none start end kept c.sizes.ring)
      ∙ sym (counted_capped fill order start end kept count c.sizes.ring)
      ∙ ap (λ (n : ℕ). eqb kept n && fill && order && room_for start end kept c.sizes.ring 0)
      (sym (all d h ∙ ap (min cap) (reserved_parts c.table d)))

  pub disks_computed : (n : ℕ) → n ≤ 8 → all_below (disk_sound c) n ≡ all_below (log_sound c.sizes.ring c.logs c.table.sums sums) n
  disks_computed n few = all_cong _ _ n (λ d h. disk_computed d (omega (arith, h, few)))

-- a place is sound when its entry is
pub place_computed : (disks ring : ℕ) (logs : Logs) (table : Table) (i : ℕ)
    → place_sound (core_of disks ring logs table) i
    ≡ entry_sound disks logs (get_or table.numbers i 0) (get_or table.disks i 0) (get_or table.firsts i 0) (get_or table.reserved i 0)
unfolding place_sound entry_sound has_update number_at disk_at_place first_at reserved_at
place_computed disks ring logs table i = refl

-- the tests of places read no more of a state than its disks, logs and entries
pub places_parts : (c : Core) {r : Bool}
    → r ≡ all_below (place_sound (core_of c.sizes.disks 0 c.logs (entries_of c.table.numbers c.table.disks c.table.firsts c.table.reserved))) places
    → r ≡ all_below (place_sound c) places
unfolding place_sound has_update number_at disk_at_place first_at reserved_at
places_parts c e = e

-- The tests of a state are those of its sizes, of what it keeps of them, and the bounds computed here.
pub serving_split : (c : Core)
    → serving_sound c
    ≡ (sizes_in_bounds c.sizes && (bases_right c && (ltb 0 c.next && (all_below (disk_sound c) c.sizes.disks && all_below (place_sound c) places))))
unfolding serving_sound
serving_split c =
    let disks : Bool = all_below (disk_sound c) c.sizes.disks in
    let table : Bool = all_below (place_sound c) places in
    and_assoc (sizes_in_bounds c.sizes && bases_right c && ltb 0 c.next) disks table
    ∙ and_assoc (sizes_in_bounds c.sizes && bases_right c) (ltb 0 c.next) (disks && table)
    ∙ and_assoc (sizes_in_bounds c.sizes) (bases_right c) (ltb 0 c.next && (disks && table))

pub replay_split : (c : Core)
    → replay_sound c
    ≡ (sizes_in_bounds c.sizes && (bases_right c && (ltb c.epoch limit && leb c.replay.page c.sizes.pages && all_below (position_within c.logs.tails c.replay.positions) c.sizes.disks)))
unfolding replay_sound tail_of position_within
replay_split c =
    let epoch : Bool = ltb c.epoch limit in
    let page : Bool = leb c.replay.page c.sizes.pages in
    let positions : Bool = all_below (position_within c.logs.tails c.replay.positions) c.sizes.disks in
    and_assoc (sizes_in_bounds c.sizes && bases_right c && epoch) page positions
    ∙ and_assoc (sizes_in_bounds c.sizes && bases_right c) epoch (page && positions)
    ∙ and_assoc (sizes_in_bounds c.sizes) (bases_right c) (epoch && (page && positions))
    ∙ ap (λ (b : Bool). sizes_in_bounds c.sizes && (bases_right c && b)) (sym (and_assoc epoch page positions))

pub ends_parts : (c : Core) → checkpoint_sound c ≡ (ltb c.epoch limit && leb c.checkpoint.copied c.sizes.pages && all_below (end_within c.logs c.checkpoint.ends) c.sizes.disks)
unfolding checkpoint_sound end_within
ends_parts c = refl
