-- What an accepted begin, update, commit or abort may rely on, taken from its rows once.
use mathlib.Core.Path.{◌≡◌, refl, sym, ◌∙◌}
use mathlib.Core.List.{List}
use mathlib.Core.Bool.{true, false}
use Prim.Native.Nat.{ℕ, ◌+◌, ◌-◌, ◌*◌, ◌≤◌, ◌<◌}
use native.Mathlib.Omega.{arith}
use lib.Dec.{leb}
use lib.ListN.{length}
use borrow.Author.Tests.{leb-true, leb-false, not-false, eqb-true}
use Rattle.model.specs.declared.Core.{Core}
use Rattle.model.specs.Sizes.{slots_in, width_in, ring_of}
use Rattle.model.specs.Record.{words_of, update_kind}
use Rattle.model.specs.Scan.{update_words}
use Rattle.model.specs.World.{World}
use Rattle.model.specs.State.{places, limit, kept_of, end_of, number_at, disk_at_place, place_of, reserved_at, is_open, reserved_on, serving_sound, sound}
use Rattle.model.specs.Classes.{in_set, set_for}
use Rattle.model.specs.Room.{has_room, load_of, eligible, idlest, Idlest}
use Rattle.model.specs.Refusal.{accepted, verdict}
use Rattle.model.specs.Causes.{when_serving, table_full, slot_missing, not_open, value_wrong, locked}
use Rattle.model.specs.Transaction.{disk_of, begin_rows, update_rows, commit_rows}
use Rattle.model.specs.Abort.{updates_left, abort_rows}
use Rattle.model.proofs.Booleans.{both, or_none}
use Rattle.model.proofs.Verdict.{row_passed}
use Rattle.model.proofs.Meaning.{idlest_found}
use Rattle.model.proofs.Updates.{abort_words}
use Rattle.model.proofs.Bounds.{bounded}
use Rattle.model.proofs.Places.{place_holds, open_place}
use Rattle.model.proofs.Reserved.{reserved_by, own_by, by_le}
use Rattle.model.proofs.Growth.{Small}
use Rattle.model.proofs.Store.Rows.{stage_row, serving_sound_lem, sizes_sound, DiskSound, disk_sound_lem, PlaceSound, place_sound_lem}

-- Room for k words more on a disk, beside those that are reserved.
pub record Room (c : Core) (d k : ℕ) : Type 0 where
  pub ring : end_of c.logs d - kept_of c.logs d + reserved_on c.table d + k ≤ ring_of c.sizes d
  pub top : end_of c.logs d + reserved_on c.table d + k ≤ limit

pub room_found : (c : Core) (k d : ℕ) → has_room c k d ≡ true → Room c d k
unfolding has_room
room_found c k d e =
    let t =
    both (leb (end_of c.logs d - kept_of c.logs d + reserved_on c.table d + k) (ring_of c.sizes d))
    (leb (end_of c.logs d + reserved_on c.table d + k) limit) e in
    record { ring = leb-true _ _ t.0; top = leb-true _ _ t.1 }

pub room_none : (c : Core) (d : ℕ) → DiskSound c d → Room c d 0
room_none c d s = record { ring = omega (arith, s.room); top = omega (arith, s.limit) }

-- what soundness says of all buffers, and of how many disks there are
pub small_buffers : (c : Core) → serving_sound c ≡ true → Small c.sizes c.logs
small_buffers c ok d h = (disk_sound_lem c d ok h).fill

pub disks_max : (c : Core) → serving_sound c ≡ true → c.sizes.disks ≤ 8
disks_max c ok = (bounded c.sizes (sizes_sound c ok)).disks_max

-- A transaction that is open, as its place of the table has it.
pub record OpenPlace (c : Core) (number : ℕ) : Type 0 where
  pub at : place_of c.table number < places
  pub sound : PlaceSound c (place_of c.table number)
  -- all its words are reserved on its disk
  pub by : reserved_by c.table (disk_of c number) (place_of c.table number) ≡ reserved_at c.table (place_of c.table number)
  pub on : reserved_at c.table (place_of c.table number) ≤ reserved_on c.table (disk_of c number)

module _ (c : Core) (number : ℕ) (ok : serving_sound c ≡ true) (o : is_open c.table number ≡ true) where
  pub open_entry : OpenPlace c number
  unfolding disk_of
  open_entry =
      let place : ℕ = place_of c.table number in
      let here = open_place c.table number o in
      let some : number_at c.table place ≡ 0 → ⊥ = λ e. here.0 (sym (place_holds c.table number here.1) ∙ e) in
      let by = own_by c.table (disk_at_place c.table place) place some refl in
      let right = place_sound_lem c place ok here.1 some in
      record {
        at = here.1;
        sound = right;
        by = by;
        on = omega (arith, by_le c.table (disk_at_place c.table place) place here.1, (disk_sound_lem c (disk_at_place c.table place) ok right.disk).counted);
      }

  pub open_below : disk_of c number < c.sizes.disks
  unfolding disk_of
  open_below = open_entry.sound.disk

  -- words that are reserved for it fit the ring and the bound of positions
  pub own_room : (k : ℕ) → k ≤ reserved_at c.table (place_of c.table number)
      → (end_of c.logs (disk_of c number) + k ≤ kept_of c.logs (disk_of c number) + ring_of c.sizes (disk_of c number))
      × (end_of c.logs (disk_of c number) + k ≤ limit)
  unfolding end_of
  own_room k h =
      let on = disk_sound_lem c (disk_of c number) ok open_below in
      (omega (arith, on.room, on.ordered, open_entry.on), omega (arith, on.limit, open_entry.on))

-- a disk that a begin may get has room
pub eligible_room : (c : Core) (class need disk : ℕ) → eligible c class need disk ≡ true → has_room c need disk ≡ true
unfolding eligible
eligible_room c class need disk e = (both (in_set (set_for c.classes class) disk) (has_room c need disk) e).1

-- Begin: a place is free, and the disk chosen serves the class and has room for two words; a choice looks at eight disks.
pub record Beginning (c : Core) (class : ℕ) : Type 0 where
  pub serving : when_serving c.stage ≡ true
  pub free : place_of c.table 0 < places
  pub chosen : c.sizes.disks ≤ 8 → Idlest (eligible c class 2) (load_of c.logs) c.sizes.disks (idlest c class 2)

pub begin_accepted : (c : Core) (w : World) (class : ℕ) → verdict (begin_rows c w class) ≡ accepted → Beginning c class
unfolding begin_rows table_full idlest
begin_accepted c w class ok =
    let r1 = row_passed _ _ ok in
    let r2 = row_passed _ _ r1.1 in
    let r5 = row_passed _ _ r2.1 in
    let r12 = row_passed _ _ r5.1 in
    let r13 = row_passed _ _ r12.1 in
    let r14 = row_passed _ _ r13.1 in
    record {
      serving = stage_row when_serving _ c r1.0;
      free = leb-false _ _ r12.0;
      chosen = λ eight. idlest_found (eligible c class 2) (load_of c.logs) c.sizes.disks eight (leb-false _ _ r14.0);
    }

-- Update: its transaction is open, its slot is there and not another's, its value as wide, and its disk has room for the
-- record and for one that takes it back.
pub record Updating (c : Core) (w : World) (number page slot : ℕ) (value : List ℕ) : Type 0 where
  pub serving : when_serving c.stage ≡ true
  pub page_lt : page < c.sizes.pages
  pub slot_lt : slot < slots_in c.sizes page
  pub opened : is_open c.table number ≡ true
  pub width : length value ≡ width_in c.sizes page
  pub unlocked : locked c w number page slot ≡ false
  pub room : Room c (disk_of c number) (2 * words_of update_kind (width_in c.sizes page))

pub update_accepted : (c : Core) (w : World) (number page slot : ℕ) (value : List ℕ)
    → verdict (update_rows c w number page slot value) ≡ accepted → Updating c w number page slot value
unfolding update_rows slot_missing not_open value_wrong
update_accepted c w number page slot value ok =
    let r1 = row_passed _ _ ok in
    let r2 = row_passed _ _ r1.1 in
    let r5 = row_passed _ _ r2.1 in
    let r8 = row_passed _ _ r5.1 in
    let r9 = row_passed _ _ r8.1 in
    let r10 = row_passed _ _ r9.1 in
    let r11 = row_passed _ _ r10.1 in
    let r14 = row_passed _ _ r11.1 in
    let there = or_none _ _ r8.0 in
    record {
      serving = stage_row when_serving _ c r1.0;
      page_lt = leb-false _ _ there.0;
      slot_lt = leb-false _ _ there.1;
      opened = not-false _ r9.0;
      width = eqb-true _ _ (not-false _ r10.0);
      unlocked = r11.0;
      room = room_found c _ (disk_of c number) (not-false _ r14.0);
    }

pub record Committing (c : Core) (number : ℕ) : Type 0 where
  pub serving : when_serving c.stage ≡ true
  pub opened : is_open c.table number ≡ true

pub commit_accepted : (c : Core) (w : World) (number : ℕ) → verdict (commit_rows c w number) ≡ accepted → Committing c number
unfolding commit_rows not_open
commit_accepted c w number ok =
    let r1 = row_passed _ _ ok in
    let r2 = row_passed _ _ r1.1 in
    let r5 = row_passed _ _ r2.1 in
    let r9 = row_passed _ _ r5.1 in
    record { serving = stage_row when_serving _ c r1.0; opened = not-false _ r9.0 }

-- Abort: what it takes back and its closing record have no more words than are reserved for them.
pub record Aborting (c : Core) (w : World) (number : ℕ) : Type 0 where
  pub serving : when_serving c.stage ≡ true
  pub opened : is_open c.table number ≡ true
  pub words : update_words (updates_left c w number) + 2 ≤ reserved_at c.table (place_of c.table number)

pub abort_accepted : (c : Core) (w : World) (number : ℕ) → sound c ≡ true → verdict (abort_rows c w number) ≡ accepted → Aborting c w number
unfolding abort_rows not_open
abort_accepted c w number s ok =
    let r1 = row_passed _ _ ok in
    let r2 = row_passed _ _ r1.1 in
    let r5 = row_passed _ _ r2.1 in
    let r7 = row_passed _ _ r5.1 in
    let r9 = row_passed _ _ r7.1 in
    let serving = stage_row when_serving _ c r1.0 in
    let opened = not-false _ r9.0 in
    let mine = open_entry c number (serving_sound_lem c serving s) opened in
    record {
      serving = serving;
      opened = opened;
      words = omega (arith, mine.sound.reserved, abort_words c w number r7.0);
    }
