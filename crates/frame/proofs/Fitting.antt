-- What the calls test of a state by its numbers: that its numbers pass is model's test of it, and what a state that passes has.
use mathlib.Core.Path.{◌≡◌, refl}
use mathlib.Core.Bool.{true, false, ◌&&◌}
use Prim.Native.Nat.{ℕ, ◌+◌, ◌*◌, ◌≤◌, ◌<◌}
use native.Mathlib.Omega.{arith}
use native.Mathlib.Nat.{mul-le-mul_right}
use lib.Dec.{leb, ltb}
use borrow.Author.Tests.{leb-true, leb-false, ltb-true}
use Rattle.model.specs.declared.Core.{Core}
use Rattle.model.specs.Below.{within}
use Rattle.model.specs.Sizes.{slots_in, width_in, page_words, used_entry, counts_in_bounds}
use Rattle.model.specs.State.{limit, tail_of, fill_of, end_of, place_of, is_open, disk_at_place, reserved_at, reserved_on, base_of, slot_place}
use Rattle.model.specs.Causes.{slot_missing}
use Rattle.model.specs.Reads.{counts_fit, slot_fits, place_fits, home_fits}
use Rattle.model.proofs.Booleans.{both, all_four, or_none, in_range}
use Rattle.frame.specs.Fits.{counts_within, page_within, place_within}

-- P, D, W and T.
pub record Counted (pages disks ring t : ℕ) : Type 0 where
  pub pages_max : pages ≤ 64
  pub disks_max : disks ≤ 8
  pub ring_min : 128 ≤ ring
  pub ring_max : ring ≤ 65536
  pub total_max : t ≤ 8192

pub counted : {pages disks ring t : ℕ} → counts_within pages disks ring t ≡ true → Counted pages disks ring t
unfolding counts_within counts_in_bounds
counted {pages} {disks} {ring} {t} e =
    let four = all_four (within 1 64 pages) (within 1 8 disks) (within 128 65536 ring) (leb t 8192) e in
    record {
      pages_max = (in_range 1 64 pages four.0).1;
      disks_max = (in_range 1 8 disks four.1).1;
      ring_min = (in_range 128 65536 ring four.2).0;
      ring_max = (in_range 128 65536 ring four.2).1;
      total_max = leb-true t 8192 four.3;
    }

-- A transaction's disk and its reserved words.
pub record Placed (disks disk tail fill reserved sum : ℕ) : Type 0 where
  pub below : disk < disks
  pub fill_small : fill ≤ 64
  pub own_min : 2 ≤ reserved
  pub own_part : reserved ≤ sum
  pub end_small : tail + fill + sum ≤ limit

pub placed : {disks disk tail fill reserved sum : ℕ} → place_within disks disk tail fill reserved sum ≡ true → Placed disks disk tail fill reserved sum
unfolding place_within
placed {disks} {disk} {tail} {fill} {reserved} {sum} e =
    let t = both (ltb disk disks && leb fill 64 && leb 2 reserved && leb reserved sum) (leb (tail + fill + sum) limit) e in
    let four = all_four (ltb disk disks) (leb fill 64) (leb 2 reserved) (leb reserved sum) t.0 in
    record {
      below = ltb-true disk disks four.0;
      fill_small = leb-true fill 64 four.1;
      own_min = leb-true 2 reserved four.2;
      own_part = leb-true reserved sum four.3;
      end_small = leb-true (tail + fill + sum) limit t.1;
    }

module _ (c : Core) where
  pub counts_here : counts_within c.sizes.pages c.sizes.disks c.sizes.ring c.bases.total ≡ counts_fit c
  unfolding counts_within counts_fit counts_in_bounds
  counts_here = refl

  pub counts_have : counts_fit c ≡ true → Counted c.sizes.pages c.sizes.disks c.sizes.ring c.bases.total
  counts_have e = counted (rw counts_here e)

  -- the place of a transaction
  module _ (place : ℕ) where
    abbrev disk : ℕ
    disk = disk_at_place c.table place

    pub place_here : place_within c.sizes.disks disk (tail_of c.logs disk) (fill_of c.logs disk) (reserved_at c.table place) (reserved_on c.table disk)
        ≡ place_fits place c
    unfolding place_within place_fits end_of
    place_here = refl

    pub place_has : place_fits place c ≡ true
        → Placed c.sizes.disks disk (tail_of c.logs disk) (fill_of c.logs disk) (reserved_at c.table place) (reserved_on c.table disk)
    place_has e = placed (rw place_here e)

  -- a transaction that is open, and one that is not
  module _ (number : ℕ) where
    pub home_here : is_open c.table number ≡ true → place_fits (place_of c.table number) c ≡ home_fits number c
    unfolding home_fits
    home_here found = rw found refl

    pub home_none : is_open c.table number ≡ false → true ≡ home_fits number c
    unfolding home_fits
    home_none shut = rw shut refl

-- A slot that is there.
pub record Slotted (c : Core) (page slot : ℕ) : Type 0 where
  pub page_below : page < c.sizes.pages
  pub slot_below : slot < slots_in c.sizes page
  pub slots_max : slots_in c.sizes page ≤ 128
  pub width_min : 1 ≤ width_in c.sizes page
  pub width_max : width_in c.sizes page ≤ 32
  pub end_within_lem : slot_place c page slot + width_in c.sizes page ≤ c.bases.total

module _ (c : Core) (page slot : ℕ) where
  pub slot_none : slot_missing c.sizes page slot ≡ true → true ≡ slot_fits page slot c
  unfolding slot_fits
  slot_none missing = rw missing refl

  module _ (there : slot_missing c.sizes page slot ≡ false) where
    pub slot_here : page_within (slots_in c.sizes page) (width_in c.sizes page) (base_of c page) c.bases.total ≡ slot_fits page slot c
    unfolding page_within slot_fits used_entry page_words
    slot_here = rw there refl

    pub slot_has : slot_fits page slot c ≡ true → Slotted c page slot
    unfolding slot_missing page_within slot_place
    slot_has e =
        let slots : ℕ = slots_in c.sizes page in
        let width : ℕ = width_in c.sizes page in
        let none = or_none (leb c.sizes.pages page) (leb slots slot) there in
        let below : slot < slots = leb-false slots slot none.1 in
        let four = all_four (within 1 128 slots) (within 1 32 width) (leb (slots * width) 128) (leb (base_of c page + slots * width) c.bases.total) (rw slot_here e) in
        let end = leb-true (base_of c page + slots * width) c.bases.total four.3 in
        record {
          page_below = leb-false c.sizes.pages page none.0;
          slot_below = below;
          slots_max = (in_range 1 128 slots four.0).1;
          width_min = (in_range 1 32 width four.1).0;
          width_max = (in_range 1 32 width four.1).1;
          end_within_lem = omega (arith, end, mul-le-mul_right {m = slot + 1} {n = slots} width (omega (arith, below)));
        }
