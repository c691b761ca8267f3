-- A place of the table set, and the words reserved on one disk: the arrays stay as long, that place and that disk have what was set,
-- the others what they had.
use mathlib.Core.Path.{◌≡◌}
use Prim.Native.Nat.{ℕ, ◌<◌}
use lib.ListN.{length, length-set}
use lib.Seq.{get_or-set_same, get_or-set_other}
use Rattle.model.specs.declared.Table.{Table}
use Rattle.model.specs.State.{places, number_at, disk_at_place, first_at, reserved_at, reserved_on, with_place, with_reserved}

pub record SizedTable (t : Table) : Type 0 where
  pub numbers : length t.numbers ≡ places
  pub disks : length t.disks ≡ places
  pub firsts : length t.firsts ≡ places
  pub reserved : length t.reserved ≡ places
  pub sums : length t.sums ≡ 8

-- Place p holds n, with its disk, first position and reserved words; m words are reserved on disk e.
abbrev pub entered : Table → (p n d f r e m : ℕ) → Table
entered t p n d f r e m = with_reserved (with_place t p n d f r) e m

module _ (t : Table) (ok : SizedTable t) (p n d f r e m : ℕ) (h : p < places) where
  pub sized_put : SizedTable (entered t p n d f r e m)
  unfolding with_place with_reserved
  sized_put =
      record {
        numbers = simp length-set ok.numbers;
        disks = simp length-set ok.disks;
        firsts = simp length-set ok.firsts;
        reserved = simp length-set ok.reserved;
        sums = simp length-set ok.sums;
      }

  pub put_number : number_at (entered t p n d f r e m) p ≡ n
  unfolding number_at with_place with_reserved
  put_number = get_or-set_same t.numbers p n 0 (rw ok.numbers h)

  pub put_disk : disk_at_place (entered t p n d f r e m) p ≡ d
  unfolding disk_at_place with_place with_reserved
  put_disk = get_or-set_same t.disks p d 0 (rw ok.disks h)

  pub put_first : first_at (entered t p n d f r e m) p ≡ f
  unfolding first_at with_place with_reserved
  put_first = get_or-set_same t.firsts p f 0 (rw ok.firsts h)

  pub put_reserved : reserved_at (entered t p n d f r e m) p ≡ r
  unfolding reserved_at with_place with_reserved
  put_reserved = get_or-set_same t.reserved p r 0 (rw ok.reserved h)

pub put_sum : (t : Table) (p n d f r e m : ℕ) → SizedTable t → e < 8 → reserved_on (entered t p n d f r e m) e ≡ m
unfolding reserved_on with_place with_reserved
put_sum t p n d f r e m ok h = get_or-set_same t.sums e m 0 (rw ok.sums h)

pub other_sum : (t : Table) (p n d f r e m disk : ℕ) → (disk ≡ e → ⊥) → reserved_on (entered t p n d f r e m) disk ≡ reserved_on t disk
unfolding reserved_on with_place with_reserved
other_sum t p n d f r e m disk ne = get_or-set_other t.sums e disk m 0 ne

-- The other places stay as they are.
pub record SameAt (t u : Table) (i : ℕ) : Type 0 where
  pub number : number_at u i ≡ number_at t i
  pub disk : disk_at_place u i ≡ disk_at_place t i
  pub first : first_at u i ≡ first_at t i
  pub reserved : reserved_at u i ≡ reserved_at t i

pub other_same : (t : Table) (p n d f r e m i : ℕ) → (i ≡ p → ⊥) → SameAt t (entered t p n d f r e m) i
unfolding number_at disk_at_place first_at reserved_at with_place with_reserved
other_same t p n d f r e m i ne =
    record {
      number = get_or-set_other t.numbers p i n 0 ne;
      disk = get_or-set_other t.disks p i d 0 ne;
      first = get_or-set_other t.firsts p i f 0 ne;
      reserved = get_or-set_other t.reserved p i r 0 ne;
    }
