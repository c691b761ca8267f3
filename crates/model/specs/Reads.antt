-- What a call tests of a state that no call made. Each tests what it reads, so that every index and sum is safe; a state that a call
-- handed back passes (reads_pass in proofs/Tested.antt). The calls that read the whole state test all of it: `sound`. A format, a
-- restart begin and a listing read no state but its stage, and test none.
use Rattle.std.specs.Prelude.{ℕ, ◌+◌, ◌-◌, Bool, not, ◌&&◌, ◌||◌, leb, ltb, eqb}
use Rattle.model.specs.declared.Core.{Core}
use Rattle.model.specs.Sizes.{page_words, total, ring_of, used_entry, counts_in_bounds, sizes_in_bounds}
use Rattle.model.specs.State.{limit, fill_of, end_of, place_of, is_open, disk_at_place, first_at, reserved_at, has_update, reserved_on, base_of}
use Rattle.model.specs.World.{World}
use Rattle.model.specs.Causes.{lengths_wrong, slot_missing}

-- P, D, W and T are within their bounds
unfoldable pub counts_fit : Core → Bool
counts_fit c = counts_in_bounds c.sizes && leb c.bases.total 8192

-- a slot that there is lies in a page within bounds, and this within T
unfoldable pub slot_fits : (page slot : ℕ) → Core → Bool
slot_fits page slot c =
    slot_missing c.sizes page slot
    || used_entry c.sizes page && leb (base_of c page + page_words c.sizes page) c.bases.total

-- an open transaction has a disk, with room for what is reserved on it, of which its own words are a part
unfoldable pub place_fits : (place : ℕ) → Core → Bool
place_fits place c =
    ltb disk c.sizes.disks && leb (fill_of c.logs disk) 64
    && leb 2 (reserved_at c.table place) && leb (reserved_at c.table place) (reserved_on c.table disk)
    && leb (end_of c.logs disk + reserved_on c.table disk) limit
  where
    disk : ℕ
    disk = disk_at_place c.table place

unfoldable pub home_fits : (number : ℕ) → Core → Bool
home_fits number c = not (is_open c.table number) || place_fits (place_of c.table number) c

-- the log from a transaction's first position on, and the words reserved for it, are no longer than the ring
unfoldable pub scope_fits : (place : ℕ) → Core → Bool
scope_fits place c =
    not (has_update c.table place)
    || leb (end_of c.logs disk - first_at c.table place + reserved_at c.table place) (ring_of c.sizes disk)
  where
    disk : ℕ
    disk = disk_at_place c.table place

-- every page is within its bounds, and T is their words: a record in a log may name any of them
unfoldable pub sizes_fit : Core → Bool
sizes_fit c = sizes_in_bounds c.sizes && eqb c.bases.total (total c.sizes)

-- an abort reads its transaction's log
unfoldable pub abort_fits : (number : ℕ) → Core → Bool
abort_fits number c =
    not (is_open c.table number)
    || place_fits (place_of c.table number) c && scope_fits (place_of c.table number) c && sizes_fit c

-- A call that reads a state tests P, D, W and T (a begin and a table of classes no more than these); and where the lent slices have the lengths that these
-- give, what it reads: else it is refused for a length.
unfoldable pub fits_on : (test : Bool) → Core → World → Bool
fits_on test c w = counts_fit c && (lengths_wrong c.sizes c.bases.total w || test)

unfoldable pub update_fits : (number page slot : ℕ) → Core → Bool
update_fits number page slot c = slot_fits page slot c && home_fits number c
