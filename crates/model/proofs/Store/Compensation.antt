-- The record that takes an update back: what it takes to put it, and that it fits.
use mathlib.Core.Path.{◌≡◌, refl}
use mathlib.Core.Bool.{true, false}
use Prim.Native.Nat.{ℕ, ◌+◌, ◌≤◌, ◌<◌}
use native.Mathlib.Omega.{arith}
use lib.ListN.{length}
use Rattle.model.specs.declared.Sizes.{Sizes}
use Rattle.model.specs.declared.Core.{Core}
use Rattle.model.specs.Sizes.{slots_in, width_in, slot_base, ring_of}
use Rattle.model.specs.Record.{encode, compensation_kind}
use Rattle.model.specs.Scan.{Update}
use Rattle.model.specs.World.{World}
use Rattle.model.specs.Memory.{copy_of}
use Rattle.model.specs.State.{limit, kept_of, end_of, is_open, place_of, has_update}
use Rattle.model.specs.Transaction.{disk_of}
use Rattle.model.specs.History.{compensation}
use Rattle.model.proofs.Ledger.Entry.{Entry, record_of, is_close}
use Rattle.model.proofs.Ledger.Order.{size_of}
use Rattle.model.proofs.Link.Words.{Fit}
use Rattle.model.proofs.Store.Put.{MayPut}
use Rattle.model.proofs.Growth.{Small}
use Rattle.model.proofs.Bounds.{Bounded}

-- An update as an abort reads it names a slot and has its width.
pub record Slotted (s : Sizes) (u : Update) : Type 0 where
  pub page_in : u.page < s.pages
  pub slot_in : u.slot < slots_in s u.page
  pub width : length u.diff ≡ width_in s u.page

-- What it takes to put the compensation of update u of transaction t: the transaction is open, its disk has room.
pub record MayCompensate (c : Core) (t : ℕ) (u : Update) : Type 0 where
  pub opened : is_open c.table t ≡ true
  pub has : has_update c.table (place_of c.table t) ≡ true
  pub below : disk_of c t < c.sizes.disks
  pub small : Small c.sizes c.logs
  pub slotted : Slotted c.sizes u
  pub room : end_of c.logs (disk_of c t) + (3 + length u.diff) ≤ kept_of c.logs (disk_of c t) + ring_of c.sizes (disk_of c t)
  pub in_limit : end_of c.logs (disk_of c t) + (3 + length u.diff) ≤ limit

-- the entry of its record, at the end of its transaction's disk
abbrev pub compensation_entry : Core → World → ℕ → Update → Entry
compensation_entry c w t u =
    record {
      disk = disk_of c t;
      position = end_of c.logs (disk_of c t);
      kind = compensation_kind;
      page = u.page;
      slot = u.slot;
      number = t;
      copy = copy_of c.sizes w.work u.page;
      at = slot_base c.sizes u.page u.slot;
      diff = u.diff;
    }

module _ (c : Core) (w : World) (t : ℕ) (u : Update) where
  pub compensation_changes : is_close (compensation_entry c w t u) ≡ false
  unfolding is_close
  compensation_changes = refl

  pub compensation_size : size_of (compensation_entry c w t u) ≡ 3 + length u.diff
  unfolding size_of record_of is_close encode
  compensation_size = omega arith

  pub compensation_record : compensation c w t u ≡ record_of (compensation_entry c w t u)
  unfolding compensation record_of is_close
  compensation_record = refl

  module _ (ok : MayCompensate c t u) (bounds : Bounded c.sizes) (some : 1 ≤ t) where
    compensation_fit : Fit c.sizes (compensation_entry c w t u)
    unfolding record_of is_close
    compensation_fit =
        let there = ok.slotted in
        record {
          formed =
              record {
                kind_lt = omega arith;
                page_in = there.page_in;
                page_lt = omega (arith, there.page_in, bounds.pages_max);
                slot_in = there.slot_in;
                slot_lt = omega (arith, there.slot_in, (bounds.used u.page there.page_in).slots_max);
                number_pos = some;
                width_eq = there.width;
              };
          slotted = λ h. refl;
        }

    pub may_compensate : MayPut c (compensation_entry c w t u)
    may_compensate =
        record {
          opened = ok.opened;
          there = refl;
          below = ok.below;
          small = ok.small;
          short = omega (arith, compensation_size, ok.slotted.width, (bounds.used u.page ok.slotted.page_in).width_max);
          at_end = refl;
          in_ring = rw compensation_size ok.room;
          in_limit = rw compensation_size ok.in_limit;
          fit = compensation_fit;
        }
