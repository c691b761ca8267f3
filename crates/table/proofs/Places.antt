-- The words that the places of the table reserve.
use mathlib.Core.Path.{◌≡◌, refl}
use mathlib.Core.Bool.{cond, not, ◌&&◌}
use mathlib.Core.List.{List}
use Prim.Native.Nat.{ℕ, ◌+◌, min}
use native.Mathlib.Omega.{arith}
use lib.Dec.{eqb}
use lib.ListN.{get_or}
use Rattle.model.specs.declared.Table.{Table}
use Rattle.model.specs.Below.{sum_below}
use Rattle.model.specs.State.{number_at, disk_at_place, reserved_at, served_by, reserved_for}
use Rattle.model.proofs.Below.{sum_step}
use Rattle.model.proofs.Reserved.{reserved_by}
use Rattle.table.specs.Parts.{table_of}

-- The words reserved on a disk, place by place; the first positions do not count.
module _ (ns ds rs : List ℕ) (disk : ℕ) where
  pub reserved_here : (i : ℕ)
      → reserved_by (table_of ns ds rs) disk i ≡ cond (not (eqb (get_or ns i 0) 0) && eqb (get_or ds i 0) disk) (get_or rs i 0) 0
  unfolding reserved_by served_by number_at disk_at_place reserved_at
  reserved_here i = refl

  pub reserved_more : (m i s w r : ℕ) → s ≡ min m (sum_below (reserved_by (table_of ns ds rs) disk) i)
      → w ≡ cond (not (eqb (get_or ns i 0) 0) && eqb (get_or ds i 0) disk) (get_or rs i 0) 0 → r ≡ min m (s + w)
      → r ≡ min m (sum_below (reserved_by (table_of ns ds rs) disk) (i + 1))
  reserved_more m i s w r p q h = omega (arith, sum_step (reserved_by (table_of ns ds rs) disk) i, reserved_here i)

  pub reserved_all : sum_below (reserved_by (table_of ns ds rs) disk) 16 ≡ reserved_for (table_of ns ds rs) disk
  unfolding reserved_by reserved_for
  reserved_all = refl

pub reserved_parts : (t : Table) (disk : ℕ) → reserved_for (table_of t.numbers t.disks t.reserved) disk ≡ reserved_for t disk
unfolding reserved_for served_by number_at disk_at_place reserved_at
reserved_parts t disk = refl
