-- A read: what its checks find.
use Rattle.std.specs.Prelude.{◌≡◌, true, ℕ, ◌+◌, ◌≤◌, length, Result, Ok}
use Rattle.model.specs.declared.Carried.{Carried}
use Rattle.model.specs.World.{World}
use Rattle.model.specs.Refusal.{verdict}
use Rattle.model.specs.Transaction.{read_rows}
use Rattle.model.specs.View.{own_work, core_of, body_of}
use Rattle.frame.specs.Checks.{verdict_of}
use Rattle.frame.specs.Refusal.{row_in}
use Rattle.frame.specs.declared.refusal.Refusal.{Refusal}
use Rattle.access.specs.declared.slots.Slot.{Slot}
use Rattle.access.specs.Slots.{SlotOf}

-- What a read that no row refuses goes on with: a slot of the state, which lies within the page memory.
pub record Reads (h : Carried) (w : World) (page slot : ℕ) (r : Slot) : Type 0 where
  pub slot_of : SlotOf (core_of h w.work) page slot r
  pub within : r.at + r.width ≤ length w.pages
  pub own : own_work h w.work ≡ true

-- The row that refuses a read, and where none does, the slot.
pub record Readable (h : Carried) (w : World) (reader page slot : ℕ) (r : Result Slot Refusal) : Type 0 where
  pub rows : verdict (read_rows (core_of h w.work) (body_of w) reader page slot) ≡ verdict_of (row_in r)
  pub ready : (s : Slot) → r ≡ Ok s → Reads h w page slot s
