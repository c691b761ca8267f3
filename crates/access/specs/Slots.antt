-- A slot by the words of the head: what a call has found of it.
use Rattle.std.specs.Prelude.{◌≡◌, cond, ℕ, Result, Ok}
use Rattle.model.specs.declared.Core.{Core}
use Rattle.model.specs.Sizes.{width_in}
use Rattle.model.specs.State.{slot_place}
use Rattle.model.specs.Causes.{slot_missing}
use Rattle.model.specs.Reads.{slot_fits}
use Rattle.frame.specs.Refusal.{row_in}
use Rattle.frame.specs.declared.refusal.Refusal.{Refusal}
use Rattle.access.specs.declared.slots.Slot.{Slot}

-- it lies where the state has it
pub record SlotOf (c : Core) (page slot : ℕ) (r : Slot) : Type 0 where
  pub place : r.at ≡ slot_place c page slot
  pub width : r.width ≡ width_in c.sizes page

-- The number of the row that refuses a slot, and where none does, the slot.
pub record Finds (c : Core) (page slot : ℕ) (r : Result Slot Refusal) : Type 0 where
  pub refusal : row_in r ≡ cond (slot_missing c.sizes page slot) 8 (cond (slot_fits page slot c) 0 1)
  pub ready : (s : Slot) → r ≡ Ok s → SlotOf c page slot s
