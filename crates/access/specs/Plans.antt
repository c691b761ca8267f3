-- An update: what its checks find.
use Rattle.std.specs.Prelude.{◌≡◌, List, Bool, true, cond, ℕ, ◌+◌, ◌≤◌, ◌<◌, ltb, eqb, length, Result, Ok}
use Rattle.model.specs.declared.Core.{Core}
use Rattle.model.specs.declared.Carried.{Carried}
use Rattle.model.specs.Sizes.{width_in}
use Rattle.model.specs.Anchor.{anchor_words}
use Rattle.model.specs.Record.{words_of, update_kind}
use Rattle.model.specs.World.{World}
use Rattle.model.specs.Memory.{owner_at, copy_of}
use Rattle.model.specs.State.{tail_of, fill_of, end_of, place_of, first_at, reserved_at, reserved_on, has_update, slot_place}
use Rattle.model.specs.Refusal.{verdict}
use Rattle.model.specs.Transaction.{disk_of, update_rows}
use Rattle.model.specs.View.{own_work, core_of, body_of}
use Rattle.disk_log.specs.Write.{Within}
use Rattle.frame.specs.Checks.{verdict_of}
use Rattle.frame.specs.Home.{home_of}
use Rattle.frame.specs.Refusal.{row_in}
use Rattle.frame.specs.declared.refusal.Refusal.{Refusal}
use Rattle.frame.specs.declared.entry.Entry.{Entry}
use Rattle.access.specs.declared.slots.Slot.{Slot}
use Rattle.access.specs.declared.plan.Plan.{Plan}

-- rows 1, 2 and 8 to 10 by the numbers that slot and transaction were found with, and by whether anchor and value have their lengths
unfoldable pub early_of : (slot entry : ℕ) → (anchor value : Bool) → ℕ
early_of slot entry anchor value =
    cond (eqb slot 1) 1 (cond (eqb entry 1) 1 (cond anchor (cond (eqb slot 0) (cond (eqb entry 0) (cond value 0 10) entry) slot) 2))

-- The row of them that refuses, and where none does, slot and transaction; the value then is as wide as the slot.
pub record Both (slot : Result Slot Refusal) (entry : Result Entry Refusal) (anchor value : ℕ) (r : Result (Slot × Entry) Refusal) : Type 0 where
  pub refusal : (width : ℕ) → ((s : Slot) → slot ≡ Ok s → s.width ≡ width)
      → row_in r ≡ early_of (row_in slot) (row_in entry) (eqb anchor anchor_words) (eqb value width)
  pub ready : (s : Slot) (e : Entry) → r ≡ Ok (s, e) → (slot ≡ Ok s) × (entry ≡ Ok e) × (value ≡ s.width)

-- the plan of a slot and a transaction that were found
abbrev pub plan_of : Slot → Entry → (owner copy first : ℕ) → Plan
plan_of found entry owner copy first =
    record {
      at = found.at;
      owner = owner;
      copy = copy;
      place = entry.place;
      first = cond (ltb 2 entry.reserved) first (entry.tail + entry.fill);
      reserved = entry.reserved + words_of update_kind found.width;
      disk = entry.disk;
      tail = entry.tail;
      fill = entry.fill;
      sum = entry.sum + words_of update_kind found.width;
    }

-- What an update that no row refuses goes on with: its numbers are those of a state, and lie within the slices of a world.
pub record Plans (c : Core) (w : World) (number page slot width : ℕ) (r : Plan) : Type 0 where
  pub at : r.at ≡ slot_place c page slot
  pub same_width : width ≡ width_in c.sizes page
  pub page_small : page < 64
  pub slot_small : slot < 128
  pub width_max : width ≤ 32
  pub end : r.at + width ≤ length w.pages
  pub owner : r.owner ≡ owner_at c.sizes r.at
  pub owner_within : r.owner < length w.work
  pub copy : r.copy ≡ copy_of c.sizes w.work page
  pub place : r.place ≡ place_of c.table number
  pub place_low : r.place < 16
  pub disk : r.disk ≡ disk_of c number
  pub disk_low : r.disk < 8
  pub tail : r.tail ≡ tail_of c.logs r.disk
  pub fill : r.fill ≡ fill_of c.logs r.disk
  pub first : r.first ≡ cond (has_update c.table r.place) (first_at c.table r.place) (end_of c.logs r.disk)
  pub reserved : r.reserved ≡ reserved_at c.table r.place + words_of update_kind width
  pub sum : r.sum ≡ reserved_on c.table r.disk + words_of update_kind width
  pub home : Within (home_of c.sizes c.logs r.disk) w.logs w.work

-- What is known of an update that no row refuses, beside its plan.
pub record Taken (h : Carried) (w : World) (number page slot width : ℕ) (r : Plan) : Type 0 where
  pub own : own_work h w.work ≡ true
  pub ring_max : h.ring ≤ 65536
  pub plans : Plans (core_of h w.work) (body_of w) number page slot width r

-- The row that refuses an update of a value of so many words, and where none does, its plan.
pub record Planned (h : Carried) (w : World) (number page slot width : ℕ) (r : Result Plan Refusal) : Type 0 where
  pub rows : (value : List ℕ) → length value ≡ width
      → verdict (update_rows (core_of h w.work) (body_of w) number page slot value) ≡ verdict_of (row_in r)
  pub ready : (p : Plan) → r ≡ Ok p → Taken h w number page slot width p
