-- Update: the plan that the code makes.
use mathlib.Core.Path.{◌≡◌, subst}
use mathlib.Core.List.{List}
use mathlib.Core.Bool.{cond, not, ◌&&◌}
use Prim.Native.Nat.{ℕ, ◌+◌, ◌*◌}
use lib.Dec.{eqb}
use lib.ListN.{length, get_or, drop}
use Rattle.std.specs.Prelude.{Result, Ok, Err}
use Rattle.model.specs.declared.Carried.{Carried}
use Rattle.model.specs.Record.{words_of, update_kind}
use Rattle.model.specs.World.{World}
use Rattle.model.specs.Memory.{buffer_at, owner_of}
use Rattle.model.specs.State.{in_table}
use Rattle.model.specs.Refusal.{verdict}
use Rattle.model.specs.Transaction.{update_rows}
use Rattle.model.specs.View.{head_firsts, head_words, core_of, body_of}
use Rattle.table.specs.Parts.{room_for}
use Rattle.frame.specs.declared.refusal.Refusal.{Refusal}
use Rattle.frame.specs.Refusal.{number_of}
use Rattle.frame.specs.declared.entry.Entry.{Entry}
use Rattle.frame.specs.Checks.{verdict_of}
use Rattle.frame.specs.Entry.{Entered}
use Rattle.frame.proofs.Refusals.{ok_same}
use Rattle.access.specs.declared.slots.Slot.{Slot}
use Rattle.access.specs.declared.plan.Plan.{Plan}
use Rattle.access.specs.Slots.{Finds}
use Rattle.access.specs.Plans.{Both, plan_of, Taken, Planned}
use Rattle.access.proofs.FirstRows.{first_row, ready, own}
use Rattle.access.proofs.PlanRows.{update_late}
use Rattle.access.proofs.PlanReady.{plan_ready}

-- a row refuses the update
pub planned_refused : {h : Carried} {w : World} {number page slot width : ℕ} (refusal : Refusal)
    → ((value : List ℕ) → length value ≡ width → verdict (update_rows (core_of h w.work) (body_of w) number page slot value) ≡ verdict_of (number_of refusal))
    → Planned h w number page slot width (Err refusal)
planned_refused refusal rows = record { rows = rows; ready = λ p is. cc }

-- No row refuses it.
module _ (h : Carried) (w : World) (number page slot : ℕ) (passed : 0 ≡ first_row h w) {f : Result Slot Refusal}
    (finds : Finds (core_of h w.work) page slot f) {e : Result Entry Refusal} (entered : Entered (core_of h w.work) number e) {width : ℕ}
    {r : Result (Slot × Entry) Refusal} (first : Both f e (length w.anchor) width r) {s : Slot} {t : Entry} (there : r ≡ Ok (s, t))
    {start : ℕ} (starts : start ≡ get_or h.starts t.disk 0)
    (taken : ◌≡◌ {A = ℕ} 0 (cond (in_table (core_of h w.work).table (owner_of (core_of h w.work).sizes (drop head_words w.work) s.at) && not (eqb (owner_of (core_of h w.work).sizes (drop head_words w.work) s.at) number)) 11
    (cond (room_for start (t.tail + t.fill) t.sum h.ring (2 * words_of update_kind s.width)) 0 14)))
  where
    pub planned_made : Planned h w number page slot width
        (Ok (plan_of s t (buffer_at h.disks + 64 + s.at) (get_or w.work (head_words + (buffer_at h.disks + page)) 0) (get_or w.work (head_firsts + t.place) 0)))
    planned_made =
        let both = first.ready s t there in
        let known = ready h w passed in
        let mine = own h w passed in
        record {
          rows = λ value long. update_late h w number page slot value passed finds entered long first there starts taken;
          ready =
              λ p is.
              subst (λ (p : Plan). Taken h w number page slot width p) (ok_same is)
              (record {
                own = mine;
                ring_max = known.counts.ring_max;
                plans = plan_ready h w mine known (entered.ready t both.1) finds both.0 both.2;
              });
        }
