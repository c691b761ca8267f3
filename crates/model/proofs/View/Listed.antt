-- A listing as a call of the code: it reads the anchor, the log disks and the stage, whatever else is lent, and leaves every word.
use mathlib.Core.Path.{◌≡◌, refl}
use mathlib.Core.Bool.{Bool, true}
use Prim.Native.Nat.{ℕ}
use borrow.Author.Tests.{not-false}
use Rattle.model.specs.declared.Carried.{Carried}
use Rattle.model.specs.declared.Answer.{Answer}
use Rattle.model.specs.declared.Answer.TheVariants.{Finished}
use Rattle.model.specs.World.{World, run, covered, perform, made, stores, finishes}
use Rattle.model.specs.Refusal.{Verdict, accepted, rejected, verdict, answer_by}
use Rattle.model.specs.Causes.{when_shut}
use Rattle.model.specs.Listing.{list_rows}
use Rattle.model.specs.Call.{Look, look, look_rows, look_value, look_task, result_of}
use Rattle.model.specs.View.{core_of, body_of, given, Serves}
use Rattle.model.proofs.Booleans.{both}
use Rattle.model.proofs.Verdict.{row_passed}
use Rattle.model.proofs.View.Head.{carried_back}
use Rattle.model.proofs.View.Seen.{whole_again}
use Rattle.model.proofs.View.Shown.{refusal_serves}

-- a look of a shut store that is taken
shut_look : (q : Look) (h : Carried) (w : World) → when_shut h.stage ≡ true → verdict (look_rows q (core_of h w.work) (body_of w)) ≡ accepted
    → Serves (look q) h w (record { answer = Finished 0 (look_value q (body_of w)); carried = h }) 0 w
unfolding Serves given result_of look_task finishes stores made run covered perform core_of
shut_look q h w shut e = rw (e, shut, carried_back h w.work, whole_again w) refl

-- What code has to show of a listing: its answer is its verdict's.
pub list_serves : (q : Look) (h : Carried) (w : World) (wrong : Bool) (number : ℕ) (answer : Answer)
    → look_rows q (core_of h w.work) (body_of w) ≡ list_rows h.stage wrong w.anchor w.logs number
    → answer ≡ answer_by (verdict (list_rows h.stage wrong w.anchor w.logs number)) (look_value q (body_of w))
    → Serves (look q) h w (record { answer = answer; carried = h }) 0 w
unfolding list_rows
list_serves q h w wrong number answer rows is = go (verdict (list_rows h.stage wrong w.anchor w.logs number)) refl
  where
    go : (v : Verdict) → verdict (list_rows h.stage wrong w.anchor w.logs number) ≡ v
        → Serves (look q) h w (record { answer = answer; carried = h }) 0 w
    go accepted e =
        rw (is, e)
        (shut_look q h w (both (when_shut h.stage) true (not-false _ (row_passed _ _ e).0)).0 (rw rows e))
    go (rejected n first second) e = rw (is, e) (refusal_serves (look q) h w n first second (rw rows e))
