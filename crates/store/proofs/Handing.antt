-- A call's answer and state, handed back by the store.
use mathlib.Core.Path.{◌≡◌, ap, ◌∙◌}
use mathlib.Core.Bool.{true}
use mathlib.Core.List.{List, []}
use Prim.Native.Nat.{ℕ}
use Rattle.model.specs.declared.Answer.{Answer}
use Rattle.model.specs.declared.Carried.{Carried}
use Rattle.model.specs.declared.Handed.{Handed}
use Rattle.model.specs.World.{World, world_of}
use Rattle.model.specs.State.{sound}
use Rattle.model.specs.Refusal.{Result}
use Rattle.model.specs.Call.{Call, Gives}
use Rattle.model.specs.View.{core_of, body_of, Serves}
use Rattle.model.proofs.Sound.Test.{Sized}
use Rattle.model.proofs.Sound.Calls.{sound_kept}
use Rattle.model.proofs.View.Head.{view_sized}
use Rattle.model.proofs.View.Served.{served_gives}
use Rattle.head.proofs.Laying.{length_here}
use Rattle.store.specs.Handed.{Arrays}

sized_view : (h : Carried) (work : List ℕ) → Arrays h → Sized (core_of h work)
unfolding core_of
sized_view h work a =
    let long = length_here (core_of h work) (view_sized h work) in
    record {
      logs = record { starts = a.0; tails = a.1; fills = long 3 };
      table = record { numbers = long 7; disks = long 8; firsts = long 9; reserved = long 10; sums = long 4 };
      ends = a.2;
      positions = long 5;
    }

-- A call that keeps `Serves` hands back a state that passes the whole test, if the state did that came in.
pub sound_served : (k : Call) (h : Carried) (w : World) (handed : Handed) (left : ℕ) (exit : World) → Arrays h
    → Serves k h w handed left exit → sound (core_of h w.work) ≡ true → sound (core_of handed.carried exit.work) ≡ true
unfolding Gives
sound_served k h w handed left exit a serves ok =
    ap (λ (r : Result). sound r.core) (served_gives k h w handed left exit serves)
    ∙ sound_kept k (core_of h w.work) (body_of w) (sized_view h w.work a) ok

-- What a call hands back, handed on.
pub handed_on : (k : Call) (h : Carried) (w exit : World) (left : ℕ) (handed : Handed) {carried next : Carried} {answer : Answer}
    → (carried ≡ h) × Arrays h → Serves k carried w handed left exit → (answer ≡ handed.answer) × (next ≡ handed.carried)
    → (Serves k h w (record { answer = answer; carried = next }) left exit)
    × (sound (core_of h w.work) ≡ true → sound (core_of next exit.work) ≡ true)
handed_on k h w exit left handed in_state serves back =
    let mine = rw in_state.0 at serves in
    (rw (back.0, back.1) mine, rw back.1 (sound_served k h w handed left exit in_state.1 mine))

-- The same of a call that is lent no slice but the work memory, and changes no word of it: whatever the others hold.
pub handed_over : (k : Call) (h : Carried) (work : List ℕ) (handed : Handed) {carried next : Carried} {answer : Answer}
    → (carried ≡ h) × Arrays h
    → ((anchor pages backups logs : List ℕ) → Serves k carried (world_of anchor pages backups logs work) handed 0 (world_of anchor pages backups logs work))
    → (answer ≡ handed.answer) × (next ≡ handed.carried)
    → ((anchor pages backups logs : List ℕ)
    → Serves k h (world_of anchor pages backups logs work) (record { answer = answer; carried = next }) 0 (world_of anchor pages backups logs work))
    × (sound (core_of h work) ≡ true → sound (core_of next work) ≡ true)
handed_over k h work handed in_state serves back = (
  λ anchor pages backups logs. (handed_on k h _ _ 0 handed in_state (serves anchor pages backups logs) back).0,
  (handed_on k h _ _ 0 handed in_state (serves [] [] [] []) back).1,
)
