-- After a finished format and any events the state passes the first test, so whatever is open can be closed: the words that a
-- commit or an abort writes fit the ring and the bound of positions.
use mathlib.Core.Path.{◌≡◌}
use mathlib.Core.List.{List, [], ◌∷◌}
use mathlib.Core.Bool.{true}
use Prim.Native.Nat.{ℕ, ◌+◌, ◌≤◌}
use native.Mathlib.Omega.{arith}
use Rattle.model.specs.declared.Sizes.{Sizes}
use Rattle.model.specs.declared.Logs.{Logs}
use Rattle.model.specs.declared.Core.{Core}
use Rattle.model.specs.Scan.{update_words}
use Rattle.model.specs.World.{World}
use Rattle.model.specs.State.{end_of, place_of, is_open, reserved_at, sound}
use Rattle.model.specs.Refusal.{accepted, verdict}
use Rattle.model.specs.Causes.{when_serving}
use Rattle.model.specs.Transaction.{disk_of, commit_rows, commit_task}
use Rattle.model.specs.Abort.{updates_left, abort_rows, abort_task}
use Rattle.model.specs.Reference.{taken}
use Rattle.model.specs.Call.{format}
use Rattle.model.specs.Machine.{Machine, Event, call, lent, scramble, result, outcome, after, Run, follow, formatted}
use Rattle.model.proofs.Restart.Taken.{taken_call}
use Rattle.model.proofs.Store.Rows.{serving_sound_lem, disk_sound_lem}
use Rattle.model.proofs.Sound.Test.{Sized, Passing}
use Rattle.model.proofs.Sound.Transaction.{commit_grown}
use Rattle.model.proofs.Sound.Abort.{abort_grown}
use Rattle.model.proofs.Sound.Restart.{format_passes}
use Rattle.model.specs.Promise.{Always}
use Rattle.model.specs.LogPromise.{Closable, ClosingFits}
use Rattle.model.proofs.Sound.Calls.{sized_kept, sound_kept}
use Rattle.model.proofs.Store.Accepted.{open_entry, commit_accepted, abort_accepted}

-- an event, allowed or not
pub event_passes : (m : Machine) (e : Event) → Passing m.core → Passing (after m e).core
unfolding result
event_passes m (call k) p = (sized_kept k m.core m.world p.0 p.1, sound_kept k m.core m.world p.0 p.1)
event_passes m (lent k w) p = p
event_passes m (scramble pages work) p = p

pub follow_passes : (es : List Event) (x : Run) → Passing x.machine.core → Passing (follow es x).machine.core
unfolding follow
follow_passes [] x p = p
follow_passes (e ∷ es) x p = follow_passes es _ (event_passes x.machine e p)

-- a finished format makes such a state of any
pub formatted_passes : (m : Machine) (s : Sizes) (budget : ℕ) → outcome m (format s budget) ≡ taken
    → Passing (formatted m s budget).machine.core
unfolding outcome result formatted
formatted_passes m s budget e =
    let t = taken_call (format s budget) m.core m.world e in
    rw t.core (format_passes m.core m.world s t.accepted)

pub sound_after : (m : Machine) (s : Sizes) (budget : ℕ) → outcome m (format s budget) ≡ taken → (es : List Event)
    → Passing (follow es (formatted m s budget)).machine.core
sound_after m s budget e es = follow_passes es (formatted m s budget) (formatted_passes m s budget e)

-- the words reserved for an open transaction fit behind the log of its disk
pub sound_closing : (c : Core) → sound c ≡ true → when_serving c.stage ≡ true → (number : ℕ) → is_open c.table number ≡ true
    → Closable c number
unfolding disk_of
sound_closing c s serving number o =
    let ok = serving_sound_lem c serving s in
    let mine = open_entry c number ok o in
    let d : ℕ = disk_of c number in
    let on = disk_sound_lem c d ok mine.sound.disk in
    let all = mine.on in
    record {
      closing = mine.sound.reserved;
      ring = omega (arith, on.room);
      positions = omega (arith, on.limit);
    }

-- Commit and abort always fit: see specs/Promise.antt.
pub closing_fits : ClosingFits
unfolding ClosingFits Always
closing_fits m s budget e es allowed serving number o =
    sound_closing (follow es (formatted m s budget)).machine.core (sound_after m s budget e es).1 serving number o

-- The words that a close appends to its disk's log: exactly so many, and no more than were reserved.
pub record Closes (c : Core) (number words : ℕ) (after : Logs) : Type 0 where
  pub end : end_of after (disk_of c number) ≡ end_of c.logs (disk_of c number) + words
  pub reserved : words ≤ reserved_at c.table (place_of c.table number)

pub commit_closes : (c : Core) (w : World) (number : ℕ) → Sized c → sound c ≡ true → verdict (commit_rows c w number) ≡ accepted
    → Closes c number 2 (commit_task c w number).core.logs
commit_closes c w number sized s ok =
    let a = commit_accepted c w number ok in
    record {
      end = (commit_grown c w number sized s a).end_longer;
      reserved = (sound_closing c s a.serving number a.opened).closing;
    }

pub abort_closes : (c : Core) (w : World) (number : ℕ) → Sized c → sound c ≡ true → verdict (abort_rows c w number) ≡ accepted
    → Closes c number (update_words (updates_left c w number) + 2) (abort_task c w number).core.logs
abort_closes c w number sized s ok =
    let a = abort_accepted c w number s ok in
    record { end = (abort_grown c w number sized s a).end_longer; reserved = a.words }
