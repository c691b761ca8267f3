-- Lists of calls and what may happen between them: the machine, its events, and a run beside the reference.
use Rattle.std.specs.Prelude.{ℕ, List, [], ◌∷◌, Bool, true, false, ◌&&◌, length, eqb}
use Rattle.model.specs.declared.Sizes.{Sizes}
use Rattle.model.specs.declared.Core.{Core}
use Rattle.model.specs.World.{World}
use Rattle.model.specs.Refusal.{Result}
use Rattle.model.specs.Causes.{when_shut}
use Rattle.model.specs.Call.{Call, format, begin, update, look, commit, abort, set_classes, checkpoint_begin, checkpoint_step, checkpoint_end, restart_begin, restart_step, restart_run, restart_end, new_state, result_of}
use Rattle.model.specs.Reference.{Outcome, taken, refused, interrupted, outcome_of, Reference, blank, heard_of, hear}

-- The state, and the devices and memory that go with it.
pub record Machine : Type 0 where
  pub core : Core
  pub world : World

-- "Each call gets the devices, the state and the pages as the last one left or returned them, save that a refused call may be
-- lent slices of other lengths. ... only in stage shut the pages may hold anything, as lost power leaves them."
-- A power failure inside a call is that call's budget; between two calls it is new_state.
pub data Event : Type 0 where
  -- a call on the machine's own slices
  call : Call → Event
  -- a call that was lent other slices
  lent : Call → World → Event
  -- other contents of the page memory and of the work memory
  scramble : (pages work : List ℕ) → Event

unfoldable pub result : Machine → Call → Result
result m k = result_of k m.core m.world

unfoldable pub outcome : Machine → Call → Outcome
outcome m k = outcome_of (result m k).answer

abbrev pub is_refused : Outcome → Bool
is_refused taken = false
is_refused refused = true
is_refused interrupted = false

-- "and a format if refused"
abbrev pub allowed_call : Machine → Call → Bool
allowed_call m (format s budget) = is_refused (outcome m (format s budget))
allowed_call m (begin class) = true
allowed_call m (update number page slot value budget) = true
allowed_call m (look q) = true
allowed_call m (commit number budget) = true
allowed_call m (abort number budget) = true
allowed_call m (set_classes lines) = true
allowed_call m checkpoint_begin = true
allowed_call m (checkpoint_step budget) = true
allowed_call m (checkpoint_end budget) = true
allowed_call m restart_begin = true
allowed_call m (restart_step source) = true
allowed_call m (restart_run source most) = true
allowed_call m (restart_end budget) = true
allowed_call m new_state = true

abbrev pub allowed : Machine → Event → Bool
allowed m (call k) = allowed_call m k
allowed m (lent k w) = is_refused (outcome_of (result_of k m.core w).answer)
allowed m (scramble pages work) =
    when_shut m.core.stage && eqb (length pages) (length m.world.pages) && eqb (length work) (length m.world.work)

abbrev pub scrambled : World → List ℕ → List ℕ → World
scrambled w pages work = record { anchor = w.anchor; pages = pages; backups = w.backups; logs = w.logs; work = work }

-- the machine after an event
abbrev pub after : Machine → Event → Machine
after m (call k) = record { core = (result m k).core; world = (result m k).world }
after m (lent k w) = m
after m (scramble pages work) = record { core = m.core; world = scrambled m.world pages work }

-- the reference after it: it hears of calls alone
abbrev pub referred : Machine → Event → Reference → Reference
referred m (call k) r = hear (heard_of k m.core m.world (result m k).answer) r
referred m (lent k w) r = hear (heard_of k m.core w (result_of k m.core w).answer) r
referred m (scramble pages work) r = r

-- A machine with the reference beside it.
pub record Run : Type 0 where
  pub machine : Machine
  pub reference : Reference

unfoldable pub follow : List Event → Run → Run
follow [] x = x
follow (e ∷ es) x = follow es (record { machine = after x.machine e; reference = referred x.machine e x.reference })

unfoldable pub allowed_all : List Event → Machine → Bool
allowed_all [] m = true
allowed_all (e ∷ es) m = allowed m e && allowed_all es (after m e)

-- where a run starts: a format of a machine, with the reference that it blanks
unfoldable pub formatted : Machine → Sizes → ℕ → Run
formatted m s budget = record { machine = after m (call (format s budget)); reference = blank s }

-- the machine after restart steps from these sources, in this order; a refused step changes nothing
unfoldable pub after_steps : List ℕ → Machine → Machine
after_steps [] m = m
after_steps (source ∷ sources) m = after_steps sources (after m (call (restart_step source)))
