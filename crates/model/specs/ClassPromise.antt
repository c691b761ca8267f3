-- 02, S-5, as promises: which table is in force, which disks serve a class, and "What a class decides is the disk".
use Rattle.std.specs.Prelude.{◌≡◌, ◌⊎◌, ℕ, ◌<◌, List, [], ◌∷◌, map, Bool, true, false, ◌&&◌}
use Rattle.model.specs.declared.Classes.{Classes}
use Rattle.model.specs.declared.Core.{Core}
use Rattle.model.specs.Below.{within}
use Rattle.model.specs.Classes.{class_count, in_set, low_at, high_at, set_at, line_count, no_classes, classes_of, set_for}
use Rattle.model.specs.World.{World}
use Rattle.model.specs.Refusal.{verdict, accepted}
use Rattle.model.specs.SetClasses.{set_classes_rows}
use Rattle.model.specs.Call.{Call, format, begin, update, look, commit, abort, set_classes, checkpoint_begin, checkpoint_step, checkpoint_end, restart_begin, restart_step, restart_run, restart_end, new_state, result_of}
use Rattle.model.specs.Image.{image_of, restarted}
use Rattle.model.specs.Reference.{Outcome, taken, refused, interrupted, outcome_of}
use Rattle.model.specs.Machine.{Machine, Event, call, lent, scramble, result, outcome, allowed_call, allowed_all, after}
use Rattle.model.specs.Promise.{Always}

-- The table in force after a call. "A new or restarted store has no table"; "A refused table leaves the old one in force"; a cut call leaves
-- a new state; no other call changes it, so a checkpoint does not.
abbrev pub table_taken : Call → Classes → Classes
table_taken (set_classes lines) t = classes_of lines
table_taken (format s budget) t = no_classes
table_taken restart_begin t = no_classes
table_taken (restart_end budget) t = no_classes
table_taken new_state t = no_classes
table_taken (begin class) t = t
table_taken (update number page slot value budget) t = t
table_taken (look q) t = t
table_taken (commit number budget) t = t
table_taken (abort number budget) t = t
table_taken checkpoint_begin t = t
table_taken (checkpoint_step budget) t = t
table_taken (checkpoint_end budget) t = t
table_taken (restart_step source) t = t
table_taken (restart_run source most) t = t

abbrev pub table_after : Outcome → Call → Classes → Classes
table_after taken k t = table_taken k t
table_after refused k t = t
table_after interrupted k t = no_classes

-- of every call, on any state and any slices
unfoldable pub TableInForce : Type 0
TableInForce = (k : Call) (c : Core) (w : World) → (result_of k c w).core.classes ≡ table_after (outcome_of (result_of k c w).answer) k c.classes

-- A table that is accepted has for each class one line that covers it, and no other; the disks that serve the class are the line's set, which
-- is not empty and has no disk but those below D.
pub record ClassLine (disks : ℕ) (lines : List ℕ) (class : ℕ) : Type 0 where
  pub line : ℕ
  pub below : line < line_count lines
  pub covers : within (low_at lines line) (high_at lines line) class ≡ true
  pub only : (other : ℕ) → other < line_count lines → within (low_at lines other) (high_at lines other) class ≡ true → other ≡ line
  pub serves : set_for (classes_of lines) class ≡ set_at lines line
  pub some : set_at lines line ≡ 0 → ⊥
  pub known : (disk : ℕ) → in_set (set_at lines line) disk ≡ true → disk < disks

unfoldable pub TableServes : Type 0
TableServes =
    (c : Core) (w : World) (lines : List ℕ) → verdict (set_classes_rows c w lines) ≡ accepted
    → (class : ℕ) → class < class_count → ClassLine c.sizes.disks lines class

-- Along every list the table in force is none, or one that was accepted: each class has its line in it, with disks of the store. So a
-- begin's disk (`BeginDisk`) is one of its class's line.
unfoldable pub KnownTable : Core → Type 0
KnownTable c =
    (c.classes ≡ no_classes)
    ⊎ ((lines : List ℕ) × (c.classes ≡ classes_of lines) × ((class : ℕ) → class < class_count → ClassLine c.sizes.disks lines class))

unfoldable pub TableKnown : Type 0
TableKnown = Always λ m r. KnownTable m.core

-- "every disk serves every class until one is set": of eight, which are all that there can be
unfoldable pub EveryDisk : Type 0
EveryDisk = (class disk : ℕ) → disk < 8 → in_set (set_for no_classes class) disk ≡ true

-- Two lists of calls, equal call for call except in the tables that they set, and, which is more than 02 asks, in the classes of their
-- begins.
pub data Alike : Call → Call → Type 0 where
  same : (k : Call) → Alike k k
  tables : (one other : List ℕ) → Alike (set_classes one) (set_classes other)
  classes : (one other : ℕ) → Alike (begin one) (begin other)

unfoldable pub AllAlike : List Call → List Call → Type 0
AllAlike [] [] = Unit {0}
AllAlike [] (l ∷ ls) = ⊥
AllAlike (k ∷ ks) [] = ⊥
AllAlike (k ∷ ks) (l ∷ ls) = Alike k l × AllAlike ks ls

-- the machine after events
unfoldable pub after_all : List Event → Machine → Machine
after_all [] m = m
after_all (e ∷ es) m = after_all es (after m e)

-- "every call is taken and finished"
unfoldable pub TakenAll : List Call → Machine → Type 0
TakenAll [] m = Unit {0}
TakenAll (k ∷ ks) m = (outcome m k ≡ taken) × TakenAll ks (after m (call k))

-- Calls that are all taken; then the power fails, between two calls or inside one, at whichever store.
pub record Failed (m : Machine) (calls : List Call) : Type 0 where
  pub allowed : allowed_all (map call calls) m ≡ true
  pub taken : TakenAll calls m
  pub failing : Call
  pub may : allowed_call (after_all (map call calls) m) failing ≡ true
  pub fails : (failing ≡ new_state) ⊎ (outcome (after_all (map call calls) m) failing ≡ interrupted)

abbrev pub failed_at : {m : Machine} {calls : List Call} → Failed m calls → Machine
failed_at {m} {calls} f = after (after_all (map call calls) m) (call f.failing)

-- the calls of a restart, new states, from which a cut one begins again, and looks
abbrev pub of_restart : Call → Bool
of_restart restart_begin = true
of_restart (restart_step source) = true
of_restart (restart_run source most) = true
of_restart (restart_end budget) = true
of_restart new_state = true
of_restart (look q) = true
of_restart (format s budget) = false
of_restart (begin class) = false
of_restart (update number page slot value budget) = false
of_restart (commit number budget) = false
of_restart (abort number budget) = false
of_restart (set_classes lines) = false
of_restart checkpoint_begin = false
of_restart (checkpoint_step budget) = false
of_restart (checkpoint_end budget) = false

-- calls of restarts, taken, refused or cut; refused calls on other slices; and what lost power leaves in the memories
unfoldable pub restarts_only : List Event → Bool
restarts_only [] = true
restarts_only (call k ∷ es) = of_restart k && restarts_only es
restarts_only (lent k w ∷ es) = restarts_only es
restarts_only (scramble pages work ∷ es) = restarts_only es

-- The pages that are found from there: such events, then a restart end that is taken and leaves these pages.
pub record Found (m : Machine) (pages : List ℕ) : Type 0 where
  pub restarts : List Event
  pub only : restarts_only restarts ≡ true
  pub allowed : allowed_all restarts m ≡ true
  pub budget : ℕ
  pub ends : outcome (after_all restarts m) (restart_end budget) ≡ taken
  pub leaves : (result (after_all restarts m) (restart_end budget)).world.pages ≡ pages

-- "What a class decides is the disk: from one start, under demand 3's premises, where every call is taken and finished under both of two
-- tables, the pages found after a cut that follows them are the same." From any machine that demand 3 speaks of let two lists of calls
-- follow, equal call for call except in the tables that they set, and so in those in force, and in classes; every call of both is taken. Then the power
-- fails, between calls or inside one, perhaps at another store in each. What the devices restart to is the same; so the pages that any two
-- restarts find are, whichever sources they name and however often they are cut.
unfoldable pub TwoTables : Type 0
TwoTables =
    Always λ m r. (one other : List Call) → AllAlike one other → (f : Failed m one) (g : Failed m other)
    → (restarted (image_of (failed_at f).world) ≡ restarted (image_of (failed_at g).world))
    × ((p q : List ℕ) → Found (failed_at f) p → Found (failed_at g) q → p ≡ q)
