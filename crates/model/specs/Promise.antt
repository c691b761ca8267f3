-- The promises over lists of calls, as statements, each with its English.
use Rattle.std.specs.Prelude.{◌≡◌, ℕ, ◌+◌, ◌≤◌, ◌<◌, Bool, true, false, ◌&&◌, ◌||◌, get_or, replicate, ltb, eqb}
use mathlib.Core.List.{List, [], ◌∷◌, ◌++◌, Memᴰ}
use Rattle.model.specs.declared.Stage.TheVariants.{Shut, Replaying}
use Rattle.model.specs.declared.Sizes.{Sizes}
use Rattle.model.specs.declared.Core.{Core}
use Rattle.model.specs.Sizes.{slots_in, total, tail_word}
use Rattle.model.specs.Record.{close, commit_kind, encode}
use Rattle.model.specs.World.{World, Action, store, write, anchor, backups, logs, each}
use Rattle.model.specs.State.{end_of, is_open}
use Rattle.model.specs.Refusal.{number_of, first_of, verdict, accepted}
use Rattle.model.specs.Causes.{when_serving, locked}
use Rattle.model.specs.Append.{store_log}
use Rattle.model.specs.Transaction.{disk_of, read_words, commit_rows, commit_task}
use Rattle.model.specs.Restart.{remaining}
use Rattle.model.specs.Call.{Call, format, look, read, restart_begin, restart_step, restart_run, restart_end}
use Rattle.model.specs.Image.{image_of, restarted}
use Rattle.model.specs.Reference.{Reference, taken, refused, slot_index, words_in, plain_table, has_set, written_by_other}
use Rattle.model.specs.Machine.{Machine, Event, call, outcome, result, after, follow, allowed_all, formatted, after_steps}

-- P holds of every machine and reference that is reached so: format any machine, and let the format finish. Then let any events
-- happen: calls taken, refused or cut at any store, also inside a restart, whichever sources its steps and runs name, in whichever order;
-- refused calls on other slices; new states; refused formats; and whatever lost power leaves in the memories while the store is
-- shut.
unfoldable pub Always : (Machine → Reference → Type 0) → Type 0
Always P =
    (m : Machine) (s : Sizes) (budget : ℕ)
    → outcome m (format s budget) ≡ taken
    → (events : List Event)
    → allowed_all events (formatted m s budget).machine ≡ true
    → P (follow events (formatted m s budget)).machine (follow events (formatted m s budget)).reference

-- Power loss. If a restart end is taken, the page memory then equals, word for word, the values that the committed transactions
-- alone made, in commit order. It is claimed for every list of events before it, so for each taken restart end of a longer list;
-- the reference is the same before and after a restart end.
unfoldable pub PowerLoss : Type 0
PowerLoss =
    Always λ m r. (budget : ℕ) → outcome m (restart_end budget) ≡ taken
    → (result m (restart_end budget)).world.pages ≡ words_in r.committed

-- "Under demand 3's premises, with slices of the right lengths, restart begin in stage shut can give only 13.": it answers 0 or 13.
unfoldable pub RestartAccepted : Type 0
RestartAccepted =
    Always λ m r. m.core.stage ≡ Shut
    → (eqb (number_of (result m restart_begin).answer) 0 || eqb (number_of (result m restart_begin).answer) 13) ≡ true

-- A restart can be finished: a step from a source that has something left is taken, and leaves less of that source and as much of
-- every other. So a run is taken there too; one of as many steps as words or pages remain leaves nothing of the source, and every run
-- leaves as much of the others. Once nothing is left, an end that has its T + D + 1 stores is taken.
pub record Finishable (m : Machine) : Type 0 where
  pub steps : (source : ℕ) → 0 < remaining m.core source → outcome m (restart_step source) ≡ taken
  pub less : (source : ℕ) → 0 < remaining m.core source
      → remaining (result m (restart_step source)).core source < remaining m.core source
  pub others : (source other : ℕ) → (other ≡ source → ⊥)
      → remaining (result m (restart_step source)).core other ≡ remaining m.core other
  pub runs : (source most : ℕ) → 0 < remaining m.core source → outcome m (restart_run source most) ≡ taken
  pub all : (source most : ℕ) → remaining m.core source ≤ most → remaining (result m (restart_run source most)).core source ≡ 0
  pub beside : (source most other : ℕ) → (other ≡ source → ⊥) → remaining (result m (restart_run source most)).core other ≡ remaining m.core other
  pub ends : (budget : ℕ) → ((source : ℕ) → source ≤ m.core.sizes.disks → remaining m.core source ≡ 0)
      → total m.core.sizes + m.core.sizes.disks + 1 ≤ budget → outcome m (restart_end budget) ≡ taken

unfoldable pub RestartFinishes : Type 0
RestartFinishes = Always λ m r. m.core.stage ≡ Replaying → Finishable m

-- A plain table of slots. While the store is open or copying, the page memory is the committed contents with the open write sets
-- laid over them; a taken read gives the slot's value in that table; the open transactions are those with a write set; 11 applies
-- exactly when another open write set has a write to the slot.
pub record PlainTable (m : Machine) (r : Reference) : Type 0 where
  pub sizes : r.sizes ≡ m.core.sizes
  pub pages : m.world.pages ≡ words_in (plain_table r)
  pub reads : (reader page slot : ℕ) → outcome m (look (read reader page slot)) ≡ taken
      → read_words m.core m.world reader page slot ≡ get_or (plain_table r) (slot_index r.sizes page slot) []
  pub opened : (number : ℕ) → is_open m.core.table number ≡ has_set number r.write_sets
  pub locks : (number page slot : ℕ) → page < m.core.sizes.pages → slot < slots_in m.core.sizes page
      → locked m.core m.world number page slot ≡ written_by_other number page slot r.write_sets

unfoldable pub Table : Type 0
Table = Always λ m r. when_serving m.core.stage ≡ true → PlainTable m r

-- The order of replay does not matter (000's theorem 3; that the pages are also the committed ones is PowerLoss). On any machine where
-- a restart begin is taken, let restart steps follow, from any sources in any order, refused ones too, until a restart end is taken.
-- The page memory is then what specs/Image.antt makes of the devices at the begin, and so the same for any two such lists of steps.
unfoldable pub ReplayOrder : Type 0
ReplayOrder =
    (m : Machine) (some other : List ℕ) (n k : ℕ) → outcome m restart_begin ≡ taken
    → let begun : Machine = after m (call restart_begin) in
    outcome (after_steps some begun) (restart_end n) ≡ taken
    → outcome (after_steps other begun) (restart_end k) ≡ taken
    → let one : Machine = after (after_steps some begun) (call (restart_end n)) in
    let another : Machine = after (after_steps other begun) (call (restart_end k)) in
    (one.world.pages ≡ restarted (image_of m.world)) × (one.world.pages ≡ another.world.pages)

-- A run of restart steps is those steps. On any machine it is taken or refused as the single step is, and a refused one gives what that
-- gives. A taken one answers how many steps it made, at most `most`: it leaves the state and the words as these leave them, one after
-- the other, each of them is taken, and where it made fewer than `most`, the next is refused.
pub record RunMakes (m : Machine) (source most made : ℕ) (now : Machine) : Type 0 where
  pub few : made ≤ most
  pub leaves : now ≡ after_steps (replicate made source) m
  pub each : (i : ℕ) → i < made → outcome (after_steps (replicate i source) m) (restart_step source) ≡ taken
  pub stops : made < most → outcome (after_steps (replicate made source) m) (restart_step source) ≡ refused

unfoldable pub RunIsSteps : Type 0
RunIsSteps =
    (m : Machine) (source most : ℕ) → let run : Call = restart_run source most in
    (outcome m run ≡ outcome m (restart_step source))
    × (outcome m (restart_step source) ≡ refused → result m run ≡ result m (restart_step source))
    × (outcome m run ≡ taken → RunMakes m source most (first_of (result m run).answer) (after m (call run)))

-- the action stores the disk's tail word with a value above p: with it the log reaches over position p
abbrev pub covers_commit : Sizes → ℕ → ℕ → Action → Bool
covers_commit s disk p (store logs i x) = eqb i (tail_word s disk) && ltb p x
covers_commit s disk p (store anchor i x) = false
covers_commit s disk p (store backups i x) = false
covers_commit s disk p (write memory i x) = false

-- The commit point. "A commit's last store is the tail word that first covers its commit record." The record stands at position p,
-- the end of its disk's log, so that the tail before the commit is at most p; its two words are stored at p and p + 1; then comes the
-- tail p + 2, the last action of all; and no action before that stores a tail of the disk above p. A commit that is cut is cut before
-- its last store.
pub record CommitPoint (c : Core) (w : World) (t : ℕ) : Type 0 where
  pub before : List Action
  pub last : (commit_task c w t).actions
      ≡ before ++ store logs (tail_word c.sizes (disk_of c t)) (end_of c.logs (disk_of c t) + 2) ∷ []
  pub uncovered : (a : Action) → Memᴰ a before
      → covers_commit c.sizes (disk_of c t) (end_of c.logs (disk_of c t)) a ≡ false
  pub earlier : List Action
  pub stored : before
      ≡ earlier ++ each (store_log c.sizes (disk_of c t)) (end_of c.logs (disk_of c t)) (encode (close commit_kind t))

unfoldable pub CommitPoints : Type 0
CommitPoints = Always λ m r. (t : ℕ) → verdict (commit_rows m.core m.world t) ≡ accepted → CommitPoint m.core m.world t
