-- The promises of specs/Promise.antt about the code: for every list of its calls as they were observed. All that is used of a call is
-- its contract, `Serves` (specs/View.antt): a premise here, proved of the call where its code stands.
use Rattle.std.specs.Prelude.{◌≡◌, ℕ, ◌+◌, ◌≤◌, ◌<◌, List, [], ◌∷◌, ◌++◌, true, false, ◌||◌, length, get_or, eqb}
use Rattle.model.specs.declared.Stage.TheVariants.{Shut, Replaying}
use Rattle.model.specs.declared.Sizes.{Sizes}
use Rattle.model.specs.declared.Carried.{Carried}
use Rattle.model.specs.declared.Handed.{Handed}
use Rattle.model.specs.Sizes.{total}
use Rattle.model.specs.World.{World}
use Rattle.model.specs.Refusal.{number_of, first_of}
use Rattle.model.specs.Causes.{when_serving}
use Rattle.model.specs.Transaction.{read_words}
use Rattle.model.specs.Restart.{remaining}
use Rattle.model.specs.Call.{Call, format, update, look, read, restart_begin, restart_step, restart_run, restart_end}
use Rattle.model.specs.View.{core_of, body_of, Serves}
use Rattle.model.specs.Reference.{Outcome, taken, refused, outcome_of, Reference, blank, heard_of, hear, slot_index, words_in, plain_table, written_by_other}
use Rattle.model.specs.Machine.{Machine, result, outcome, is_refused, scrambled, Run}
use Rattle.model.specs.Promise.{RunMakes, PlainTable}

-- The machine of the code: what the last call handed back of the state by value, and the devices and memory as they were left, the work
-- memory with its head. Its view (specs/View.antt) is a machine of the definitions, which has the whole state, and no head.
pub record MachineInCode : Type 0 where
  pub carried : Carried
  pub world : World

unfoldable pub view_of : MachineInCode → Machine
view_of m = record { core = core_of m.carried m.world.work; world = body_of m.world }

-- A call of the code as it was observed: the call with its arguments; the state by value and the words that it got; the answer and the
-- state by value that it handed back; the budget that it left, 0 for a call that takes none; the words as it left them. A new state
-- touches no word; the state that it got is the one that it takes the place of.
pub record Observed : Type 0 where
  pub call : Call
  pub carried : Carried
  pub entry : World
  pub reply : Handed
  pub left : ℕ
  pub exit : World

-- what it got, and what it handed back and left
abbrev pub machine_before : Observed → MachineInCode
machine_before o = record { carried = o.carried; world = o.entry }

abbrev pub machine_after : Observed → MachineInCode
machine_after o = record { carried = o.reply.carried; world = o.exit }

-- it kept its contract
unfoldable pub KeepsContract : Observed → Type 0
KeepsContract o = Serves o.call o.carried o.entry o.reply o.left o.exit

-- whether it was taken, refused or cut: what it answered, not what it should have
abbrev pub seen : Observed → Outcome
seen o = outcome_of o.reply.answer

-- What may happen after a format. A power failure inside a call is that call's budget; between two calls it is a new state.
pub data EventInCode : Type 0 where
  -- a call on the slices as they were left
  call_in_code : Observed → EventInCode
  -- a call that was lent other slices, some or all of them: another work memory too
  lent_in_code : Observed → EventInCode
  -- what lost power leaves in the page memory and in the whole work memory
  scramble_in_code : (pages work : List ℕ) → EventInCode

-- "Each call gets the devices, the state and the pages as the last one left or returned them": those of the machine. It kept its
-- contract.
pub record On (m : MachineInCode) (o : Observed) : Type 0 where
  pub carried : o.carried ≡ m.carried
  pub entry : o.entry ≡ m.world
  pub contract : KeepsContract o

-- "save that a refused call may be lent slices of other lengths": it gets the machine's state by value all the same. It kept its
-- contract.
pub record Beside (m : MachineInCode) (o : Observed) : Type 0 where
  pub carried : o.carried ≡ m.carried
  pub contract : KeepsContract o
  pub turned : seen o ≡ refused

-- "only in stage shut the pages may hold anything, as lost power leaves them"; and so may the work memory, its head too
pub record Scrambles (m : MachineInCode) (pages work : List ℕ) : Type 0 where
  pub stage : m.carried.stage ≡ Shut
  pub page_length : length pages ≡ length m.world.pages
  pub work_length : length work ≡ length m.world.work

-- "and a format if refused"
unfoldable pub FormatRefused : Observed → Type 0
FormatRefused o = (s : Sizes) (budget : ℕ) → o.call ≡ format s budget → seen o ≡ refused

-- the event may come next
abbrev pub AllowedInCode : MachineInCode → EventInCode → Type 0
AllowedInCode m (call_in_code o) = On m o × FormatRefused o
AllowedInCode m (lent_in_code o) = Beside m o
AllowedInCode m (scramble_in_code pages work) = Scrambles m pages work

-- A machine with the reference beside it, and its view.
pub record RunInCode : Type 0 where
  pub machine : MachineInCode
  pub reference : Reference

unfoldable pub view_run : RunInCode → Run
view_run x = record { machine = view_of x.machine; reference = x.reference }

-- the reference hears what was answered
abbrev pub heard_in_code : Observed → Reference → Reference
heard_in_code o r = hear (heard_of o.call (view_of (machine_before o)).core (view_of (machine_before o)).world o.reply.answer) r

-- The machine and the reference after an event. The machine is what the call handed back and left; after a call that was lent other
-- slices its words are as they were (`refused_back`: a refused call leaves every word that it was lent).
abbrev pub after_in_code : EventInCode → RunInCode → RunInCode
after_in_code (call_in_code o) x = record { machine = machine_after o; reference = heard_in_code o x.reference }
after_in_code (lent_in_code o) x =
    record { machine = record { carried = o.reply.carried; world = x.machine.world }; reference = heard_in_code o x.reference }
after_in_code (scramble_in_code pages work) x =
    record {
      machine = record { carried = x.machine.carried; world = scrambled x.machine.world pages work };
      reference = x.reference;
    }

unfoldable pub follow_in_code : List EventInCode → RunInCode → RunInCode
follow_in_code [] x = x
follow_in_code (e ∷ es) x = follow_in_code es (after_in_code e x)

-- each event gets what the one before it left
unfoldable pub AllowedAllInCode : List EventInCode → RunInCode → Type 0
AllowedAllInCode [] x = Unit {0}
AllowedAllInCode (e ∷ es) x = AllowedInCode x.machine e × AllowedAllInCode es (after_in_code e x)

-- A format of these sizes, on any state by value and any slices, that kept its contract and was taken.
pub record Formats (o : Observed) (s : Sizes) : Type 0 where
  pub budget : ℕ
  pub call : o.call ≡ format s budget
  pub contract : KeepsContract o
  pub finished : seen o ≡ taken

-- where a trace starts: what that format handed back and left, with a blank reference
unfoldable pub formatted_in_code : Observed → Sizes → RunInCode
formatted_in_code o s = record { machine = machine_after o; reference = blank s }

-- P holds of every machine and reference that is reached so: let a format of the code be taken, on any state by value and any slices.
-- Then let any events come, each linked to the one before: calls of the code, taken, refused or cut at any store, also inside a restart,
-- whichever sources its steps and runs name in whichever order; refused calls on other slices; new states; refused formats; and whatever
-- lost power leaves in the memories while the store is shut. Of the calls nothing is supposed but that each kept its contract.
unfoldable pub AlwaysInCode : (MachineInCode → Reference → Type 0) → Type 0
AlwaysInCode P =
    (o : Observed) (s : Sizes) → Formats o s
    → (events : List EventInCode) → AllowedAllInCode events (formatted_in_code o s)
    → P (follow_in_code events (formatted_in_code o s)).machine (follow_in_code events (formatted_in_code o s)).reference

-- Power loss. If the code's restart end is then called and is taken, the page memory that it leaves equals, word for word, the values
-- that the committed transactions alone made, in commit order.
unfoldable pub PowerLossInCode : Type 0
PowerLossInCode =
    AlwaysInCode λ m r. (e : Observed) (budget : ℕ) → e.call ≡ restart_end budget → On m e → seen e ≡ taken
    → e.exit.pages ≡ words_in r.committed

-- The same, read off one list: "the pages after each restart end that is taken equal, word for word, the results in 01's book for the
-- calls up to it".
unfoldable pub EachRestartEnd : Type 0
EachRestartEnd =
    (o : Observed) (s : Sizes) → Formats o s
    → (before later : List EventInCode) (e : Observed) (budget : ℕ) → AllowedAllInCode (before ++ call_in_code e ∷ later) (formatted_in_code o s)
    → e.call ≡ restart_end budget → seen e ≡ taken
    → e.exit.pages ≡ words_in (follow_in_code (before ++ call_in_code e ∷ []) (formatted_in_code o s)).reference.committed

-- The code's restart begin, called in stage shut on the slices as they were left, answers 0 or 13.
unfoldable pub RestartAcceptedInCode : Type 0
RestartAcceptedInCode =
    AlwaysInCode λ m r. m.carried.stage ≡ Shut → (b : Observed) → b.call ≡ restart_begin → On m b
    → (eqb (number_of b.reply.answer) 0 || eqb (number_of b.reply.answer) 13) ≡ true

-- what remains of a source, by the view
abbrev pub left_in : MachineInCode → (source : ℕ) → ℕ
left_in m source = remaining (view_of m).core source

-- A restart can be finished: a step of the code from a source that has something left is taken, and hands back a state with less of
-- that source and as much of every other; a run is taken there too, leaves nothing of the source if it may make as many steps as words
-- or pages remain, and as much of every other; once nothing is left, an end that has its T + D + 1 stores is taken.
pub record FinishableInCode (m : MachineInCode) : Type 0 where
  pub steps : (o : Observed) (source : ℕ) → o.call ≡ restart_step source → On m o → 0 < left_in m source
      → (seen o ≡ taken) × (left_in (machine_after o) source < left_in m source)
      × ((other : ℕ) → (other ≡ source → ⊥) → left_in (machine_after o) other ≡ left_in m other)
  pub runs : (o : Observed) (source most : ℕ) → o.call ≡ restart_run source most → On m o
      → (0 < left_in m source → seen o ≡ taken)
      × (left_in m source ≤ most → left_in (machine_after o) source ≡ 0)
      × ((other : ℕ) → (other ≡ source → ⊥) → left_in (machine_after o) other ≡ left_in m other)
  pub ends : (e : Observed) (budget : ℕ) → e.call ≡ restart_end budget → On m e
      → ((source : ℕ) → source ≤ m.carried.disks → left_in m source ≡ 0)
      → total (view_of m).core.sizes + m.carried.disks + 1 ≤ budget → seen e ≡ taken

unfoldable pub RestartFinishesInCode : Type 0
RestartFinishesInCode = AlwaysInCode λ m r. m.carried.stage ≡ Replaying → FinishableInCode m

-- A run of restart steps is those steps, on any state by value and any slices. One of the code is taken or refused as the single step
-- is, with the same answer where it is refused; a taken one answers how many it made, and hands back the state and leaves the words as
-- these do.
unfoldable pub RunIsStepsInCode : Type 0
RunIsStepsInCode =
    (m : MachineInCode) (o : Observed) (source most : ℕ) → o.call ≡ restart_run source most → On m o
    → (seen o ≡ outcome (view_of m) (restart_step source))
    × (seen o ≡ refused → o.reply.answer ≡ (result (view_of m) (restart_step source)).answer)
    × (seen o ≡ taken → RunMakes (view_of m) source most (first_of o.reply.answer) (view_of (machine_after o)))

-- How an update or a read of a slot is answered: 11 only where another open write set has a write to the slot, and where one has, the
-- call is refused.
pub record Guarded (r : Reference) (o : Observed) (number page slot : ℕ) : Type 0 where
  pub eleven : number_of o.reply.answer ≡ 11 → written_by_other number page slot r.write_sets ≡ true
  pub free : is_refused (seen o) ≡ false → written_by_other number page slot r.write_sets ≡ false

-- A plain table of slots: the state and the words that the code's calls left are those of PlainTable, and a read of the code that is
-- taken gives the slot's value there. `words` are what that read hands back, by its contract.
pub record PlainTableInCode (m : MachineInCode) (r : Reference) : Type 0 where
  pub table : PlainTable (view_of m) r
  pub reads : (o : Observed) (reader page slot : ℕ) (words : List ℕ) → o.call ≡ look (read reader page slot) → On m o → seen o ≡ taken
      → words ≡ read_words (view_of (machine_before o)).core (view_of (machine_before o)).world reader page slot
      → words ≡ get_or (plain_table r) (slot_index r.sizes page slot) []
  pub read_locks : (o : Observed) (reader page slot : ℕ) → o.call ≡ look (read reader page slot) → On m o → Guarded r o reader page slot
  pub update_locks : (o : Observed) (number page slot : ℕ) (value : List ℕ) (budget : ℕ)
      → o.call ≡ update number page slot value budget → On m o → Guarded r o number page slot

unfoldable pub TableInCode : Type 0
TableInCode = AlwaysInCode λ m r. when_serving m.carried.stage ≡ true → PlainTableInCode m r
