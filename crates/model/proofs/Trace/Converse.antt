-- Every run of the machine is the view of a trace of calls that keep their contract: so the promises for the code are about as many lists
-- as the machine's, and no premise on traces empties them.
use mathlib.Core.Path.{◌≡◌, refl, sym, ap, subst, ◌∙◌}
use mathlib.Core.List.{List, [], ◌∷◌, ◌++◌}
use mathlib.Core.Bool.{true, ◌&&◌}
use Prim.Native.Nat.{ℕ, ◌+◌}
use lib.ListN.{length, take, drop, replicate, take-append-drop, length-append}
use lib.Dec.{eqb}
use borrow.Author.Tests.{eqb-true}
use Rattle.model.specs.declared.Sizes.{Sizes}
use Rattle.model.specs.declared.Core.{Core}
use Rattle.model.specs.World.{World}
use Rattle.model.specs.State.{new_core}
use Rattle.model.specs.Refusal.{Result}
use Rattle.model.specs.Causes.{when_shut}
use Rattle.model.specs.Call.{Call, format, restart_end, result_of}
use Rattle.model.specs.View.{head_words, core_of, carried_of, body_of, behind, Given, given, Serves}
use Rattle.model.specs.Reference.{Outcome, taken, refused, interrupted, outcome_of, Reference, blank, hear}
use Rattle.model.specs.Machine.{Machine, Event, call, lent, scramble, result, outcome, is_refused, allowed_call, allowed, after, scrambled, Run, follow, allowed_all, formatted}
use Rattle.model.specs.Promise.{Always}
use Rattle.model.specs.Trace.{MachineInCode, view_of, Observed, machine_after, KeepsContract, seen, EventInCode, call_in_code, scramble_in_code, On, Scrambles, FormatRefused, RunInCode, view_run, after_in_code, follow_in_code, AllowedAllInCode, Formats, formatted_in_code, AlwaysInCode}
use Rattle.model.proofs.Booleans.{both, true_false}
use Rattle.model.proofs.Store.Checks.{shut_stage}
use Rattle.model.proofs.Positions.{plenty, small}
use Rattle.model.proofs.Example.{events, start, Reaches, example_reaches}
use Rattle.model.proofs.Restart.Taken.{taken_call}
use Rattle.model.proofs.Sound.Made.{format_anew}
use Rattle.model.proofs.View.Back.{view_new}
use Rattle.model.proofs.View.Seen.{behind_left}
use Rattle.model.proofs.Trace.Events.{result_in, as_machine, next, call_next, scramble_next}
use Rattle.model.proofs.Trace.Promises.{gave_outcome, gave_pages}

-- the call that gives what the definition says of the view
unfoldable pub observed : Call → MachineInCode → Observed
observed k m =
    let g : Given = given k m.carried m.world in
    record {
      call = k;
      carried = m.carried;
      entry = m.world;
      reply = record { answer = g.answer; carried = g.carried };
      left = g.budget;
      exit = g.world;
    }

observed_on : (k : Call) (m : MachineInCode) → On m (observed k m)
unfolding KeepsContract Serves observed
observed_on k m = record { carried = refl; entry = refl; contract = refl }

observed_call : (k : Call) (m : MachineInCode) → (observed k m).call ≡ k
unfolding observed
observed_call k m = refl

observed_gives : (k : Call) (m : MachineInCode) → result_in (observed k m) ≡ result (view_of m) k
unfolding observed
observed_gives k m = as_machine m (observed k m) (observed_on k m)

-- other contents of the work memory, behind the head as it is
abbrev whole : MachineInCode → (work : List ℕ) → List ℕ
whole m work = take head_words m.world.work ++ work

-- the events as steps; a refused call on other slices leaves all as it was, and is left out
unfoldable pub steps_of : List Event → MachineInCode → List EventInCode
steps_of [] m = []
steps_of (call k ∷ es) m = call_in_code (observed k m) ∷ steps_of es (machine_after (observed k m))
steps_of (lent k w ∷ es) m = steps_of es m
steps_of (scramble pages work ∷ es) m =
    scramble_in_code pages (whole m work) ∷ steps_of es (record { carried = m.carried; world = scrambled m.world pages (whole m work) })

refused_is : (o : Outcome) → is_refused o ≡ true → o ≡ refused
refused_is taken e = true_false e refl
refused_is refused e = refl
refused_is interrupted e = true_false e refl

format_refused : (k : Call) (m : MachineInCode) → allowed_call (view_of m) k ≡ true → FormatRefused (observed k m)
unfolding FormatRefused observed outcome
format_refused k m a s budget is =
    ap (λ (r : Result). outcome_of r.answer) (observed_gives k m) ∙ ap (outcome (view_of m)) is ∙ refused_is _ (subst (λ (j : Call). allowed_call (view_of m) j ≡ true) is a)

lent_next : (k : Call) (w : World) (x : Run) → allowed x.machine (lent k w) ≡ true → next x (lent k w) ≡ x
unfolding hear
lent_next k w x a = rw (refused_is (outcome_of (result_of k x.machine.core w).answer) a) refl

-- a scramble of the body, as one of the whole
module _ (m : MachineInCode) (pages work : List ℕ) (a : allowed (view_of m) (scramble pages work) ≡ true) where
  abbrev body : List ℕ
  body = drop head_words m.world.work

  lengths : (when_shut m.carried.stage && eqb (length pages) (length m.world.pages) ≡ true) × (length work ≡ length body)
  unfolding view_of core_of body_of
  lengths =
      let x = both (when_shut m.carried.stage && eqb (length pages) (length m.world.pages)) (eqb (length work) (length body)) a in
      (x.0, eqb-true (length work) (length body) x.1)

  same_body : drop head_words (whole m work) ≡ work
  same_body = behind_left m.world.work work lengths.1

  scrambles : Scrambles m pages (whole m work)
  scrambles =
      let head : List ℕ = take head_words m.world.work in
      let both_lengths = both (when_shut m.carried.stage) (eqb (length pages) (length m.world.pages)) lengths.0 in
      record {
        stage = shut_stage m.carried.stage both_lengths.0;
        page_length = eqb-true (length pages) (length m.world.pages) both_lengths.1;
        work_length = length-append head work ∙ ap (λ (n : ℕ). length head + n) lengths.1
            ∙ sym (length-append head body) ∙ ap length (take-append-drop head_words m.world.work);
      }

-- The steps are linked, and the view of the run that they reach is the one that the events reach.
pub record Linked (events : List Event) (x : RunInCode) : Type 0 where
  pub steps : AllowedAllInCode (steps_of events x.machine) x
  pub ends : view_run (follow_in_code (steps_of events x.machine) x) ≡ follow events (view_run x)

abbrev Allows : List Event → Run → Type 0
Allows events x = allowed_all events x.machine ≡ true

pub linked : (events : List Event) (x : RunInCode) → Allows events (view_run x) → Linked events x
unfolding AllowedAllInCode follow_in_code steps_of follow allowed_all view_run observed
linked [] x a = record { steps = tt; ends = refl }
linked (call k ∷ es) x a =
    let m : MachineInCode = x.machine in
    let ok = both (allowed (view_of m) (call k)) (allowed_all es (after (view_of m) (call k))) a in
    let o : Observed = observed k m in
    let same = call_next o x (observed_on k m) in
    let rest = linked es (after_in_code (call_in_code o) x) (subst (Allows es) (sym same) ok.1) in
    record { steps = ((observed_on k m, format_refused k m ok.0), rest.steps); ends = rest.ends ∙ ap (follow es) same }
linked (lent k w ∷ es) x a =
    let ok = both (allowed (view_of x.machine) (lent k w)) (allowed_all es (view_of x.machine)) a in
    let rest = linked es x ok.1 in
    record { steps = rest.steps; ends = rest.ends ∙ ap (follow es) (sym (lent_next k w (view_run x) ok.0)) }
linked (scramble pages work ∷ es) x a =
    let m : MachineInCode = x.machine in
    let e : Event = scramble pages work in
    let ok = both (allowed (view_of m) e) (allowed_all es (after (view_of m) e)) a in
    let same = scramble_next pages (whole m work) x (scrambles m pages work ok.0)
    ∙ ap (λ (l : List ℕ). next (view_run x) (scramble pages l)) (same_body m pages work ok.0) in
    let rest = linked es (after_in_code (scramble_in_code pages (whole m work)) x) (subst (Allows es) (sym same) ok.1) in
    record { steps = (scrambles m pages work ok.0, rest.steps); ends = rest.ends ∙ ap (follow es) same }

-- A format that is taken gives the same on a new state, and a new state is seen as one whatever the head.
unfoldable pub new_in_code : World → MachineInCode
new_in_code w = record { carried = carried_of new_core; world = behind (replicate head_words 0) w }

new_view : (w : World) → view_of (new_in_code w) ≡ record { core = new_core; world = w }
unfolding new_in_code view_of body_of
new_view w = ap (λ (c : Core). record { core = c; world = w }) (view_new (replicate head_words 0 ++ w.work))

format_anywhere : (m : Machine) (s : Sizes) (budget : ℕ) → outcome m (format s budget) ≡ taken
    → result (view_of (new_in_code m.world)) (format s budget) ≡ result m (format s budget)
unfolding result outcome
format_anywhere m s budget e =
    ap (λ (n : Machine). result n (format s budget)) (new_view m.world)
    ∙ format_anew m.core m.world s budget (taken_call (format s budget) m.core m.world e).accepted

-- the format that the steps start from
module _ (m : Machine) (s : Sizes) (budget : ℕ) (e : outcome m (format s budget) ≡ taken) where
  abbrev first : Observed
  first = observed (format s budget) (new_in_code m.world)

  first_gives : result_in first ≡ result m (format s budget)
  first_gives = observed_gives (format s budget) (new_in_code m.world) ∙ format_anywhere m s budget e

  first_formats : Formats first s
  unfolding observed outcome
  first_formats =
      record {
        budget = budget;
        call = refl;
        contract = (observed_on (format s budget) (new_in_code m.world)).contract;
        finished = ap (λ (r : Result). outcome_of r.answer) first_gives ∙ e;
      }

  first_begins : view_run (formatted_in_code first s) ≡ formatted m s budget
  unfolding formatted_in_code formatted view_run
  first_begins = ap (λ (r : Result). record { machine = record { core = r.core; world = r.world }; reference = blank s }) first_gives

  -- the steps after it
  after_first : (es : List Event) → allowed_all es (formatted m s budget).machine ≡ true → Linked es (formatted_in_code first s)
  after_first es a = linked es (formatted_in_code first s) (subst (Allows es) (sym first_begins) a)

  abbrev steps : List Event → List EventInCode
  steps es = steps_of es (formatted_in_code first s).machine

  all_ends : (es : List Event) → allowed_all es (formatted m s budget).machine ≡ true
      → view_run (follow_in_code (steps es) (formatted_in_code first s)) ≡ follow es (formatted m s budget)
  all_ends es a = (after_first es a).ends ∙ ap (follow es) first_begins

-- What always holds of the code's view always holds of the machine.
pub of_code : (P : Machine → Reference → Type 0) → AlwaysInCode (λ m r. P (view_of m) r) → Always P
unfolding Always AlwaysInCode view_run
of_code P always m s budget e es a =
    subst (λ (x : Run). P x.machine x.reference) (all_ends m s budget e es a)
    (always (first m s budget e) s (first_formats m s budget e) (steps m s budget e es) (after_first m s budget e es a).steps)

-- A trace with a restart end that is taken, and the pages that it leaves.
pub record Traced (s : Sizes) (pages : List ℕ) : Type 0 where
  pub first : Observed
  pub formats : Formats first s
  pub steps : List EventInCode
  pub linked : AllowedAllInCode steps (formatted_in_code first s)
  pub last : Observed
  pub budget : ℕ
  pub is : last.call ≡ restart_end budget
  pub on : On (follow_in_code steps (formatted_in_code first s)).machine last
  pub took : seen last ≡ taken
  pub gives : last.exit.pages ≡ pages

traced : (m : Machine) (s : Sizes) (budget : ℕ) (es : List Event) (end slot : ℕ) → Reaches m s budget es end slot
    → Traced s (slot ∷ 0 ∷ [])
unfolding outcome view_run
traced m s budget es end slot x =
    let n : MachineInCode = (follow_in_code (steps m s budget x.formats es) (formatted_in_code (first m s budget x.formats) s)).machine in
    let ends = all_ends m s budget x.formats es x.allows in
    let on = observed_on (restart_end end) n in
    let k : Call = restart_end end in
    record {
      first = first m s budget x.formats;
      formats = first_formats m s budget x.formats;
      steps = steps m s budget x.formats es;
      linked = (after_first m s budget x.formats es x.allows).steps;
      last = observed k n;
      budget = end;
      is = observed_call k n;
      on = on;
      took = gave_outcome n (observed k n) k (observed_call k n) on ∙ ap (λ (y : Run). outcome y.machine k) ends ∙ x.ends;
      gives = gave_pages n (observed k n) k (observed_call k n) on ∙ ap (λ (y : Run). (result y.machine k).world.pages) ends ∙ x.gives;
    }

-- The example run (proofs/Example.antt: a commit, an abort and a checkpoint are cut, each followed by a restart) as a trace.
pub example_traced : Traced (small 1) (2 ∷ 0 ∷ [])
example_traced = traced start (small 1) plenty events plenty 2 example_reaches
