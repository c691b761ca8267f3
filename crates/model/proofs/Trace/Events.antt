-- Each step of a trace is, through the view, an event of the machine; but a refused call on other slices, which leaves the machine and the
-- reference as they are. So what always holds of the machine always holds of the code's view.
use mathlib.Core.Path.{◌≡◌, refl, sym, ap, subst, ◌∙◌, ap₂}
use mathlib.Core.List.{List, [], ◌∷◌}
use mathlib.Core.Bool.{true, and-eq-true_iff}
use Prim.Native.Nat.{ℕ}
use native.Mathlib.Omega.{arith}
use lib.ListN.{length, drop, length-drop}
use borrow.Author.Tests.{eq-eqb}
use Rattle.model.specs.declared.Sizes.{Sizes}
use Rattle.model.specs.declared.Core.{Core}
use Rattle.model.specs.declared.Carried.{Carried}
use Rattle.model.specs.World.{World}
use Rattle.model.specs.Causes.{when_shut}
use Rattle.model.specs.Refusal.{Result}
use Rattle.model.specs.Call.{Call, format, begin, update, look, commit, abort, set_classes, checkpoint_begin, checkpoint_step, checkpoint_end, restart_begin, restart_step, restart_run, restart_end, new_state, Gives}
use Rattle.model.specs.View.{head_words, core_of, body_of}
use Rattle.model.specs.Reference.{taken, refused, outcome_of, Reference, blank, heard_of, hear}
use Rattle.model.specs.Machine.{Machine, Event, call, scramble, result, outcome, is_refused, allowed_call, allowed, after, referred, Run, follow, allowed_all, formatted, scrambled}
use Rattle.model.specs.History.{Told, nothing_told, told, history}
use Rattle.model.specs.Promise.{Always}
use Rattle.model.specs.Trace.{MachineInCode, view_of, Observed, machine_before, machine_after, KeepsContract, EventInCode, call_in_code, lent_in_code, scramble_in_code, On, Beside, Scrambles, FormatRefused, RunInCode, view_run, after_in_code, follow_in_code, AllowedAllInCode, Formats, formatted_in_code, AlwaysInCode}
use Rattle.model.specs.LogPromiseInCode.{told_in_code, history_in_code}
use Rattle.model.proofs.View.Head.{shut_view}
use Rattle.model.proofs.View.Served.{served_gives, refused_back}

-- What a call handed back and left, through the view.
abbrev pub result_in : Observed → Result
result_in o = record { answer = o.reply.answer; budget = o.left; core = (view_of (machine_after o)).core; world = (view_of (machine_after o)).world }

-- A call that kept its contract gave, through the view, what the definition says.
pub as_defined : (o : Observed) → KeepsContract o → result_in o ≡ result (view_of (machine_before o)) o.call
unfolding KeepsContract Gives result view_of
as_defined o k = served_gives o.call o.carried o.entry o.reply o.left o.exit k

-- On the machine's own slices this is what the machine's call gives.
pub as_got : (m : MachineInCode) (o : Observed) → On m o → machine_before o ≡ m
as_got m o h =
    ap (λ (c : Carried). record { carried = c; world = o.entry }) h.carried ∙ ap (λ (w : World). record { carried = m.carried; world = w }) h.entry

pub as_machine : (m : MachineInCode) (o : Observed) → On m o → result_in o ≡ result (view_of m) o.call
as_machine m o h = as_defined o h.contract ∙ ap (λ (x : MachineInCode). result (view_of x) o.call) (as_got m o h)

-- A refused call on other slices changes nothing: the state handed back is the one handed in, and every lent word is as it was.
lent_view : (o : Observed) (x : RunInCode) → Beside x.machine o → view_run (after_in_code (lent_in_code o) x) ≡ view_run x
unfolding KeepsContract hear
lent_view o x h =
    let same = (refused_back o.call o.carried o.entry o.reply o.left o.exit h.contract h.turned).0 ∙ h.carried in
    rw (same, h.turned) refl

-- The steps as events of the machine; a scramble is one of the body.
unfoldable pub events_of : List EventInCode → List Event
events_of [] = []
events_of (call_in_code o ∷ steps) = call o.call ∷ events_of steps
events_of (lent_in_code o ∷ steps) = events_of steps
events_of (scramble_in_code pages work ∷ steps) = scramble pages (drop head_words work) ∷ events_of steps

-- a format that is refused is allowed, and so is every other call
allowed_call_lem : (m : Machine) (k : Call) → ((s : Sizes) (budget : ℕ) → k ≡ format s budget → outcome m k ≡ refused) → allowed_call m k ≡ true
allowed_call_lem m (format s budget) f = ap is_refused (f s budget refl)
allowed_call_lem m (begin class) f = refl
allowed_call_lem m (update number page slot value budget) f = refl
allowed_call_lem m (look q) f = refl
allowed_call_lem m (commit number budget) f = refl
allowed_call_lem m (abort number budget) f = refl
allowed_call_lem m (set_classes lines) f = refl
allowed_call_lem m checkpoint_begin f = refl
allowed_call_lem m (checkpoint_step budget) f = refl
allowed_call_lem m (checkpoint_end budget) f = refl
allowed_call_lem m restart_begin f = refl
allowed_call_lem m (restart_step source) f = refl
allowed_call_lem m (restart_run source most) f = refl
allowed_call_lem m (restart_end budget) f = refl
allowed_call_lem m new_state f = refl

pub call_allowed : (m : MachineInCode) (o : Observed) → On m o → FormatRefused o → allowed (view_of m) (call o.call) ≡ true
unfolding FormatRefused outcome
call_allowed m o on f =
    allowed_call_lem (view_of m) o.call (λ s budget e. sym (ap (λ (r : Result). outcome_of r.answer) (as_machine m o on)) ∙ f s budget e)

scramble_allowed : (m : MachineInCode) (pages work : List ℕ) → Scrambles m pages work
    → allowed (view_of m) (scramble pages (drop head_words work)) ≡ true
unfolding view_of core_of body_of
scramble_allowed m pages work h =
    let long : length (drop head_words work) ≡ length (drop head_words m.world.work) = omega (arith, length-drop head_words work, length-drop head_words m.world.work, h.work_length) in
    rw (
      h.stage,
      eq-eqb (length pages) (length m.world.pages) h.page_length,
      eq-eqb (length (drop head_words work)) (length (drop head_words m.world.work)) long,
    )

-- the machine and the reference after an event
abbrev pub next : Run → Event → Run
next x e = record { machine = after x.machine e; reference = referred x.machine e x.reference }

pub call_next : (o : Observed) (x : RunInCode) → On x.machine o → view_run (after_in_code (call_in_code o) x) ≡ next (view_run x) (call o.call)
unfolding view_run
call_next o x on =
    ap (λ (r : Result). record {
      machine = record { core = r.core; world = r.world };
      reference = hear (heard_of o.call (view_of x.machine).core (view_of x.machine).world r.answer) x.reference;
    }) (as_machine x.machine o on)

pub scramble_next : (pages work : List ℕ) (x : RunInCode) → Scrambles x.machine pages work
    → view_run (after_in_code (scramble_in_code pages work) x) ≡ next (view_run x) (scramble pages (drop head_words work))
unfolding view_run view_of body_of
scramble_next pages work x h =
    let m : MachineInCode = x.machine in
    ap (λ (c : Core). record { machine = record { core = c; world = scrambled (body_of m.world) pages (drop head_words work) }; reference = x.reference })
    (shut_view m.carried work m.world.work (ap when_shut h.stage))

-- and so for lists of them
both_true : (e : Event) (es : List Event) (m : Machine) → allowed m e ≡ true → allowed_all es (after m e) ≡ true → allowed_all (e ∷ es) m ≡ true
unfolding allowed_all
both_true e es m a b = (and-eq-true_iff (allowed m e) (allowed_all es (after m e))).1 (a, b)

abbrev Allows : List EventInCode → Run → Type 0
Allows steps x = allowed_all (events_of steps) x.machine ≡ true

pub steps_allowed : (steps : List EventInCode) (x : RunInCode) → AllowedAllInCode steps x → Allows steps (view_run x)
unfolding events_of allowed_all AllowedAllInCode view_run
steps_allowed [] x l = refl
steps_allowed (call_in_code o ∷ steps) x l =
    both_true (call o.call) (events_of steps) (view_of x.machine) (call_allowed x.machine o l.0.0 l.0.1)
    (subst (Allows steps) (call_next o x l.0.0) (steps_allowed steps (after_in_code (call_in_code o) x) l.1))
steps_allowed (lent_in_code o ∷ steps) x l =
    subst (Allows steps) (lent_view o x l.0) (steps_allowed steps (after_in_code (lent_in_code o) x) l.1)
steps_allowed (scramble_in_code pages work ∷ steps) x l =
    both_true (scramble pages (drop head_words work)) (events_of steps) (view_of x.machine) (scramble_allowed x.machine pages work l.0)
    (subst (Allows steps) (scramble_next pages work x l.0) (steps_allowed steps (after_in_code (scramble_in_code pages work) x) l.1))

pub steps_follow : (steps : List EventInCode) (x : RunInCode) → AllowedAllInCode steps x
    → view_run (follow_in_code steps x) ≡ follow (events_of steps) (view_run x)
unfolding events_of follow follow_in_code AllowedAllInCode
steps_follow [] x l = refl
steps_follow (call_in_code o ∷ steps) x l =
    steps_follow steps (after_in_code (call_in_code o) x) l.1 ∙ ap (follow (events_of steps)) (call_next o x l.0.0)
steps_follow (lent_in_code o ∷ steps) x l =
    steps_follow steps (after_in_code (lent_in_code o) x) l.1 ∙ ap (follow (events_of steps)) (lent_view o x l.0)
steps_follow (scramble_in_code pages work ∷ steps) x l =
    steps_follow steps (after_in_code (scramble_in_code pages work) x) l.1 ∙ ap (follow (events_of steps)) (scramble_next pages work x l.0)

-- what they put
call_told : (o : Observed) (x : RunInCode) (t : Told) → On x.machine o
    → told_in_code (call_in_code o) x t ≡ told (view_run x) (call o.call) t
unfolding outcome view_run
call_told o x t on = rw (sym (as_machine x.machine o on))

steps_history : (steps : List EventInCode) (x : RunInCode) (t : Told) → AllowedAllInCode steps x
    → history_in_code steps x t ≡ history (events_of steps) (view_run x) t
unfolding events_of history history_in_code AllowedAllInCode
steps_history [] x t l = refl
steps_history (call_in_code o ∷ steps) x t l =
    steps_history steps (after_in_code (call_in_code o) x) (told_in_code (call_in_code o) x t) l.1
    ∙ ap₂ (history (events_of steps)) (call_next o x l.0.0) (call_told o x t l.0.0)
steps_history (lent_in_code o ∷ steps) x t l =
    steps_history steps (after_in_code (lent_in_code o) x) t l.1 ∙ ap (λ (y : Run). history (events_of steps) y t) (lent_view o x l.0)
steps_history (scramble_in_code pages work ∷ steps) x t l =
    steps_history steps (after_in_code (scramble_in_code pages work) x) t l.1
    ∙ ap (λ (y : Run). history (events_of steps) y t) (scramble_next pages work x l.0)

-- The machine that a format of the code got, and what it made of it.
module _ (o : Observed) (s : Sizes) (f : Formats o s) where
  abbrev got : Machine
  got = view_of (machine_before o)

  formats_as_machine : result_in o ≡ result got (format s f.budget)
  formats_as_machine = as_defined o f.contract ∙ ap (result got) f.call

  formats_taken : outcome got (format s f.budget) ≡ taken
  unfolding outcome
  formats_taken = sym (ap (λ (r : Result). outcome_of r.answer) formats_as_machine) ∙ f.finished

  formats_begins : view_run (formatted_in_code o s) ≡ formatted got s f.budget
  unfolding formatted_in_code formatted view_run
  formats_begins =
      ap (λ (r : Result). record { machine = record { core = r.core; world = r.world }; reference = blank s }) formats_as_machine

-- What holds of each run of the machine, and of what it put, holds of the view of each trace of the code.
pub each_trace : (P : Told → Run → Type 0)
    → ((m : Machine) (s : Sizes) (budget : ℕ) → outcome m (format s budget) ≡ taken
    → (events : List Event) → allowed_all events (formatted m s budget).machine ≡ true
    → P (history events (formatted m s budget) nothing_told) (follow events (formatted m s budget)))
    → (o : Observed) (s : Sizes) → Formats o s → (steps : List EventInCode) → AllowedAllInCode steps (formatted_in_code o s)
    → P (history_in_code steps (formatted_in_code o s) nothing_told) (view_run (follow_in_code steps (formatted_in_code o s)))
each_trace P runs o s f steps l =
    let x : RunInCode = formatted_in_code o s in
    let start = formats_begins o s f in
    let events = events_of steps in
    let puts = steps_history steps x nothing_told l ∙ ap (λ (y : Run). history events y nothing_told) start in
    let ends = steps_follow steps x l ∙ ap (follow events) start in
    subst (P (history_in_code steps x nothing_told)) (sym ends)
    (subst (λ (t : Told). P t (follow events (formatted (got o s f) s f.budget))) (sym puts)
    (runs (got o s f) s f.budget (formats_taken o s f) events (subst (Allows steps) start (steps_allowed steps x l))))

-- So what always holds of the machine always holds of the code.
pub in_code : (P : Machine → Reference → Type 0) → Always P → AlwaysInCode (λ m r. P (view_of m) r)
unfolding Always AlwaysInCode view_run
in_code P always = each_trace (λ puts x. P x.machine x.reference) always
