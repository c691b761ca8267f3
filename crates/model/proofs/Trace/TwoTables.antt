-- The promises of classes for traces of the code: the calls of a trace, and the restarts after a failure, are through the view those of the
-- machine (Events), so what two tables leave and what restarts find is the machine's.
use mathlib.Core.Path.{◌≡◌, refl, sym, ap, subst, ◌∙◌}
use mathlib.Core.Logic.{◌⊎◌, inl, inr}
use mathlib.Core.List.{List, [], ◌∷◌, map}
use mathlib.Core.Bool.{true}
use Prim.Native.Nat.{ℕ}
use Rattle.model.specs.Refusal.{Result}
use Rattle.model.specs.Call.{Call, restart_end, new_state}
use Rattle.model.specs.View.{core_of, body_of}
use Rattle.model.specs.Image.{image_of, restarted}
use Rattle.model.specs.Reference.{Reference, taken, interrupted, outcome_of}
use Rattle.model.specs.Machine.{Machine, Event, call, result, outcome, allowed_call, allowed_all, after, Run}
use Rattle.model.specs.Trace.{MachineInCode, view_of, Observed, machine_before, machine_after, seen, On, EventInCode, call_in_code, lent_in_code, scramble_in_code, RunInCode, view_run, after_in_code, follow_in_code, AllowedAllInCode}
use Rattle.model.specs.ClassPromise.{TableInForce, TableKnown, table_after, AllAlike, after_all, TakenAll, Failed, failed_at, restarts_only, Found, TwoTables}
use Rattle.model.specs.ClassPromiseInCode.{TableInForceInCode, TableKnownInCode, calls_of, AllSeenTaken, FailedInCode, RestartsOnlyInCode, FoundInCode, TwoTablesInCode}
use Rattle.model.proofs.ClassTables.{table_in_force, table_known}
use Rattle.model.proofs.TwoTables.{follow_machine, two_tables}
use Rattle.model.proofs.Trace.Events.{as_defined, events_of, call_allowed, steps_allowed, steps_follow, call_next, in_code}
use Rattle.model.proofs.Trace.Promises.{carries_over, gave_outcome, gave_pages}

-- The table in force: see specs/ClassPromiseInCode.antt.
pub table_in_force_in_code : TableInForceInCode
unfolding TableInForceInCode TableInForce view_of core_of result
table_in_force_in_code o k =
    let gave = as_defined o k in
    ap (λ (r : Result). r.core.classes) gave ∙ table_in_force o.call (view_of (machine_before o)).core (view_of (machine_before o)).world
    ∙ sym (ap (λ (r : Result). table_after (outcome_of r.answer) o.call o.carried.classes) gave)

-- along every trace it is none, or one that was accepted
pub table_known_in_code : TableKnownInCode
unfolding TableKnownInCode TableKnown
table_known_in_code = in_code _ table_known

-- The view after a call, and after steps.
view_call : (o : Observed) (x : RunInCode) → On x.machine o → view_of (machine_after o) ≡ after (view_of x.machine) (call o.call)
unfolding view_run
view_call o x on = ap (λ (y : Run). y.machine) (call_next o x on)

view_steps : (steps : List EventInCode) (x : RunInCode) → AllowedAllInCode steps x
    → view_of (follow_in_code steps x).machine ≡ after_all (events_of steps) (view_of x.machine)
unfolding view_run
view_steps steps x l = ap (λ (y : Run). y.machine) (steps_follow steps x l) ∙ follow_machine (events_of steps) (view_run x)

-- Calls alone.
calls_events : (os : List Observed) → events_of (map call_in_code os) ≡ map call (calls_of os)
unfolding events_of
calls_events [] = refl
calls_events (o ∷ os) = ap (λ (es : List Event). call o.call ∷ es) (calls_events os)

calls_taken : (os : List Observed) (x : RunInCode) → AllowedAllInCode (map call_in_code os) x → AllSeenTaken os
    → TakenAll (calls_of os) (view_of x.machine)
unfolding AllowedAllInCode AllSeenTaken TakenAll
calls_taken [] x l t = tt
calls_taken (o ∷ os) x l t = (
  sym (gave_outcome x.machine o o.call refl l.0.0) ∙ t.0,
  subst (TakenAll (calls_of os)) (view_call o x l.0.0) (calls_taken os (after_in_code (call_in_code o) x) l.1 t.1),
)

-- A failure of the code is one of the machine's.
module _ (x : RunInCode) (calls : List Call) (f : FailedInCode x calls) where
  abbrev made : List Call
  made = calls_of f.observed

  -- where it strikes, in the code and in the machine
  abbrev struck : MachineInCode
  struck = (follow_in_code (map call_in_code f.observed) x).machine

  abbrev strikes : Machine
  strikes = after_all (map call made) (view_of x.machine)

  struck_view : view_of struck ≡ strikes
  struck_view =
      view_steps (map call_in_code f.observed) x f.linked ∙ ap (λ (es : List Event). after_all es (view_of x.machine)) (calls_events f.observed)

  fails_view : (f.failing.call ≡ new_state) ⊎ (seen f.failing ≡ interrupted)
      → (f.failing.call ≡ new_state) ⊎ (outcome strikes f.failing.call ≡ interrupted)
  fails_view (inl e) = inl e
  fails_view (inr e) =
      inr (subst (λ (n : Machine). outcome n f.failing.call ≡ interrupted) struck_view
      (sym (gave_outcome struck f.failing f.failing.call refl f.may.0) ∙ e))

  failed_view : Failed (view_of x.machine) made
  unfolding view_run
  failed_view =
      record {
        allowed = subst (λ (es : List Event). allowed_all es (view_of x.machine) ≡ true) (calls_events f.observed)
            (steps_allowed (map call_in_code f.observed) x f.linked);
        taken = calls_taken f.observed x f.linked f.taken;
        failing = f.failing.call;
        may = subst (λ (n : Machine). allowed_call n f.failing.call ≡ true) struck_view
            (call_allowed struck f.failing f.may.0 f.may.1);
        fails = fails_view f.fails;
      }

  left_view : view_of (machine_after f.failing) ≡ failed_at failed_view
  unfolding failed_view
  left_view =
      view_call f.failing (follow_in_code (map call_in_code f.observed) x) f.may.0 ∙ ap (λ (n : Machine). after n (call f.failing.call)) struck_view

  image_view : restarted (image_of f.failing.exit) ≡ restarted (image_of (failed_at failed_view).world)
  unfolding image_of view_of body_of
  image_view = ap (λ (n : Machine). restarted (image_of n.world)) left_view

-- Restarts of the code are the machine's.
restarts_view : (steps : List EventInCode) → RestartsOnlyInCode steps → restarts_only (events_of steps) ≡ true
unfolding RestartsOnlyInCode restarts_only events_of
restarts_view [] o = refl
restarts_view (call_in_code k ∷ steps) o = rw (o.0, restarts_view steps o.1) refl
restarts_view (lent_in_code k ∷ steps) o = restarts_view steps o
restarts_view (scramble_in_code pages work ∷ steps) o = restarts_view steps o

found_view : (m : MachineInCode) (r : Reference) (pages : List ℕ) → FoundInCode m r pages → Found (view_of m) pages
unfolding view_run
found_view m r pages g =
    let x : RunInCode = record { machine = m; reference = r } in
    let n : MachineInCode = (follow_in_code g.restarts x).machine in
    let same = view_steps g.restarts x g.linked in
    record {
      restarts = events_of g.restarts;
      only = restarts_view g.restarts g.only;
      allowed = steps_allowed g.restarts x g.linked;
      budget = g.budget;
      ends = subst (λ (y : Machine). outcome y (restart_end g.budget) ≡ taken) same
          (sym (gave_outcome n g.last (restart_end g.budget) g.call g.on) ∙ g.finished);
      leaves = subst (λ (y : Machine). (result y (restart_end g.budget)).world.pages ≡ pages) same
          (sym (gave_pages n g.last (restart_end g.budget) g.call g.on) ∙ g.leaves);
    }

-- What a class decides is the disk: see specs/ClassPromiseInCode.antt.
pub two_tables_in_code : TwoTablesInCode
unfolding TwoTablesInCode TwoTables
two_tables_in_code =
    carries_over _ _ two_tables (λ m r h one other alike f g.
    let x : RunInCode = record { machine = m; reference = r } in
    let these = subst (λ (l : List Call). AllAlike l (made x other g)) (sym f.made) (subst (AllAlike one) (sym g.made) alike) in
    let both = h (made x one f) (made x other g) these (failed_view x one f) (failed_view x other g) in (
      image_view x one f ∙ both.0 ∙ sym (image_view x other g),
      λ p q u v.
          both.1 p q (subst (λ (n : Machine). Found n p) (left_view x one f) (found_view _ r p u))
          (subst (λ (n : Machine). Found n q) (left_view x other g) (found_view _ r q v)),
    ))
