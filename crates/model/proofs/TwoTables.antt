-- What a class decides is the disk. The reference hears of a call its arguments, its outcome and the number that a begin answers. A table
-- of classes decides none of these where every call is taken, so two tables make one book, and the devices restart to it.
use mathlib.Core.Path.{◌≡◌, refl, sym, ap, ap₂, ◌∙◌}
use mathlib.Core.Logic.{◌⊎◌, inl, inr}
use mathlib.Core.List.{List, [], ◌∷◌, map}
use mathlib.Core.Bool.{true, cond}
use Prim.Native.Nat.{ℕ, ◌+◌}
use native.Mathlib.Omega.{arith}
use Rattle.model.specs.declared.Core.{Core}
use Rattle.model.specs.World.{World}
use Rattle.model.specs.State.{new_core, open_core, with_replay, with_log}
use Rattle.model.specs.Refusal.{Result}
use Rattle.model.specs.Format.{format_task}
use Rattle.model.specs.Transaction.{begun, begin_task, update_task, commit_task}
use Rattle.model.specs.Abort.{abort_task}
use Rattle.model.specs.Checkpoint.{checkpoint_begin_task, checkpoint_step_task, checkpoint_end_task}
use Rattle.model.specs.Restart.{restart_begin_task, restart_end_task}
use Rattle.model.specs.SetClasses.{set_classes_task}
use Rattle.model.specs.Call.{Call, format, begin, update, look, commit, abort, set_classes, checkpoint_begin, checkpoint_step, checkpoint_end, restart_begin, restart_step, restart_run, restart_end, new_state, task_of, result_of, look_task}
use Rattle.model.specs.Image.{image_of, restarted}
use Rattle.model.specs.Reference.{Outcome, taken, refused, interrupted, outcome_of, is_begin, heard_of, after_taken, after_outcome, hear, words_in, Reference}
use Rattle.model.specs.Machine.{Machine, Event, call, lent, scramble, result, outcome, allowed, allowed_all, after, referred, Run, follow, formatted}
use Rattle.model.specs.History.{Told, told}
use Rattle.model.specs.Promise.{Always}
use Rattle.model.specs.ClassPromise.{Alike, same, tables, classes, AllAlike, after_all, TakenAll, Failed, failed_at, of_restart, restarts_only, Found, TwoTables}
use Rattle.model.proofs.Booleans.{both, true_false}
use Rattle.model.proofs.Restart.Taken.{taken_call}
use Rattle.model.proofs.Restart.Run.{step_beside, run_beside}
use Rattle.model.proofs.Store.Cases.{call_cases}
use Rattle.model.proofs.Store.Holding.{Holding, holding_kept}
use Rattle.model.proofs.Sound.Test.{Passing}
use Rattle.model.proofs.Sound.Lists.{event_passes, sound_after}
use Rattle.model.proofs.PowerLoss.{heard_refused, step_event, holds_after, end_leaves}

-- the number of the next begin, and the number that the reference hears of a taken call
abbrev next_of : Core → ℕ
next_of c = c.next

abbrev heard_by : Call → Core → World → ℕ
heard_by k c w = cond (is_begin k) (task_of k c w).value 0

-- Two states with the same next number: a call that is taken on both leaves the same, and the reference hears the same number.
abbrev SameNumbers : Call → Core → World → Call → Core → World → Type 0
SameNumbers k c w l d v = ((task_of k c w).core.next ≡ (task_of l d v).core.next) × (heard_by k c w ≡ heard_by l d v)

same_numbers : (k l : Call) → Alike k l → (c d : Core) (w v : World) → c.next ≡ d.next → SameNumbers k c w l d v
unfolding format_task open_core begin_task begun update_task look_task commit_task abort_task with_log set_classes_task checkpoint_begin_task checkpoint_step_task checkpoint_end_task restart_begin_task restart_end_task new_core with_replay
same_numbers k l (tables one other) c d w v e = (e, refl)
same_numbers k l (classes one other) c d w v e = (ap (λ (n : ℕ). n + 1) e, e)
same_numbers k l (same (format s budget)) c d w v e = (refl, refl)
same_numbers k l (same (begin class)) c d w v e = (ap (λ (n : ℕ). n + 1) e, e)
same_numbers k l (same (update number page slot value budget)) c d w v e = (e, refl)
same_numbers k l (same (look q)) c d w v e = (e, refl)
same_numbers k l (same (commit number budget)) c d w v e = (e, refl)
same_numbers k l (same (abort number budget)) c d w v e = (e, refl)
same_numbers k l (same (set_classes lines)) c d w v e = (e, refl)
same_numbers k l (same checkpoint_begin) c d w v e = (e, refl)
same_numbers k l (same (checkpoint_step budget)) c d w v e = (e, refl)
same_numbers k l (same (checkpoint_end budget)) c d w v e = (e, refl)
same_numbers k l (same restart_begin) c d w v e = (refl, refl)
same_numbers k l (same (restart_step source)) c d w v e =
    (step_beside next_of (λ n r. refl) c w source ∙ e ∙ sym (step_beside next_of (λ n r. refl) d v source), refl)
same_numbers k l (same (restart_run source most)) c d w v e =
    (run_beside next_of (λ n r. refl) most c w source ∙ e ∙ sym (run_beside next_of (λ n r. refl) most d v source), refl)
same_numbers k l (same (restart_end budget)) c d w v e = (refl, refl)
same_numbers k l (same new_state) c d w v e = (refl, refl)

-- what the reference does at a taken call
heard_taken : (k : Call) (m : Machine) (r : Reference) → outcome m k ≡ taken
    → referred m (call k) r ≡ after_taken k (heard_by k m.core m.world) r
unfolding outcome result hear
heard_taken k m r =
    call_cases (λ (x : Result). outcome_of x.answer ≡ taken
    → hear (heard_of k m.core m.world x.answer) r ≡ after_taken k (heard_by k m.core m.world) r) k m.core m.world
    (λ n first second v e. let z : ◌≡◌ {A = ℕ} 0 1 = cc in absurd (omega arith))
    (λ v f e. refl)
    (λ v f e. let z : ◌≡◌ {A = ℕ} 0 1 = cc in absurd (omega arith))

-- the tables that two calls set, and the classes of two begins, are nothing to it
taken_alike : (k l : Call) → Alike k l → (n : ℕ) (r : Reference) → after_taken k n r ≡ after_taken l n r
taken_alike k l (same j) n r = refl
taken_alike k l (tables one other) n r = refl
taken_alike k l (classes one other) n r = refl

module _ (k l : Call) (a : Alike k l) (m n : Machine) (e : m.core.next ≡ n.core.next) (s : outcome m k ≡ taken) (t : outcome n l ≡ taken) where
  next_alike : (after m (call k)).core.next ≡ (after n (call l)).core.next
  unfolding outcome result
  next_alike =
      ap next_of (taken_call k m.core m.world s).core ∙ (same_numbers k l a m.core n.core m.world n.world e).0
      ∙ sym (ap next_of (taken_call l n.core n.world t).core)

  heard_alike : (r q : Reference) → r ≡ q → referred m (call k) r ≡ referred n (call l) q
  heard_alike r q d =
      heard_taken k m r s
      ∙ ap₂ (after_taken k) (same_numbers k l a m.core n.core m.world n.world e).1 d
      ∙ taken_alike k l a (heard_by l n.core n.world) q
      ∙ sym (heard_taken l n q t)

-- and so for two lists of calls
abbrev beside : Machine → Reference → Run
beside m r = record { machine = m; reference = r }

one_book : (one other : List Call) → AllAlike one other → (m n : Machine) (r q : Reference) → m.core.next ≡ n.core.next → r ≡ q
    → TakenAll one m → TakenAll other n
    → (follow (map call one) (beside m r)).reference ≡ (follow (map call other) (beside n q)).reference
unfolding AllAlike TakenAll follow
one_book [] [] a m n r q e d s t = d
one_book [] (l ∷ ls) a m n r q e d s t = absurd a
one_book (k ∷ ks) [] a m n r q e d s t = absurd a
one_book (k ∷ ks) (l ∷ ls) a m n r q e d s t =
    one_book ks ls a.1 (after m (call k)) (after n (call l)) (referred m (call k) r) (referred n (call l) q)
    (next_alike k l a.0 m n e s.0 t.0) (heard_alike k l a.0 m n e s.0 t.0 r q d) s.1 t.1

-- Calls of a restart, however they end, and calls that are cut leave the committed contents.
restart_committed : (o : Outcome) (k : Call) (n : ℕ) (r : Reference) → of_restart k ≡ true → (after_outcome o k n r).committed ≡ r.committed
restart_committed refused k n r e = refl
restart_committed interrupted k n r e = refl
restart_committed taken restart_begin n r e = refl
restart_committed taken (restart_step source) n r e = refl
restart_committed taken (restart_run source most) n r e = refl
restart_committed taken (restart_end budget) n r e = refl
restart_committed taken new_state n r e = refl
restart_committed taken (look q) n r e = refl
restart_committed taken (format s budget) n r e = true_false e refl
restart_committed taken (begin class) n r e = true_false e refl
restart_committed taken (update number page slot value budget) n r e = true_false e refl
restart_committed taken (commit number budget) n r e = true_false e refl
restart_committed taken (abort number budget) n r e = true_false e refl
restart_committed taken (set_classes lines) n r e = true_false e refl
restart_committed taken checkpoint_begin n r e = true_false e refl
restart_committed taken (checkpoint_step budget) n r e = true_false e refl
restart_committed taken (checkpoint_end budget) n r e = true_false e refl

failing_committed : (m : Machine) (k : Call) (r : Reference) → (k ≡ new_state) ⊎ (outcome m k ≡ interrupted)
    → (referred m (call k) r).committed ≡ r.committed
unfolding hear outcome
failing_committed m k r (inl e) = restart_committed (outcome_of (result m k).answer) k _ r (ap of_restart e)
failing_committed m k r (inr e) = rw e refl

restarts_committed : (es : List Event) (m : Machine) (r : Reference) → restarts_only es ≡ true → allowed_all es m ≡ true
    → (follow es (beside m r)).reference.committed ≡ r.committed
unfolding restarts_only allowed_all follow hear
restarts_committed [] m r o a = refl
restarts_committed (call k ∷ es) m r o a =
    let only = both (of_restart k) (restarts_only es) o in
    let may = both (allowed m (call k)) (allowed_all es (after m (call k))) a in
    restarts_committed es (after m (call k)) (referred m (call k) r) only.1 may.1
    ∙ restart_committed (outcome_of (result m k).answer) k _ r only.0
restarts_committed (lent k w ∷ es) m r o a =
    let may = both (allowed m (lent k w)) (allowed_all es m) a in
    restarts_committed es m (referred m (lent k w) r) o may.1
    ∙ ap (λ (x : Reference). x.committed) (heard_refused k m.core w (result_of k m.core w).answer r may.0)
restarts_committed (scramble pages work ∷ es) m r o a =
    let may = both (allowed m (scramble pages work)) (allowed_all es (after m (scramble pages work))) a in
    restarts_committed es (after m (scramble pages work)) r o may.1

-- the machine of a run is the machine after its events
pub follow_machine : (es : List Event) (x : Run) → (follow es x).machine ≡ after_all es x.machine
unfolding follow after_all
follow_machine [] x = refl
follow_machine (e ∷ es) x = follow_machine es (beside (after x.machine e) (referred x.machine e x.reference))

-- What stands between any two events, and after more of them.
record Stands (m : Machine) (r : Reference) : Type 0 where
  puts : Told
  holds : Holding puts m r
  passes : Passing m.core

stands_after : (es : List Event) (m : Machine) (r : Reference) → Stands m r → allowed_all es m ≡ true
    → Stands (after_all es m) (follow es (beside m r)).reference
unfolding after_all follow allowed_all
stands_after [] m r s a = s
stands_after (e ∷ es) m r s a =
    let may = both (allowed m e) (allowed_all es (after m e)) a in
    stands_after es (after m e) (referred m e r)
    (record {
      puts = told (beside m r) e s.puts;
      holds = step_event e s.puts m r s.holds s.passes.1 may.0;
      passes = event_passes m e s.passes;
    })
    may.1

-- One list of calls, and the power fails: the devices restart to the book's results, and restarts find these.
module _ (m : Machine) (r : Reference) (s : Stands m r) (calls : List Call) (f : Failed m calls) where
  abbrev book : Reference
  book = (follow (map call calls) (beside m r)).reference

  abbrev fails : Machine
  fails = after_all (map call calls) m

  abbrev last : Reference
  last = referred fails (call f.failing) book

  failed_stands : Stands (failed_at f) last
  unfolding after_all follow allowed_all
  failed_stands = stands_after (call f.failing ∷ []) fails book (stands_after (map call calls) m r s f.allowed) (rw f.may refl)

  failed_committed : words_in last.committed ≡ words_in book.committed
  failed_committed = ap words_in (failing_committed fails f.failing book f.fails)

  restarts_to : restarted (image_of (failed_at f).world) ≡ words_in book.committed
  restarts_to = (holding_kept failed_stands.holds).image ∙ failed_committed

  finds : (pages : List ℕ) → Found (failed_at f) pages → pages ≡ words_in book.committed
  finds pages g =
      let s = stands_after g.restarts (failed_at f) last failed_stands g.allowed in
      sym g.leaves ∙ end_leaves s.puts _ _ s.holds g.budget g.ends
      ∙ ap words_in (restarts_committed g.restarts (failed_at f) last g.only g.allowed)
      ∙ failed_committed

-- See specs/ClassPromise.antt.
pub two_tables : TwoTables
unfolding TwoTables Always
two_tables m s budget formats events a one other alike f g =
    let x : Run = follow events (formatted m s budget) in
    let stands : Stands x.machine x.reference =
    record { puts = _; holds = holds_after m s budget formats events a; passes = sound_after m s budget formats events } in
    let books = ap (λ (r : Reference). words_in r.committed)
    (one_book one other alike x.machine x.machine x.reference x.reference refl refl f.taken g.taken) in (
      restarts_to x.machine x.reference stands one f ∙ books ∙ sym (restarts_to x.machine x.reference stands other g),
      λ p q u v. finds x.machine x.reference stands one f p u ∙ books ∙ sym (finds x.machine x.reference stands other g q v),
    )
