-- The promises of specs/Trace.antt and specs/LogPromiseInCode.antt, each from the machine's.
use mathlib.Core.Path.{◌≡◌, refl, sym, ap, subst, ◌∙◌}
use mathlib.Core.List.{List, [], ◌∷◌, ◌++◌}
use Prim.Native.Nat.{ℕ, ◌<◌}
use Rattle.model.specs.declared.Core.{Core}
use Rattle.model.specs.Anchor.{sizes_on}
use Rattle.model.specs.Refusal.{Result, number_of, first_of}
use Rattle.model.specs.Restart.{remaining}
use Rattle.model.specs.Call.{Call, restart_begin, restart_step, restart_run, restart_end}
use Rattle.model.specs.View.{core_of, body_of}
use Rattle.model.specs.Reference.{outcome_of, Reference, hear}
use Rattle.model.specs.Machine.{Machine, result, outcome}
use Rattle.model.specs.Promise.{Always, PowerLoss, RestartAccepted, RestartFinishes, RunMakes, RunIsSteps}
use Rattle.model.specs.LogPromise.{LogKept, StateTrue, NeverMalformed, ClosingFits, LogOf, BackupSteps, TellsOnes, OnesTold}
use Rattle.model.specs.Trace.{MachineInCode, view_of, Observed, machine_after, seen, EventInCode, call_in_code, On, RunInCode, view_run, after_in_code, follow_in_code, AllowedAllInCode, formatted_in_code, AlwaysInCode, PowerLossInCode, EachRestartEnd, RestartAcceptedInCode, RestartFinishesInCode, RunIsStepsInCode}
use Rattle.model.specs.LogPromiseInCode.{LogKeptInCode, StateTrueInCode, NeverMalformedInCode, ClosingFitsInCode, BackupStepsInCode, OnesToldInCode}
use Rattle.model.proofs.PowerLoss.{power_loss, restart_accepted, log_kept, state_true, never_malformed, backup_steps}
use Rattle.model.proofs.OnesTold.{ones_told}
use Rattle.model.proofs.Restart.Run.{run_is_steps}
use Rattle.model.proofs.Finish.{restart_finishes}
use Rattle.model.proofs.Sound.Lists.{closing_fits}
use Rattle.model.proofs.Trace.Events.{result_in, as_machine, each_trace, in_code}

-- what follows from a promise of the machine by the view, for the code
pub carries_over : (P : Machine → Reference → Type 0) (Q : MachineInCode → Reference → Type 0) → Always P
    → ((m : MachineInCode) (r : Reference) → P (view_of m) r → Q m r) → AlwaysInCode Q
unfolding AlwaysInCode
carries_over P Q always then o s f steps l = then _ _ (in_code P always o s f steps l)

-- An observed call on the machine's own slices: its answer and, through the view, its state and its words are the machine's.
module _ (m : MachineInCode) (o : Observed) (k : Call) (is : o.call ≡ k) (on : On m o) where
  pub gave : result_in o ≡ result (view_of m) k
  gave = as_machine m o on ∙ ap (result (view_of m)) is

  pub gave_outcome : seen o ≡ outcome (view_of m) k
  unfolding outcome
  gave_outcome = ap (λ (r : Result). outcome_of r.answer) gave

  pub gave_number : number_of o.reply.answer ≡ number_of (result (view_of m) k).answer
  gave_number = ap (λ (r : Result). number_of r.answer) gave

  gave_core : (view_of (machine_after o)).core ≡ (result (view_of m) k).core
  gave_core = ap (λ (r : Result). r.core) gave

  pub gave_pages : o.exit.pages ≡ (result (view_of m) k).world.pages
  unfolding view_of body_of
  gave_pages = ap (λ (r : Result). r.world.pages) gave

-- The power_loss theorem for the code.
pub power_loss_in_code : PowerLossInCode
unfolding PowerLossInCode PowerLoss
power_loss_in_code =
    carries_over _ _ power_loss (λ m r h e budget is on took.
    gave_pages m e (restart_end budget) is on
    ∙ h budget (sym (gave_outcome m e (restart_end budget) is on) ∙ took))

-- A list of steps in two parts.
reached_append : (before rest : List EventInCode) (x : RunInCode) → follow_in_code (before ++ rest) x ≡ follow_in_code rest (follow_in_code before x)
unfolding follow_in_code
reached_append [] rest x = refl
reached_append (s ∷ before) rest x = reached_append before rest (after_in_code s x)

linked_append : (before rest : List EventInCode) (x : RunInCode) → AllowedAllInCode (before ++ rest) x → AllowedAllInCode before x × AllowedAllInCode rest (follow_in_code before x)
unfolding AllowedAllInCode follow_in_code
linked_append [] rest x l = (tt, l)
linked_append (s ∷ before) rest x l = let both = linked_append before rest (after_in_code s x) l.1 in ((l.0, both.0), both.1)

-- For each restart end of a list.
pub each_restart_end : EachRestartEnd
unfolding EachRestartEnd PowerLossInCode AlwaysInCode AllowedAllInCode follow_in_code hear
each_restart_end o s f before later e budget l is took =
    let parts = linked_append before (call_in_code e ∷ later) (formatted_in_code o s) l in
    rw (reached_append before (call_in_code e ∷ []) (formatted_in_code o s), is, took)
    (power_loss_in_code o s f before parts.0 e budget is parts.1.0.0 took)

-- A restart begin of a shut store is refused for its number only.
pub restart_accepted_in_code : RestartAcceptedInCode
unfolding RestartAcceptedInCode RestartAccepted view_of core_of
restart_accepted_in_code =
    carries_over _ _ restart_accepted (λ m r h shut b is on. rw (gave_number m b restart_begin is on) (h shut))

-- A restart that was begun can be finished.
pub restart_finishes_in_code : RestartFinishesInCode
unfolding RestartFinishesInCode RestartFinishes view_of core_of
restart_finishes_in_code =
    carries_over _ _ restart_finishes (λ m r h replaying.
    let f = h replaying in
    record {
      steps = λ o source is on some.
          let k : Call = restart_step source in (
            gave_outcome m o k is on ∙ f.steps source some,
            rw (gave_core m o k is on) (f.less source some),
            λ other ne. ap (λ (c : Core). remaining c other) (gave_core m o k is on) ∙ f.others source other ne,
          );
      runs = λ o source most is on.
          let core = gave_core m o (restart_run source most) is on in (
            λ some. gave_outcome m o (restart_run source most) is on ∙ f.runs source most some,
            λ enough. ap (λ (c : Core). remaining c source) core ∙ f.all source most enough,
            λ other ne. ap (λ (c : Core). remaining c other) core ∙ f.beside source most other ne,
          );
      ends = λ e budget is on none enough. gave_outcome m e (restart_end budget) is on ∙ f.ends budget none enough;
    })

-- A run is its steps.
pub run_is_steps_in_code : RunIsStepsInCode
unfolding RunIsStepsInCode RunIsSteps view_of
run_is_steps_in_code m o source most is on =
    let run = run_is_steps (view_of m) source most in
    let got = gave m o (restart_run source most) is on in
    let answers = gave_outcome m o (restart_run source most) is on in (
      answers ∙ run.0,
      λ turned. ap (λ (r : Result). r.answer) (got ∙ run.1 (sym (answers ∙ run.0) ∙ turned)),
      λ took.
          subst (λ (r : Result). RunMakes (view_of m) source most (first_of r.answer) (record { core = r.core; world = r.world })) (sym got)
          (run.2 (sym answers ∙ took)),
    )

-- A backup step takes the next page.
pub backup_steps_in_code : BackupStepsInCode
unfolding BackupStepsInCode BackupSteps view_of core_of
backup_steps_in_code =
    carries_over _ _ backup_steps (λ m r h. (
      λ o is on took. ap (λ (c : Core). c.replay.page) (gave_core m o restart_begin is on) ∙ h.0 (sym (gave_outcome m o restart_begin is on) ∙ took),
      h.1,
    ))

-- What the state says is true.
pub state_true_in_code : StateTrueInCode
unfolding StateTrueInCode StateTrue view_of core_of
state_true_in_code = in_code _ state_true

-- No call finds a malformed record.
pub never_malformed_in_code : NeverMalformedInCode
unfolding NeverMalformedInCode NeverMalformed
never_malformed_in_code =
    carries_over _ _ never_malformed (λ m r h o on seven. h o.call (sym (gave_number m o o.call refl on) ∙ seven))

-- Commit and abort always fit.
pub closing_fits_in_code : ClosingFitsInCode
unfolding ClosingFitsInCode ClosingFits view_of core_of
closing_fits_in_code = in_code _ closing_fits

-- Each disk's words are the records that the calls put there.
pub log_kept_in_code : LogKeptInCode
unfolding LogKeptInCode LogKept view_run
log_kept_in_code =
    each_trace (λ t x. (disk : ℕ) → disk < (sizes_on x.machine.world.anchor).disks → LogOf x.machine t disk) log_kept

-- What an update and an abort answer.
pub ones_told_in_code : OnesToldInCode
unfolding OnesToldInCode OnesTold view_run
ones_told_in_code o s f events l p on =
    let told = each_trace (λ t x. (k : Call) → TellsOnes x t k (result x.machine k).answer) ones_told o s f events l in
    subst (TellsOnes _ _ p.call) (sym (ap (λ (r : Result). r.answer) (gave _ p p.call refl on))) (told p.call)
