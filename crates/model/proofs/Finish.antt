-- A restart that was begun can be finished.
use mathlib.Core.Path.{◌≡◌, refl, ap, ◌∙◌}
use mathlib.Core.Bool.{true, false}
use Prim.Native.Nat.{ℕ, ◌+◌, ◌≤◌, ◌<◌}
use native.Mathlib.Omega.{arith}
use native.Mathlib.Decide.{dec_lt}
use lib.Dec.{eqb}
use lib.ListN.{length}
use borrow.Author.Tests.{le-ltb, le-leb, eq-eqb, ne_eqb}
use Rattle.model.specs.declared.Core.{Core}
use Rattle.model.specs.Sizes.{total}
use Rattle.model.specs.Anchor.{anchor_words}
use Rattle.model.specs.World.{World, stores, finishes}
use Rattle.model.specs.State.{sound}
use Rattle.model.specs.Refusal.{verdict, accepted, Result}
use Rattle.model.specs.Causes.{when_replaying, stage_forbids, anchor_wrong, lengths_wrong, source_missing}
use Rattle.model.specs.Reads.{fits_on}
use Rattle.model.specs.Restart.{remaining, restart_step_rows, restart_end_rows, restart_end_task}
use Rattle.model.specs.Call.{Call, restart_step, restart_run, restart_end, result_of}
use Rattle.model.specs.Reference.{taken, outcome_of}
use Rattle.model.specs.Machine.{call, result, outcome}
use Rattle.model.specs.Promise.{Always, RestartFinishes}
use Rattle.model.proofs.Sound.Test.{replay_sound_lem}
use Rattle.model.proofs.KeptBases.{total_kept}
use Rattle.model.proofs.Below.{each_all}
use Rattle.model.proofs.Counts.{restart_end_stores}
use Rattle.model.proofs.Storeless.{storeless_finishes}
use Rattle.model.proofs.Restart.Taken.{accepted_taken, taken_call, taken_or_left}
use Rattle.model.proofs.Restart.Progress.{Progress}
use Rattle.model.proofs.Restart.Steps.{step_source}
use Rattle.model.proofs.Checked.{Restartable}
use Rattle.model.proofs.Remaining.{at_source, task_less, task_others, run_left, run_others, run_empties}
use Rattle.model.proofs.Store.Checks.{step_never_bad}
use Rattle.model.proofs.Store.Holding.{holding_kept, replayed}
use Rattle.model.proofs.Store.Step.{step_call}
use Rattle.model.proofs.Sound.Lists.{event_passes, sound_after}
use Rattle.model.proofs.Sound.Made.{stage_alone}
use Rattle.model.proofs.PowerLoss.{holds_after}

module _ (c : Core) (w : World) (m : Progress c w) (ok : sound c ≡ true) (k : Restartable w) where
  -- the rows that a step, a run and an end share
  stage_right : stage_forbids when_replaying (fits_on (sound c) c w) c ≡ false
  stage_right = stage_alone (restart_step 0) c w ok ∙ rw m.stage

  anchor_right : anchor_wrong w.anchor ≡ false
  unfolding anchor_wrong
  anchor_right = rw (eq-eqb (length w.anchor) anchor_words k.image.long)

  lengths_right_lem : lengths_wrong c.sizes c.bases.total w ≡ false
  unfolding lengths_wrong
  lengths_right_lem = rw (total_kept c (replay_sound_lem c (ap when_replaying m.stage) ok).bases, m.sizes, k.lengths)

  step_accepted : (source : ℕ) → 0 < remaining c source → verdict (restart_step_rows c w source) ≡ accepted
  unfolding verdict restart_step_rows source_missing
  step_accepted source some =
      rw (
        stage_right,
        anchor_right,
        lengths_right_lem,
        step_never_bad c w m source,
        le-ltb c.sizes.disks source (at_source c source some),
        ne_eqb (remaining c source) 0 (λ e. omega arith),
      )

  step_taken : (source : ℕ) → 0 < remaining c source → outcome_of (result_of (restart_step source) c w).answer ≡ taken
  unfolding result_of
  step_taken source some =
      rw (step_accepted source some, storeless_finishes (restart_step source) c w refl)

  step_less : (source : ℕ) → 0 < remaining c source → remaining (result_of (restart_step source) c w).core source < remaining c source
  step_less source some = rw (taken_call (restart_step source) c w (step_taken source some)).core (task_less c w m source some)

  step_others : (source other : ℕ) → (other ≡ source → ⊥) → remaining (result_of (restart_step source) c w).core other ≡ remaining c other
  step_others source other ne =
      taken_or_left (λ (n : Core) (v : World). remaining n other ≡ remaining c other) (restart_step source) c w refl refl
      (λ o. let t = taken_call (restart_step source) c w o in rw t.core (task_others c w source other (step_source c w source t.accepted).0 ne))

  run_taken : (source most : ℕ) → 0 < remaining c source → outcome_of (result_of (restart_run source most) c w).answer ≡ taken
  run_taken source most some =
      accepted_taken (restart_run source most) (record { core = c; world = w }) (step_accepted source some)
      (storeless_finishes (restart_run source most) c w refl)

  run_beside : (source most other : ℕ) → (other ≡ source → ⊥) → remaining (result_of (restart_run source most) c w).core other ≡ remaining c other
  run_beside source most other ne =
      taken_or_left (λ (n : Core) (v : World). remaining n other ≡ remaining c other) (restart_run source most) c w refl refl
      (λ o. rw (taken_call (restart_run source most) c w o).core (run_others c w source most other ne))

  run_progress : (source most : ℕ) → Progress (result_of (restart_run source most) c w).core (result_of (restart_run source most) c w).world
  run_progress source most =
      taken_or_left Progress (restart_run source most) c w refl m
      (λ o. let t = taken_call (restart_run source most) c w o in rw (t.core, t.world) (run_left c w m source most).0)

  run_all : (source most : ℕ) → remaining c source ≤ most
      → (let r : Result = result_of (restart_run source most) c w in
      0 < remaining r.core source → outcome_of (result_of (restart_step source) r.core r.world).answer ≡ taken)
      → remaining (result_of (restart_run source most) c w).core source ≡ 0
  unfolding outcome result
  run_all source most enough on = go (dec_lt 0 (remaining c source)) on
    where
      run : Call
      run = restart_run source most

      go : Dec (0 < remaining c source)
          → (0 < remaining (result_of run c w).core source
          → outcome_of (result_of (restart_step source) (result_of run c w).core (result_of run c w).world).answer ≡ taken)
          → remaining (result_of run c w).core source ≡ 0
      go (yes some) on =
          let t = taken_call run c w (run_taken source most some) in
          rw t.core (run_empties (record { core = c; world = w }) source most m enough (rw (t.core, t.world) at on))
      go (no none) on =
          let zero : remaining c source ≡ 0 = omega arith in
          taken_or_left (λ (n : Core) (v : World). remaining n source ≡ 0) run c w refl zero
          (λ o. absurd ((step_source c w source (taken_call run c w o).accepted).1 zero))

  end_accepted : ((source : ℕ) → source ≤ c.sizes.disks → remaining c source ≡ 0) → verdict (restart_end_rows c w) ≡ accepted
  unfolding verdict restart_end_rows
  end_accepted none =
      rw (
        stage_right,
        anchor_right,
        lengths_right_lem,
        each_all (λ i. eqb (remaining c i) 0) (c.sizes.disks + 1) (λ i h. eq-eqb (remaining c i) 0 (none i (omega arith))),
      )

  end_lasts : (budget : ℕ) → total c.sizes + c.sizes.disks + 1 ≤ budget → finishes budget (restart_end_task c w).actions ≡ true
  unfolding finishes
  end_lasts budget enough = le-leb (stores (restart_end_task c w).actions) budget (omega (arith, restart_end_stores c w, m.lengths.pages))

  end_taken : (budget : ℕ) → ((source : ℕ) → source ≤ c.sizes.disks → remaining c source ≡ 0)
      → total c.sizes + c.sizes.disks + 1 ≤ budget → outcome_of (result_of (restart_end budget) c w).answer ≡ taken
  end_taken budget none enough =
      accepted_taken (restart_end budget) (record { core = c; world = w }) (end_accepted none) (end_lasts budget enough)

-- A restart can be finished: see specs/Promise.antt.
pub restart_finishes : RestartFinishes
unfolding RestartFinishes Always result outcome
restart_finishes m s budget formats events a stage =
    let h = holds_after m s budget formats events a in
    let p = (replayed h (ap when_replaying stage)).progress in
    let passes = sound_after m s budget formats events in
    let ok = passes.1 in
    let k = (holding_kept h).restartable in
    record {
      steps = step_taken _ _ p ok k;
      less = step_less _ _ p ok k;
      others = step_others _ _ p ok k;
      runs = run_taken _ _ p ok k;
      all = λ source most enough.
          run_all _ _ p ok k source most enough
          (step_taken _ _ (run_progress _ _ p ok k source most) (event_passes _ (call (restart_run source most)) passes).1
          (holding_kept (step_call (restart_run source most) _ _ _ h ok refl)).restartable source);
      beside = run_beside _ _ p ok k;
      ends = end_taken _ _ p ok k;
    }
