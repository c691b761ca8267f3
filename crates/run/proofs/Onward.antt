-- A run, a step at a time: it goes on after a step that is taken, and stops before one that is refused.
use Rattle.std.specs.Prelude.{None}
use mathlib.Core.Path.{◌≡◌, refl, sym, ap, ◌∙◌}
use mathlib.Core.List.{List, []}
use mathlib.Core.Bool.{true}
use Prim.Native.Nat.{ℕ, zero, suc, ◌+◌, ◌≤◌, ◌<◌}
use native.Mathlib.Omega.{arith}
use native.Mathlib.Numerals.{add-one}
use lib.ListN.{length}
use borrow.Author.Tests.{eq-eqb, ne_eqb, le-ltb}
use Rattle.model.specs.declared.Core.{Core}
use Rattle.model.specs.declared.Reply.{Reply}
use Rattle.model.specs.World.{World, Action, perform, finishes}
use Rattle.model.specs.Refusal.{Verdict, accepted, rejected, verdict, Task, Result, conclude}
use Rattle.model.specs.Causes.{stage_forbids, anchor_wrong, lengths_wrong, source_missing}
use Rattle.model.specs.Restart.{remaining, step_fault, restart_step_rows, restart_step_task, step_then, restart_run_task}
use Rattle.model.specs.Call.{restart_step, restart_run, result_of, Gives}
use Rattle.model.proofs.Run.{perform_append, finished_run}
use Rattle.model.proofs.Tested.{reads_pass}
use Rattle.model.proofs.Storeless.{nothing_stored, storeless_finishes}
use Rattle.frame.specs.Settle.{refused_with, finished_with}
use Rattle.replay.specs.Step.{finished, step_rest, StepsOn}
use Rattle.run.specs.Run.{RunsOn, Passes, RanOn, Onward}
use Rattle.replay.proofs.Storeless.{nothing_spent}

-- the first rows have passed: the others decide
pub rest_decides : {c : Core} {w : World} → Passes c w → (source : ℕ) → verdict (restart_step_rows c w source) ≡ verdict (step_rest c w source)
unfolding restart_step_rows step_rest verdict stage_forbids anchor_wrong lengths_wrong
rest_decides {c} {w} pass source =
    let r = pass.replays in
    rw (r.stage, reads_pass (restart_step source) c w r.state r.stage, eq-eqb (length w.anchor) _ pass.anchor, pass.lengths)

-- what a step says of its rows and its task
module _ (c : Core) (w : World) (source : ℕ) where
  pub taken_accepted : {k : Core} {v : World} → StepsOn c w source (finished k) v
      → (verdict (step_rest c w source) ≡ accepted) × ((restart_step_task c w source).core ≡ k) × (perform (restart_step_task c w source).actions w ≡ v)
  unfolding StepsOn
  taken_accepted {k} {v} did = go (verdict (step_rest c w source)) refl did
    where
      task : Task
      task = restart_step_task c w source

      free : finishes 0 task.actions ≡ true
      free = storeless_finishes (restart_step source) c w refl

      go : (x : Verdict) → verdict (step_rest c w source) ≡ x
          → ◌≡◌ {A = Result} (record { answer = (finished k).answer; budget = 0; core = k; world = v }) (conclude x 0 task c w)
          → (verdict (step_rest c w source) ≡ accepted) × (task.core ≡ k) × (perform task.actions w ≡ v)
      go accepted e d =
          let same = rw free at d in
          (e, sym (ap (λ (r : Result). r.core) same), sym (finished_run 0 task.actions w free) ∙ sym (ap (λ (r : Result). r.world) same))
      go (rejected number first second) e d =
          let same = ap (λ (r : Result). r.answer) d in
          let z : ◌≡◌ {A = ℕ} 0 1 = cc in
          absurd (omega arith)

  pub refused_rejected : (number first second : ℕ) (k : Core) (v : World) → StepsOn c w source (refused_with k number first second) v
      → verdict (step_rest c w source) ≡ accepted → ⊥
  unfolding StepsOn
  refused_rejected number first second k v did e =
      let free : finishes 0 (restart_step_task c w source).actions ≡ true = storeless_finishes (restart_step source) c w refl in
      let same = ap (λ (r : Result). r.answer) (rw (e, free) at did) in
      let z : ◌≡◌ {A = ℕ} 0 1 = cc in
      omega arith

-- A run.
module _ (source most : ℕ) (c : Core) (w : World) where
  pub onward_none : Onward source most c w 0 most c w
  onward_none = record { value = omega arith; core = refl; world = refl }

  module _ {made : ℕ} {k : Core} {v : World} where
    pub onward_step : {left more : ℕ} {next : Core} {after : World} → left ≡ more + 1 → Onward source most c w made left k v → Passes k v
        → StepsOn k v source (finished next) after → Onward source most c w (made + 1) more next after
    unfolding restart_run_task
    onward_step {more} {next} {after} e o pass did =
        let step = taken_accepted k v source did in
        let here : verdict (restart_step_rows k v source) ≡ accepted = rest_decides pass source ∙ step.0 in
        let one : restart_run_task (suc more) k v source ≡ step_then accepted (restart_step_task k v source) (λ c' w'. restart_run_task more c' w' source) k v =
        ap (λ (x : Verdict). step_then x (restart_step_task k v source) (λ c' w'. restart_run_task more c' w' source) k v) here in
        let on = rw (e, add-one) at o in
        record {
          value = on.value ∙ rw (one, step.1, step.2) (omega arith);
          core = on.core ∙ rw (one, step.1, step.2) refl;
          world =
              on.world
              ∙ rw one (perform_append (restart_step_task k v source).actions _ v ∙ rw (step.1, step.2) refl);
        }

    pub onward_most : {left : ℕ} → left ≡ 0 → Onward source most c w made left k v → RanOn source most c w made k v
    unfolding restart_run_task perform
    onward_most e o =
        let on = rw e at o in
        record { value = on.value ∙ (omega arith); core = on.core; world = on.world }

    pub onward_stop : {left : ℕ} (number first second : ℕ) → Onward source most c w made left k v → Passes k v
        → StepsOn k v source (refused_with k number first second) v → RanOn source most c w made k v
    unfolding restart_run_task perform
    onward_stop {left} number first second o pass did = go (verdict (step_rest k v source)) refl left o
      where
        go : (x : Verdict) → verdict (step_rest k v source) ≡ x → (n : ℕ) → Onward source most c w made n k v → RanOn source most c w made k v
        go accepted e n on = absurd (refused_rejected k v source number first second k v did e)
        go (rejected a b d) e zero on = onward_most refl on
        go (rejected a b d) e (suc n) on =
            let none = rest_decides pass source ∙ e in
            let nothing : restart_run_task (suc n) k v source ≡ record { actions = []; core = k; value = 0 } =
            ap (λ (x : Verdict). step_then x (restart_step_task k v source) (λ c' w'. restart_run_task n c' w' source) k v) none in
            record {
              value = on.value ∙ rw nothing (omega arith);
              core = on.core ∙ ap (λ (t : Task). t.core) nothing;
              world = on.world ∙ ap (λ (t : Task). perform t.actions v) nothing;
            }

-- What a run that is not refused gives.
pub run_given : (source most : ℕ) (c : Core) (w : World) {made : ℕ} {k : Core} {v : World} → verdict (step_rest c w source) ≡ accepted
    → RanOn source most c w made k v → RunsOn c w source most (finished_with k made) v
unfolding RunsOn finishes
run_given source most c w {made} {k} {v} e ran =
    let none = nothing_stored (restart_run source most) c w refl in
    let actions : List Action = (restart_run_task most c w source).actions in
    rw (e, ← ran.core, ← ran.value)
    (nothing_spent actions (restart_run_task most c w source).core (restart_run_task most c w source).value w v (rw none refl) ran.world)

pub run_refused : (source most : ℕ) (c : Core) (w : World) (number first second : ℕ) → StepsOn c w source (refused_with c number first second) w
    → RunsOn c w source most (refused_with c number first second) w
unfolding RunsOn StepsOn
run_refused source most c w number first second did = go (verdict (step_rest c w source)) refl did
  where
    go : (x : Verdict) → verdict (step_rest c w source) ≡ x
        → ◌≡◌ {A = Result} (record { answer = (refused_with c number first second).answer; budget = 0; core = c; world = w }) (conclude x 0 (restart_step_task c w source) c w)
        → record { answer = (refused_with c number first second).answer; budget = 0; core = c; world = w } ≡ conclude x 0 (restart_run_task most c w source) c w
    go accepted e d = absurd (refused_rejected c w source number first second c w did e)
    go (rejected a b f) e d = d

-- a step that is not refused
pub step_accepted : (source : ℕ) (c : Core) (w : World) → step_fault c w source ≡ None → source ≤ c.sizes.disks → 0 < remaining c source
    → verdict (step_rest c w source) ≡ accepted
unfolding step_rest verdict source_missing
step_accepted source c w e h left =
    rw (e, le-ltb c.sizes.disks source h, ne_eqb (remaining c source) 0 (λ z. omega arith))

-- the call, once its first rows have passed
pub call_given : (source most : ℕ) (c : Core) (w : World) (r : Reply) (v : World) → Passes c w → RunsOn c w source most r v → Gives (restart_run source most) c w r 0 v
unfolding Gives result_of RunsOn
call_given source most c w r v pass did = rw (rest_decides pass source) did
