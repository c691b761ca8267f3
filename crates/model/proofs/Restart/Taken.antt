-- What a taken call did, what a refused one left, and what the rows of an accepted one say.
use mathlib.Core.Path.{◌≡◌, refl}
use mathlib.Core.Bool.{Bool, true, false}
use Prim.Native.Nat.{ℕ, ◌-◌}
use native.Mathlib.Omega.{arith}
use Rattle.model.specs.declared.Core.{Core}
use Rattle.model.specs.declared.Answer.TheVariants.{Finished}
use Rattle.model.specs.World.{World, perform, made, finishes}
use Rattle.model.specs.Refusal.{Verdict, accepted, rejected, verdict, Task, conclude}
use Rattle.model.specs.Reference.{taken, outcome_of}
use Rattle.model.specs.Call.{Call, rows_of, task_of, budget_of, result_of}
use Rattle.model.specs.Machine.{Machine}
use Rattle.model.proofs.Run.{finished_run}
use Rattle.model.proofs.Storeless.{stores_nothing, storeless_finishes}

-- A call that was taken: no row applied, its state is the task's, and all its actions were performed.
pub record Taken (k : Call) (c : Core) (w : World) : Type 0 where
  pub accepted : verdict (rows_of k c w) ≡ accepted
  pub core : (result_of k c w).core ≡ (task_of k c w).core
  pub world : (result_of k c w).world ≡ perform (task_of k c w).actions w

concluded : (v : Verdict) (budget : ℕ) (t : Task) (c : Core) (w : World) → outcome_of (conclude v budget t c w).answer ≡ taken
    → (v ≡ accepted) × ((conclude v budget t c w).core ≡ t.core) × ((conclude v budget t c w).world ≡ perform t.actions w)
concluded (rejected number first second) budget t c w e = let z : ◌≡◌ {A = ℕ} 0 1 = cc in absurd (omega arith)
concluded accepted budget t c w e = go (finishes budget t.actions) refl
  where
    go : (b : Bool) → finishes budget t.actions ≡ b
        → (accepted ≡ accepted) × ((conclude accepted budget t c w).core ≡ t.core)
        × ((conclude accepted budget t c w).world ≡ perform t.actions w)
    go true f = (refl, rw f, rw f (finished_run budget t.actions w f))
    go false f = let g = rw f at e in let z : ◌≡◌ {A = ℕ} 0 1 = cc in absurd (omega arith)

pub taken_call : (k : Call) (c : Core) (w : World) → outcome_of (result_of k c w).answer ≡ taken → Taken k c w
unfolding result_of
taken_call k c w e =
    let r = concluded (verdict (rows_of k c w)) (budget_of k) (task_of k c w) c w e in
    record { accepted = r.0; core = r.1; world = r.2 }

-- an accepted call whose budget lasts is taken
pub accepted_taken : (k : Call) (m : Machine) → verdict (rows_of k m.core m.world) ≡ accepted
    → finishes (budget_of k) (task_of k m.core m.world).actions ≡ true → outcome_of (result_of k m.core m.world).answer ≡ taken
unfolding result_of
accepted_taken k m v f = rw (v, f)

-- what an accepted call that stores nothing gives
pub storeless_gives : (k : Call) (c : Core) (w : World) → stores_nothing k ≡ true → verdict (rows_of k c w) ≡ accepted
    → let t : Task = task_of k c w in
    let stores : ℕ = made (budget_of k) t.actions in
    result_of k c w ≡ record { answer = Finished stores t.value; budget = budget_of k - stores; core = t.core; world = perform t.actions w }
unfolding result_of
storeless_gives k c w h v =
    let f = storeless_finishes k c w h in
    rw (v, f, finished_run (budget_of k) (task_of k c w).actions w f)

-- A call that stores nothing is taken, or leaves all as it was.
pub taken_or_left : (P : Core → World → Type 0) (k : Call) (c : Core) (w : World) → stores_nothing k ≡ true
    → P c w → (outcome_of (result_of k c w).answer ≡ taken → P (result_of k c w).core (result_of k c w).world)
    → P (result_of k c w).core (result_of k c w).world
unfolding result_of
taken_or_left P k c w h left done = go (verdict (rows_of k c w)) done
  where
    go : (v : Verdict)
        → (outcome_of (conclude v (budget_of k) (task_of k c w) c w).answer ≡ taken
        → P (conclude v (budget_of k) (task_of k c w) c w).core (conclude v (budget_of k) (task_of k c w) c w).world)
        → P (conclude v (budget_of k) (task_of k c w) c w).core (conclude v (budget_of k) (task_of k c w) c w).world
    go (rejected number first second) done = left
    go accepted done = done (rw (storeless_finishes k c w h))
