-- A call is refused, finished or interrupted, and what each leaves.
use mathlib.Core.Path.{◌≡◌, refl}
use mathlib.Core.Bool.{Bool, true, false}
use Prim.Native.Nat.{ℕ}
use Rattle.model.specs.declared.Core.{Core}
use Rattle.model.specs.declared.Answer.TheVariants.{Refused}
use Rattle.model.specs.World.{World, finishes}
use Rattle.model.specs.Refusal.{Verdict, accepted, rejected, verdict, Task, Result, spend, conclude}
use Rattle.model.specs.Call.{Call, rows_of, task_of, budget_of, result_of}

-- the result of a call whose rows do not apply, as its budget lasts or not
abbrev pub finished_by : ℕ → Task → World → Result
finished_by budget t w = spend true budget t w

abbrev pub cut_by : ℕ → Task → World → Result
cut_by budget t w = spend false budget t w

abbrev pub refused_by : ℕ → ℕ → ℕ → ℕ → Core → World → Result
refused_by budget number first second c w = record { answer = Refused number first second; budget = budget; core = c; world = w }

-- what holds of a refusal, of a finished call and of a cut one holds of the call
pub conclude_cases : (X : Result → Type 0) (v : Verdict) (budget : ℕ) (t : Task) (c : Core) (w : World)
    → ((number first second : ℕ) → v ≡ rejected number first second → X (refused_by budget number first second c w))
    → (v ≡ accepted → finishes budget t.actions ≡ true → X (finished_by budget t w))
    → (v ≡ accepted → finishes budget t.actions ≡ false → X (cut_by budget t w))
    → X (conclude v budget t c w)
conclude_cases X (rejected number first second) budget t c w r f i = r number first second refl
conclude_cases X accepted budget t c w r f i = go (finishes budget t.actions) refl
  where
    go : (b : Bool) → finishes budget t.actions ≡ b → X (spend b budget t w)
    go true e = f refl e
    go false e = i refl e

pub call_cases : (X : Result → Type 0) (k : Call) (c : Core) (w : World)
    → ((number first second : ℕ) → verdict (rows_of k c w) ≡ rejected number first second → X (refused_by (budget_of k) number first second c w))
    → (verdict (rows_of k c w) ≡ accepted → finishes (budget_of k) (task_of k c w).actions ≡ true → X (finished_by (budget_of k) (task_of k c w) w))
    → (verdict (rows_of k c w) ≡ accepted → finishes (budget_of k) (task_of k c w).actions ≡ false → X (cut_by (budget_of k) (task_of k c w) w))
    → X (result_of k c w)
unfolding result_of
call_cases X k c w r f i = conclude_cases X (verdict (rows_of k c w)) (budget_of k) (task_of k c w) c w r f i
