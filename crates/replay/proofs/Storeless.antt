-- A task that stores nothing is performed whole, and answers no stores.
use mathlib.Core.Path.{◌≡◌}
use mathlib.Core.Bool.{true}
use mathlib.Core.List.{List}
use Prim.Native.Nat.{ℕ, min}
use native.Mathlib.Omega.{arith}
use Rattle.model.specs.declared.Core.{Core}
use Rattle.model.specs.declared.Answer.TheVariants.{Finished}
use Rattle.model.specs.World.{World, Action, perform, stores, made, finishes}
use Rattle.model.specs.Refusal.{Result, spend}
use Rattle.model.proofs.Run.{finished_run}

pub nothing_spent : (actions : List Action) (c : Core) (value : ℕ) (w v : World) → finishes 0 actions ≡ true → perform actions w ≡ v
    → ◌≡◌ {A = Result} (record { answer = Finished 0 value; budget = 0; core = c; world = v })
    (spend (finishes 0 actions) 0 (record { actions = actions; core = c; value = value }) w)
unfolding made
nothing_spent actions c value w v f e =
    let none : min 0 (stores actions) ≡ 0 = omega arith in
    rw (f, finished_run 0 actions w f, e, none)
