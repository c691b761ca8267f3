-- A list of actions for each number below n, one after the other under one budget.
use mathlib.Core.Path.{◌≡◌, refl}
use mathlib.Core.List.{List}
use mathlib.Core.Bool.{Bool, true, false}
use Prim.Native.Nat.{ℕ, zero, suc, ◌+◌, ◌-◌, ◌<◌}
use native.Mathlib.Omega.{arith}
use native.Mathlib.Nat.{add-zero}
use Rattle.model.specs.Below.{join_below}
use Rattle.model.specs.World.{World, Action}
use Rattle.model.proofs.Below.{join_step}
use Rattle.device.specs.Ran.{Ran}
use Rattle.device.proofs.Memory.{ran_none}
use Rattle.device.proofs.Ran.{ran_then, ran_cut}

module _ (f : ℕ → List Action) where
  pub ran_zero : (budget : ℕ) (w : World) → Ran budget budget (join_below f 0) w w true
  unfolding join_below
  ran_zero budget w = ran_none budget w

  -- one list more
  pub ran_next : {budget rest last : ℕ} {w v u : World} {whole : Bool} (n : ℕ) → Ran budget rest (join_below f n) w v true
      → whole ≡ true → Ran rest last (f n) v u whole → Ran budget last (join_below f (n + 1)) w u true
  ran_next {whole} n before e one = rw (join_step f n, ← e) (ran_then before (f n) refl one)

  -- one that is cut is the last
  cut_below : {budget rest : ℕ} {w v : World} {whole : Bool} (n m : ℕ) → whole ≡ false → Ran budget rest (join_below f n) w v whole
      → Ran budget rest (join_below f (n + m)) w v false
  cut_below n zero e ran = rw (add-zero, ← e) ran
  cut_below n (suc m) e ran =
      let more : n + suc m ≡ n + m + 1 = omega arith in
      rw (more, join_step f (n + m)) (ran_cut (cut_below n m e ran) (f (n + m)) refl)

  pub ran_stop : {budget rest last : ℕ} {w v u : World} {whole : Bool} (n k : ℕ) → k < n → Ran budget rest (join_below f k) w v true
      → whole ≡ false → Ran rest last (f k) v u whole → Ran budget last (join_below f n) w u false
  ran_stop n k h before e one =
      let far : n ≡ k + 1 + (n - (k + 1)) = omega arith in
      rw far (cut_below (k + 1) (n - (k + 1)) e (rw (join_step f k) (ran_then before (f k) refl one)))
