-- Restart end: its rows, and its stores under a budget.
use mathlib.Core.Path.{◌≡◌, refl}
use mathlib.Core.Bool.{Bool, true, false}
use mathlib.Core.List.{List, ◌++◌, append_assoc}
use Prim.Native.Nat.{ℕ, ◌+◌}
use lib.Dec.{eqb}
use Rattle.model.specs.declared.Core.{Core}
use Rattle.model.specs.declared.Reply.{Reply}
use Rattle.model.specs.Below.{all_below}
use Rattle.model.specs.World.{World}
use Rattle.model.specs.State.{open_core, tail_of}
use Rattle.model.specs.Refusal.{verdict}
use Rattle.model.specs.Causes.{when_replaying}
use Rattle.model.specs.Format.{fresh_memory, fresh_work}
use Rattle.model.specs.Restart.{remaining, restart_end_rows, restart_end_task}
use Rattle.model.specs.Call.{Gives, restart_end}
use Rattle.model.proofs.Booleans.{true_false}
use Rattle.device.specs.Ran.{Ran, with_work}
use Rattle.device.proofs.Memory.{fresh_written}
use Rattle.device.proofs.Ran.{ran_then, ran_cut}
use Rattle.frame.specs.Checks.{CommonRefusal}
use Rattle.frame.specs.Settle.{refused_with, settled, Concludes}
use Rattle.frame.proofs.Verdicts.{task_settled}
use Rattle.frame.proofs.Given.{given_refused, given_task}
use Rattle.replay.specs.Parts.{checkpoint_stores}

module _ (c : Core) (w : World) {budget rest : ℕ} {v : World} {whole : Bool}
    (ran : Ran budget rest (checkpoint_stores c.sizes (c.epoch + 1) c.logs.tails w.pages) w v whole) where
  -- the stores, and then the memory
  listed : (restart_end_task c w).actions
      ≡ checkpoint_stores c.sizes (c.epoch + 1) c.logs.tails w.pages ++ fresh_memory c.sizes (c.epoch + 1)
  unfolding restart_end_task checkpoint_stores tail_of
  listed = simp append_assoc

  pub end_cut : whole ≡ false → (k : Core) {r : Reply} → r ≡ settled false budget rest (c.epoch + 1) k
      → Concludes budget rest (restart_end_task c w) w v r
  unfolding restart_end_task
  end_cut cut k e =
      task_settled {core = k} (restart_end_task c w) (rw listed (ran_cut ran (fresh_memory c.sizes (c.epoch + 1)) cut)) e (λ z. true_false z refl)

  pub end_whole : whole ≡ true → {after : List ℕ} → after ≡ fresh_work c.sizes (c.epoch + 1) v.work
      → {k : Core} → k ≡ open_core c.sizes (c.epoch + 1) c.logs.tails
      → {r : Reply} → r ≡ settled true budget rest (c.epoch + 1) k
      → Concludes budget rest (restart_end_task c w) w (with_work v after) r
  unfolding restart_end_task
  end_whole done fresh opened e =
      task_settled {whole = true} (restart_end_task c w)
      (rw (listed, fresh) (ran_then ran (fresh_memory c.sizes (c.epoch + 1)) done (fresh_written rest c.sizes (c.epoch + 1) v))) e (λ z. opened)

-- What an end gives after the common checks.
module _ {c : Core} {w : World} {n : ℕ} (checks : CommonRefusal when_replaying c w n) (none : n ≡ 0)
    {done : Bool} (all : done ≡ all_below (λ i. eqb (remaining c i) 0) (c.sizes.disks + 1)) (budget : ℕ) where
  pub end_remains : done ≡ false → {reply : Reply} → reply ≡ refused_with c 15 0 0 → Gives (restart_end budget) c w reply budget w
  unfolding restart_end_rows verdict
  end_remains e same = given_refused checks (restart_end budget) refl none (rw (← all, e) refl) same

  pub end_given : done ≡ true → (v : World) (rest : ℕ) (reply : Reply) → Concludes budget rest (restart_end_task c w) w v reply
      → Gives (restart_end budget) c w reply rest v
  unfolding restart_end_rows verdict
  end_given e = given_task checks (restart_end budget) refl none (rw (← all, e) refl)
