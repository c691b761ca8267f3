-- From the first checks and the end of a call to what `Gives` says of it.
use mathlib.Core.Path.{◌≡◌, refl}
use mathlib.Core.List.{List, [], ◌∷◌}
use mathlib.Core.Bool.{Bool, true, false, cond, not, ◌&&◌, ◌||◌}
use Prim.Native.Nat.{ℕ, ◌-◌}
use native.Mathlib.Omega.{arith}
use lib.Dec.{eqb}
use lib.ListN.{length}
use Rattle.model.specs.declared.Stage.{Stage}
use Rattle.model.specs.declared.Core.{Core}
use Rattle.model.specs.declared.Answer.TheVariants.{Finished}
use Rattle.model.specs.declared.Reply.{Reply}
use Rattle.model.specs.Anchor.{anchor_words}
use Rattle.model.specs.World.{World, made, finishes}
use Rattle.model.specs.Memory.{lengths_right}
use Rattle.model.specs.State.{new_core, sound}
use Rattle.model.specs.Refusal.{Row, row, Task, accepted, rejected, verdict, conclude}
use Rattle.model.specs.Causes.{stage_forbids, anchor_wrong, lengths_wrong}
use Rattle.model.specs.Reads.{counts_fit, fits_on}
use Rattle.model.specs.Call.{Call, rows_of, task_of, budget_of, result_of, Gives}
use Rattle.model.proofs.Run.{made_le}
use Rattle.device.specs.Ran.{Ran}
use Rattle.layout.specs.Raw.{lengths_are}
use Rattle.layout.proofs.Laws.{lengths_are_lem}
use Rattle.frame.specs.Fits.{counts_within}
use Rattle.frame.specs.Checks.{anchor_refusal, CommonRefusal}
use Rattle.frame.specs.Settle.{refused_with, settled, Concludes}
use Rattle.frame.proofs.Fitting.{counts_here}

-- What the first checks of a call that tests the whole state leave when none applies.
pub record Passed (allowed : Stage → Bool) (c : Core) (w : World) : Type 0 where
  pub stage : allowed c.stage ≡ true
  pub state : sound c ≡ true
  pub anchor : length w.anchor ≡ anchor_words
  pub lengths : lengths_right c.sizes c.bases.total w ≡ true

-- rows 1, 2 and 5 by their tests, in the order in which these are made
abbrev number_by : (stage counts right state anchor : Bool) → ℕ
number_by stage counts right state anchor = cond stage (cond counts (cond right (cond state (cond anchor 0 2) 1) (cond anchor 5 2)) 1) 1

by_tests : (stage counts right state anchor : Bool) (rest : List Row)
    → verdict (row 1 (not (stage && (counts && (not right || state)))) ∷ row 2 (not anchor) ∷ row 5 (not right) ∷ rest)
    ≡ cond (eqb (number_by stage counts right state anchor) 0) (verdict rest) (rejected (number_by stage counts right state anchor) 0 0)
unfolding verdict
by_tests false counts right state anchor rest = refl
by_tests true false right state anchor rest = refl
by_tests true true false state true rest = refl
by_tests true true false state false rest = refl
by_tests true true true false anchor rest = refl
by_tests true true true true true rest = refl
by_tests true true true true false rest = refl

-- The first lines of a call, by what each test came to.
module _ (allowed : Stage → Bool) (c : Core) (w : World) where
  decided : {r : ℕ} → r ≡ number_by (allowed c.stage) (counts_fit c) (lengths_right c.sizes c.bases.total w) (sound c) (eqb (length w.anchor) anchor_words)
      → CommonRefusal allowed c w r
  unfolding stage_forbids fits_on anchor_wrong lengths_wrong
  decided e =
      record {
        decides = λ rest.
            rw e (by_tests (allowed c.stage) (counts_fit c) (lengths_right c.sizes c.bases.total w) (sound c) (eqb (length w.anchor) anchor_words) rest);
      }

  pub stage_refused : allowed c.stage ≡ false → CommonRefusal allowed c w 1
  stage_refused stage = decided (rw stage refl)

  module _ (stage : allowed c.stage ≡ true) where
    pub counts_refused : counts_within c.sizes.pages c.sizes.disks c.sizes.ring c.bases.total ≡ false → CommonRefusal allowed c w 1
    counts_refused counts = decided (rw (stage, ← counts_here c, counts) refl)

    module _ (counts : counts_within c.sizes.pages c.sizes.disks c.sizes.ring c.bases.total ≡ true) {right : Bool}
        (lengths : right ≡ lengths_are c.sizes.disks c.sizes.ring c.bases.total (length w.pages) (length w.backups) (length w.logs) (length w.work))
      where
        pub lengths_refused : right ≡ false → {r : ℕ} → r ≡ anchor_refusal (length w.anchor) 5 → CommonRefusal allowed c w r
        unfolding anchor_refusal
        lengths_refused wrong e = decided (rw (stage, ← counts_here c, counts, ← lengths_are_lem c.sizes c.bases.total w, ← lengths, wrong) e)

        pub state_refused : right ≡ true → sound c ≡ false → CommonRefusal allowed c w 1
        state_refused long state = decided (rw (stage, ← counts_here c, counts, ← lengths_are_lem c.sizes c.bases.total w, ← lengths, long, state) refl)

        pub anchor_asked : right ≡ true → sound c ≡ true → {r : ℕ} → r ≡ anchor_refusal (length w.anchor) 0 → CommonRefusal allowed c w r
        unfolding anchor_refusal
        anchor_asked long state e = decided (rw (stage, ← counts_here c, counts, ← lengths_are_lem c.sizes c.bases.total w, ← lengths, long, state) e)

-- A refusal gives what its row says.
pub refusal_given : (k : Call) (c : Core) (w : World) (number first second : ℕ)
    → verdict (rows_of k c w) ≡ rejected number first second → Gives k c w (refused_with c number first second) (budget_of k) w
unfolding Gives result_of
refusal_given k c w number first second e = rw e refl

-- A call that no row refuses does its task.
pub task_given : (k : Call) (c : Core) (w v : World) (rest : ℕ) (r : Reply) → verdict (rows_of k c w) ≡ accepted
    → Concludes (budget_of k) rest (task_of k c w) w v r → Gives k c w r rest v
unfolding Gives result_of Concludes
task_given k c w v rest r e did = rw e did

-- A task that has run under a budget, settled.
pub task_settled : {budget rest : ℕ} {w v : World} {whole : Bool} {r : Reply} {core : Core} (task : Task)
    → Ran budget rest task.actions w v whole → r ≡ settled whole budget rest task.value core
    → (whole ≡ true → core ≡ task.core) → Concludes budget rest task w v r
unfolding Concludes
task_settled {budget} {rest} {w} {v} {whole} {core} task ran e same = rw e (go whole ran.finished same)
  where
    spent : budget - rest ≡ made budget task.actions
    spent = omega (arith, ran.left, made_le budget task.actions)

    go : (b : Bool) → b ≡ finishes budget task.actions → (b ≡ true → core ≡ task.core)
        → record { answer = (settled b budget rest task.value core).answer; budget = rest; core = (settled b budget rest task.value core).core; world = v }
        ≡ conclude accepted budget task new_core w
    go true f k = rw (← f, spent, k refl, ran.left, ran.world)
    go false f k = rw (← f, spent, ran.left, ran.world)

-- A task without actions needs no budget.
pub task_storeless : (task : Task) (w : World) → task.actions ≡ [] → Concludes 0 0 task w w (record { answer = Finished 0 task.value; core = task.core })
unfolding Concludes finishes made Rattle.model.specs.World.run Rattle.model.specs.World.perform Rattle.model.specs.World.covered Rattle.model.specs.World.stores
task_storeless task w e = rw e refl
