-- What a step relies on, and what it gives once its first rows have passed.
use Rattle.std.specs.Prelude.{◌≡◌, List, [], ◌∷◌, true, ℕ, ◌<◌, eqb, length}
use Rattle.model.specs.declared.Core.{Core}
use Rattle.model.specs.declared.Answer.TheVariants.{Finished}
use Rattle.model.specs.declared.Reply.{Reply}
use Rattle.model.specs.Sizes.{total, log_words}
use Rattle.model.specs.World.{World}
use Rattle.model.specs.State.{sound}
use Rattle.model.specs.Refusal.{Row, row, verdict, conclude}
use Rattle.model.specs.Causes.{when_replaying, fault_row, source_missing}
use Rattle.model.specs.Restart.{remaining, step_fault, restart_step_task}

-- a replaying state that a call made
pub record Replays (c : Core) : Type 0 where
  pub stage : when_replaying c.stage ≡ true
  pub state : sound c ≡ true

-- what a step of a log relies on
pub record OnLog (c : Core) (disk : ℕ) (pages logs : List ℕ) : Type 0 where
  pub replays : Replays c
  pub disk_in : disk < c.sizes.disks
  pub page_words_lem : length pages ≡ total c.sizes
  pub log_words_lem : length logs ≡ log_words c.sizes

-- a call that stores nothing and leaves this state
abbrev pub finished : Core → Reply
finished c = record { answer = Finished 0 0; core = c }

-- rows 7, 8 and 15 of a step
unfoldable pub step_rest : Core → World → ℕ → List Row
step_rest c w source =
    fault_row (step_fault c w source) ∷ row 8 (source_missing c.sizes source) ∷ row 15 (eqb (remaining c source) 0) ∷ []

unfoldable pub StepsOn : Core → World → ℕ → Reply → World → Type 0
StepsOn c w source r v =
    record { answer = r.answer; budget = 0; core = r.core; world = v }
    ≡ conclude (verdict (step_rest c w source)) 0 (restart_step_task c w source) c w
