-- Scripts of calls, played on a machine: what the computed tables are made of.
use Prim.Native.Nat.{ℕ, zero, suc, ◌+◌, ◌*◌}
use mathlib.Core.List.{List, [], ◌∷◌}
use lib.ListN.{get_or, replicate}
use Rattle.model.specs.declared.Sizes.{Sizes}
use Rattle.model.specs.declared.Core.{Core}
use Rattle.model.specs.declared.Answer.{Answer}
use Rattle.model.specs.Sizes.{total, log_words}
use Rattle.model.specs.World.{World}
use Rattle.model.specs.Memory.{work_words}
use Rattle.model.specs.State.{new_core}
use Rattle.model.specs.Refusal.{Result, number_of}
use Rattle.model.specs.Restart.{remaining}
use Rattle.model.specs.Call.{Call, restart_begin, restart_step, restart_end, new_state, result_of}
use Rattle.model.specs.Machine.{Machine}

-- A step of a script, so that a variant of a call can stand where the call does.
abbrev pub Step : Type 0
Step = Core → World → Result

unfoldable pub does : Call → Step
does k c w = result_of k c w

unfoldable pub play : List Step → Machine → Machine
play [] m = m
play (f ∷ fs) m = let r : Result = f m.core m.world in play fs (record { core = r.core; world = r.world })

-- the number that the step after a script answers
unfoldable pub answers : List Step → Call → Machine → ℕ
answers fs k m = let n : Machine = play fs m in number_of (result_of k n.core n.world).answer

-- what the answer of each step of a script shows
unfoldable pub shows : (Answer → ℕ) → List Step → Machine → List ℕ
shows of [] m = []
shows of (f ∷ fs) m =
    let r : Result = f m.core m.world in
    of r.answer ∷ shows of fs (record { core = r.core; world = r.world })

unfoldable pub numbers : List Step → Machine → List ℕ
unfolding shows
numbers fs m = shows number_of fs m

-- slices of the right lengths that hold no store yet
unfoldable pub unformatted : Sizes → Machine
unformatted s =
    record {
      core = new_core;
      world =
          record {
            anchor = replicate 148 7;
            pages = replicate (total s) 7;
            backups = replicate (2 * total s) 7;
            logs = replicate (log_words s) 7;
            work = replicate (work_words s (total s)) 7;
          };
    }

-- a source stepped to its end, by at most n steps
unfoldable pub drained : ℕ → (ℕ → Step) → ℕ → Machine → Machine
drained zero step source m = m
drained (suc n) step source m =
    elim (remaining m.core source) [ zero ↦ m | suc k ↦ drained n step source (play (step source ∷ []) m) ]

-- a restart from a shut state, as hall's restart line makes it: each log to its end, then the backup, then the end
unfoldable pub restart_by : (ℕ → Step) → ℕ → Machine → Machine
restart_by step budget m =
    let begun : Machine = play (does new_state ∷ does restart_begin ∷ []) m in
    play (does (restart_end budget) ∷ []) (sources (begun.core.sizes.disks + 1) 0 begun)
  where
    sources : ℕ → ℕ → Machine → Machine
    sources zero source m = m
    sources (suc n) source m = sources n (source + 1) (drained 128 step source m)

-- the word of the page memory that a restart gives
unfoldable pub gives : ℕ → Machine → ℕ
gives i m = get_or (restart_by (λ source. does (restart_step source)) 1000 m).world.pages i 99
