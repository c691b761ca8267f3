-- "restart (source 0 to its end, then 1, then the backup, then the end)"; "A restart line stops at its first refusal."
use Rattle.std.specs.Prelude.{ℕ, Bool, true, false, cond, eqb}
use Rattle.model.specs.declared.Core.{Core}
use Rattle.model.specs.declared.Answer.{Answer}
use Rattle.model.specs.declared.Answer.TheVariants.{Finished, Refused, Interrupted}
use Rattle.model.specs.World.{World}
use Rattle.model.specs.Refusal.{Result}
use Rattle.model.specs.Restart.{remaining}
use Rattle.model.specs.Call.{restart_begin, restart_run, restart_end, result_of}
use Rattle.model.specs.View.{core_of, body_of}
use Rattle.store.specs.declared.Called.{Called}

abbrev pub is_finished : Answer → Bool
is_finished (Finished stores value) = true
is_finished (Refused number first second) = false
is_finished (Interrupted stores) = false

-- To its end, by one run: as many steps as words or pages remain of a source are enough (`all` of model's `Finishable`). A source with
-- nothing left is passed over, and a call that was refused stays the last.
unfoldable pub to_end : (source : ℕ) → Result → Result
to_end source r =
    cond (is_finished r.answer)
    (cond (eqb (remaining r.core source) 0) r (result_of (restart_run source (remaining r.core source)) r.core r.world))
    r

-- the pages as the logs and the backup give them; the program's store has two disks, so source 2 is the backup
unfoldable pub replayed_all : Core → World → Result
replayed_all c w = to_end 2 (to_end 1 (to_end 0 (result_of restart_begin c w)))

-- the last of the calls: only it makes stores
unfoldable pub restarted_all : Core → World → Result
restarted_all c w =
    let r : Result = replayed_all c w in
    cond (is_finished r.answer) (result_of (restart_end 18446744073709551615) r.core r.world) r

-- A call of the code that stores nothing, with the words that it left, as the definitions see both.
abbrev pub given : Called → World → Result
given called w = record { answer = called.answer; budget = 0; core = core_of called.state.carried w.work; world = body_of w }
