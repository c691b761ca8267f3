-- A restart step on a state in two parts: what its functions rely on, and what they give.
use Rattle.std.specs.Prelude.{◌≡◌, List, true, ℕ, ◌*◌, length, Result, Ok, Err}
use Rattle.model.specs.declared.Core.{Core}
use Rattle.model.specs.declared.Carried.{Carried}
use Rattle.model.specs.declared.Handed.{Handed}
use Rattle.model.specs.declared.Reply.{Reply}
use Rattle.model.specs.Sizes.{total}
use Rattle.model.specs.World.{World}
use Rattle.model.specs.Refusal.{verdict, conclude}
use Rattle.model.specs.Restart.{moved_to, restart_step_task}
use Rattle.model.specs.View.{own_work, core_of, body_of, given_by}
use Rattle.frame.specs.Settle.{refused_with}
use Rattle.replay.specs.Step.{Replays, OnLog, finished, step_rest}

-- the work memory is that of a state, and a step of a log may be made
pub record OnDisk (h : Carried) (disk : ℕ) (pages logs work : List ℕ) : Type 0 where
  pub own : own_work h work ≡ true
  pub on : OnLog (core_of h work) disk pages logs

-- of the backup
pub record OnBackup (h : Carried) (pages backups work : List ℕ) : Type 0 where
  pub own : own_work h work ≡ true
  pub replays : Replays (core_of h work)
  pub page_words_lem : length pages ≡ total (core_of h work).sizes
  pub backup_words : length backups ≡ 2 * total (core_of h work).sizes

-- what a record comes to: it is malformed, or so is one that is read ahead; or the log goes on behind it
abbrev pub taken_by : Core → ℕ → Result ℕ ℕ → Reply
taken_by c disk (Ok next) = finished (moved_to c disk next)
taken_by c disk (Err malformed) = refused_with c 7 disk malformed

-- What a step gives once its first rows have passed.
unfoldable pub StepsTo : Carried → World → (source : ℕ) → Handed → World → Type 0
StepsTo h w source r v =
    record { answer = r.answer; budget = 0; carried = r.carried; world = v }
    ≡ given_by
    (conclude (verdict (step_rest (core_of h w.work) (body_of w) source)) 0 (restart_step_task (core_of h w.work) (body_of w) source) (core_of h w.work) (body_of w))
    w.work
