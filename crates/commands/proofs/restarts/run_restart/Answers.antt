-- `commands::restarts::run_restart` meets its contract: it ends where the replay was refused, or with the end of the restart.
use mathlib.Core.Path.{sym, ◌∙◌}
use Rattle.commands.specs.Meaning.{command_line}
use Rattle.commands.proofs.Showing.{shows_own}
use Rattle.commands.proofs.Replaying.{restart_refused, restart_ended}
use Rattle.commands.proofs.restarts.run_restart.Goals as goal

pub returns-then-not-is_finished : goal.returns-then-not-is_finished
unfolding command_line
returns-then-not-is_finished c =
    restart_refused _ _ _ c.replay_all-replayed.ensures
    (sym c.is_finished.ensures ∙ c.if-not-is_finished.true)
    c.done_of.ensures.0
    (rw c.done_of.ensures.1)

pub returns : goal.returns
unfolding command_line
returns c =
    restart_ended _ _ _ c.replay_all-replayed.ensures (sym c.is_finished.ensures ∙ c.if-not-is_finished.false)
    (shows_own _ _ _ _ _ _ _ c.restart_end-called.ensures.serves c.done_of-2.ensures.1 (rw c.value_of.ensures at c.done_of-2.ensures.0))
