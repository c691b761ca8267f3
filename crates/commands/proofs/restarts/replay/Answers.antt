-- `commands::restarts::replay` meets its contract: what came before it was refused, nothing is left, or one run takes what is left.
use mathlib.Core.Path.{sym, ◌∙◌}
use Rattle.model.specs.Call.{Gives}
use Rattle.model.proofs.View.Served.{served_gives}
use Rattle.commands.proofs.Replaying.{end_refused, end_reached, end_run}
use Rattle.commands.proofs.restarts.replay.Goals as goal

pub returns-then-not-is_finished : goal.returns-then-not-is_finished
returns-then-not-is_finished c = sym (end_refused _ _ (sym c.is_finished.ensures ∙ c.if-not-is_finished.true))

pub returns-then-left-eq0 : goal.returns-then-left-eq0
returns-then-left-eq0 c = sym (end_reached _ _ (sym c.restart_remaining-left.ensures ∙ c.if-left-eq0.true))

pub returns : goal.returns
unfolding Gives
returns c =
    let left = c.restart_remaining-left.ensures in
    rw left at (served_gives _ _ _ _ _ _ c.restart_run.ensures.serves)
    ∙ sym (end_run _ _ (sym c.is_finished.ensures ∙ c.if-not-is_finished.false) (λ e. c.if-left-eq0.false (left ∙ e)))
