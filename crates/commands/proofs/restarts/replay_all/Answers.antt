-- `commands::restarts::replay_all` meets its contract: one source after the other.
use Rattle.model.specs.Call.{Gives}
use Rattle.model.proofs.View.Served.{served_gives}
use Rattle.commands.proofs.Replaying.{replayed_through}
use Rattle.commands.proofs.restarts.replay_all.Goals as goal

pub returns : goal.returns
unfolding Gives
returns c =
    let begin = served_gives _ _ _ _ _ _ c.restart_begin-begun.ensures.serves in
    replayed_through _ _ begin c.replay-first.ensures c.replay-second.ensures c.replay.ensures
