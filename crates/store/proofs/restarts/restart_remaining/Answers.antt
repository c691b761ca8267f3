-- `store::restarts::restart_remaining` meets its contract: what the call answers of the state. Assumes nothing.
use Rattle.store.proofs.restarts.restart_remaining.Goals as goal

pub returns : goal.returns
returns c = rw (← c.carried_of-carried.ensures.value) c.remaining.ensures
