-- `access::change::log_and_set` meets its contract: cut, or whole and then the slot set. Assumes nothing.
use Rattle.device.specs.Ran.{with_slices}
use Rattle.access.proofs.Differences.{replaced_cut, replaced_whole}
use Rattle.access.proofs.change.log_and_set.Goals as goal

pub returns-in_err-changed : goal.returns-in_err-changed
returns-in_err-changed c = λ s l w lent same owned.
    let x = c.args in
    let logged = rw c.in_err-changed.was at c.log_change.ensures in
    rw (c.from_residual.ensures, ← same)
    (replaced_cut s l w (with_slices w _ _) x.home.disk x.head x.at x.value.now (rw (← same) at (logged.0 s l w lent)))

pub returns : goal.returns
returns c = λ s l w lent same owned.
    let x = c.args in
    let logged = rw c.in_ok-changed.was at c.log_change.ensures in
    rw (c.set_slot.ensures.0, c.set_slot.ensures.1, owned, ← same)
    (replaced_whole s l w (with_slices w _ _) x.home.disk x.head x.at x.value.now
    (rw (← same) at (logged.0 s l w lent)) (rw (← same) at logged.1))
