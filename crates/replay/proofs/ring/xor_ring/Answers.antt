-- `replay::ring::xor_ring` meets its contract: in one run, or in two around the ring's end. Assumes nothing.
use native.Mathlib.Omega.{arith}
use Rattle.replay.proofs.Runs.{xor_run, xor_round}
use Rattle.replay.proofs.ring.xor_ring.Goals as goal

pub returns-then-n-run : goal.returns-then-n-run
returns-then-n-run c =
    let pre = c.requires in
    xor_run _ _ _ _ _ (omega (arith, c.if-n-run.true, pre.0)) c.xor_in.ensures

pub returns : goal.returns
returns c =
    let pre = c.requires in
    xor_round _ _ _ _ _ pre.0 (omega (arith, c.if-n-run.false, pre.0)) pre.1 pre.2
    c.xor_in-2.ensures c.xor_in-3.ensures
