-- `run::fault::first_fate` meets its contract: a run of no step keeps the memory, which is new.
use native.Mathlib.Omega.{arith}
use Rattle.run.proofs.Memory.{remembers_begun}
use Rattle.run.proofs.fault.first_fate.Goals as goal

pub search_ahead-requires : goal.search_ahead-requires
search_ahead-requires c = let pre = c.requires in (omega (arith, pre.0), pre.1, pre.2)

pub returns-then-most-eq0 : goal.returns-then-most-eq0
returns-then-most-eq0 c = λ s e. (c.fate_in_ring.ensures s e, remembers_begun c.requires.0 _)

pub returns : goal.returns
returns c =
    λ s e. c.search_ahead.ensures s e (λ i l x. absurd (omega (arith, l, c.requires.0))) (remembers_begun c.requires.0 _)
