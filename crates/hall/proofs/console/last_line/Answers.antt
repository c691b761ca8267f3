-- `hall::console::last_line` meets its contract.
use native.Mathlib.Omega.{arith}
use Rattle.hall.proofs.Feeding.{ended_line, ended_none}
use Rattle.hall.proofs.console.last_line.Goals as goal

pub returns-then-console : goal.returns-then-console
returns-then-console c =
    record {
      fill_bound = c.take_line.ensures.fill_bound;
      by_index = λ handed p s. rw (ended_line p s.begun c.if-console.true) (c.take_line.ensures.by_index handed p s.holds);
    }

pub returns : goal.returns
returns c =
    record {
      fill_bound = omega arith;
      by_index = λ handed p s. rw (ended_none p s.begun c.if-console.false) s;
    }
