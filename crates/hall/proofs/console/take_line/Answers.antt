-- `hall::console::take_line` meets its contract: the line that is read is run, counted and shown.
use native.Mathlib.Omega.{arith}
use Rattle.hall.proofs.Holding.{line_run}
use Rattle.hall.proofs.console.take_line.Goals as goal

pub add_line-fill-requires : goal.add_line-fill-requires
add_line-fill-requires c = omega (arith, c.requires)

pub returns : goal.returns
returns c =
    record {
      fill_bound = omega (arith, c.add_line-fill.ensures.upper_bound);
      by_index = λ handed p h. line_run _ _ _ handed p h _ _
          c.command_of-command.ensures
          c.run-done.ensures
          c.one_more-line.ensures
          (rw c.answer_of.ensures at c.count.ensures)
          c.add_line-fill.ensures.out_after
          c.start.ensures;
    }
