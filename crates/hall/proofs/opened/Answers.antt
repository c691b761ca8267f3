-- `hall::opened` meets its contract: a format, and the heading.
use native.Mathlib.Omega.{arith}
use Rattle.hall.proofs.Holding.{console_opened}
use Rattle.hall.proofs.opened.Goals as goal

pub returns : goal.returns
returns c =
    let add = c.add-fill in
    record {
      fill_in_bounds = omega (arith, add.ensures.value, c.requires);
      stands = console_opened _ _ _ c.args.out.now _ (c.formatted-state.ensures.work_value, c.formatted-state.ensures.work_value_2) add.ensures.out_after c.start.ensures;
    }
