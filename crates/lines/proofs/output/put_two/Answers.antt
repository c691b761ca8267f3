-- `lines::output::put_two` meets its contract: the second number first.
use native.Mathlib.Omega.{arith}
use mathlib.Core.Path.{◌∙◌}
use Rattle.lines.proofs.output.put_two.Goals as goal

pub returns : goal.returns
returns c =
    let first = c.put_field.ensures in
    let second = c.put_field-at.ensures in
    record {
      end_bound = (omega arith, omega arith);
      out_after = (first.out_after ∙ rw second.out_after);
    }
