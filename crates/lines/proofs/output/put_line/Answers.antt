-- `lines::output::put_line` meets its contract.
use native.Mathlib.Omega.{arith}
use mathlib.Core.Path.{◌∙◌}
use lib.Seq.{drop-length}
use Rattle.lines.proofs.output.put_line.Goals as goal

pub returns : goal.returns
returns c =
    let front = c.put_two.ensures in
    let back = c.put_two-at.ensures in
    record {
      upper_bound = omega arith;
      out_after = (front.out_after ∙ rw (back.out_after, drop-length c.args.out.now));
    }
