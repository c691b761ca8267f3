-- `lines::output::put_tally` meets its contract.
use native.Mathlib.Omega.{arith}
use mathlib.Core.Path.{◌∙◌}
use lib.Seq.{drop-length}
use Rattle.lines.proofs.output.put_tally.Goals as goal

pub returns : goal.returns
returns c =
    let word = c.put_text.ensures in
    let two = c.put_two-at.ensures in
    let last = c.put_field-third.ensures in
    record {
      upper_bound = omega arith;
      out_after = (word.out_after ∙ rw (two.out_after, last.out_after, drop-length c.args.out.now));
    }
