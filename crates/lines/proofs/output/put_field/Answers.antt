-- `lines::output::put_field` meets its contract: the byte, and the number in front of it.
use native.Mathlib.Omega.{arith}
use mathlib.Core.Path.{◌∙◌}
use lib.ListN.{length-set}
use Rattle.text.proofs.Putting.{byte_before}
use Rattle.model.proofs.Text.{digits_most}
use Rattle.lines.proofs.output.put_field.Goals as goal

pub put_number-requires : goal.put_number-requires
put_number-requires c = simp length-set (omega arith, omega arith)

pub shape_of-out : goal.shape_of-out
shape_of-out c = c.out-1.given ∙ simp length-set

pub returns : goal.returns
returns c =
    let number = c.put_number.ensures in
    let few = digits_most 20 c.args.n in
    record {
      end_bound = (omega arith, omega arith);
      out_after = number.out_after ∙ rw (byte_before c.args.out.now c.args.end c.args.after (omega arith) (omega arith));
    }
