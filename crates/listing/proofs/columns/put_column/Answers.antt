-- `listing::columns::put_column` meets its contract: the spaces before the digits.
use native.Mathlib.Omega.{arith}
use Rattle.model.specs.Text.{last_digits}
use Rattle.model.proofs.Text.{digits_most}
use Rattle.listing.proofs.Padding.{column_put}
use Rattle.listing.proofs.columns.put_column.Goals as goal

pub put_run-requires : goal.put_run-requires
put_run-requires c =
    let few = digits_most c.args.columns c.args.n in
    (omega arith, omega arith)

pub returns : goal.returns
returns c =
    let spaces = c.put_run in
    let number = c.put_number-start in
    column_put spaces.new.out number.new.out c.args.out.now (last_digits c.args.columns c.args.n) c.args.columns number.result
    c.args.end (omega arith) number.ensures.n_value (digits_most c.args.columns c.args.n) number.ensures.out_after spaces.ensures
