-- `listing::columns::put_change` meets its contract: each column in front of those that are there, and each has room for all digits.
use native.Mathlib.Omega.{arith}
use mathlib.Core.Path.{◌∙◌}
use Rattle.model.specs.Listing.{in_columns}
use Rattle.model.proofs.Text.{digits_enough}
use Rattle.listing.proofs.columns.put_change.Goals as goal

pub returns : goal.returns
unfolding in_columns
returns c =
    let front = c.put_front.ensures in
    let page = c.put_column-3.ensures in
    let slot = c.put_column-2.ensures in
    let width = c.put_column.ensures in
    let last = c.put_end.ensures in
    front ∙ rw (
      page,
      slot,
      width,
      last,
      digits_enough 1 20 c.args.disk (omega arith) (omega arith) (omega arith),
      digits_enough 3 20 c.args.page (omega arith) (omega arith) (omega arith),
      digits_enough 4 20 c.args.slot (omega arith) (omega arith) (omega arith),
      digits_enough 3 20 c.args.width (omega arith) (omega arith) (omega arith),
    )
