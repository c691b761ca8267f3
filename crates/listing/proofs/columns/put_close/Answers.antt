-- `listing::columns::put_close` meets its contract: spaces where a change has three columns.
use native.Mathlib.Omega.{arith}
use mathlib.Core.Path.{◌∙◌}
use Rattle.model.specs.Text.{padded}
use Rattle.model.specs.Listing.{in_columns}
use Rattle.model.proofs.Text.{digits_enough}
use Rattle.listing.proofs.columns.put_close.Goals as goal

pub returns : goal.returns
unfolding in_columns padded
returns c =
    let front = c.put_front.ensures in
    let spaces = c.put_run.ensures in
    let last = c.put_end.ensures in
    front ∙ rw (spaces, last, digits_enough 1 20 c.args.disk (omega arith) (omega arith) (omega arith))
