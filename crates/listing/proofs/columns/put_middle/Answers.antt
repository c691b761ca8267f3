-- `listing::columns::put_middle` meets its contract: each column in front of those that are there.
use mathlib.Core.Path.{◌∙◌}
use Rattle.listing.proofs.columns.put_middle.Goals as goal

pub returns : goal.returns
returns c =
    let kind = c.put_kind.ensures in
    let spaces = c.put_run.ensures in
    let number = c.put_column.ensures in
    kind ∙ rw (spaces, number)
