-- `listing::columns::put_front` meets its contract: each column in front of those that are there.
use mathlib.Core.Path.{◌∙◌}
use Rattle.listing.proofs.columns.put_front.Goals as goal

pub returns : goal.returns
returns c =
    let disk = c.put_column-2.ensures in
    let after-disk = c.put_run-2.ensures in
    let position = c.put_column.ensures in
    let after-position = c.put_run.ensures in
    let middle = c.put_middle.ensures in
    disk ∙ rw (after-disk, position, after-position, middle)
