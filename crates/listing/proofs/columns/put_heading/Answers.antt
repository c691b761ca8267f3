-- `listing::columns::put_heading` meets its contract: the text is as long as the line.
use native.Mathlib.Omega.{arith}
use mathlib.Core.Path.{◌≡◌, ◌∙◌}
use lib.ListN.{drop_of_length-le}
use Rattle.model.specs.Text.{padded}
use Rattle.model.specs.Listing.{in_columns, heading}
use Rattle.listing.proofs.columns.put_heading.Goals as goal

pub returns : goal.returns
unfolding heading in_columns padded
returns c =
    let put = c.put_text in
    let start : put.result ≡ 0 = omega arith in
    rw start at put.ensures.out_after ∙ rw (drop_of_length-le c.args.out.now {i = 73} (omega arith))
