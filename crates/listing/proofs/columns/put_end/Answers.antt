-- `listing::columns::put_end` meets its contract: nothing stands behind the byte.
use native.Mathlib.Omega.{arith}
use mathlib.Core.Path.{◌∙◌}
use lib.ListN.{length-set, drop_of_length-le}
use Rattle.text.proofs.Putting.{byte_put}
use Rattle.listing.proofs.columns.put_end.Goals as goal

pub shape_of-out : goal.shape_of-out
shape_of-out c = simp length-set

pub returns : goal.returns
returns c =
    let l = c.args.out.now in
    byte_put l 72 10 (omega arith) ∙ rw (drop_of_length-le l {i = 73} (omega arith))
