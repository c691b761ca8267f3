-- `listing::columns::put_kind` meets its contract: the spaces before the name.
use native.Mathlib.Omega.{arith}
use Rattle.model.specs.Listing.{kind_name}
use Rattle.listing.proofs.Padding.{column_put}
use Rattle.listing.proofs.columns.put_kind.Goals as goal

pub returns : goal.returns
returns c =
    let spaces = c.put_run in
    let name = c.put_name-start in
    column_put spaces.new.out name.new.out c.args.out.now (kind_name c.args.kind) 12 name.result c.args.end (omega arith)
    name.ensures.end_bound.1 (omega arith) name.ensures.out_after spaces.ensures
