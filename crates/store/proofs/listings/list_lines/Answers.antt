-- `store::listings::list_lines` meets its contract: whatever the other slices hold, the answer is the verdict's.
use mathlib.Core.Path.{refl}
use lib.ListN.{length}
use Rattle.model.specs.World.{world_of}
use Rattle.model.specs.Listing.{not_lines}
use Rattle.model.specs.Call.{list_lines}
use Rattle.model.specs.View.{core_of, body_of}
use Rattle.model.proofs.View.Listed.{list_serves}
use Rattle.store.proofs.listings.list_lines.Goals as goal

pub returns : goal.returns
unfolding core_of body_of
returns c =
    let a = c.args in
    let carried = c.carried_of-carried.ensures.value in
    let gave = rw carried at c.list_lines.ensures in
    record {
      by_index = λ pages backups work.
          list_serves (list_lines a.first (length a.out.now)) a.state.carried (world_of a.anchor.now pages backups a.logs.now work)
          (not_lines (length a.out.now)) a.first _ refl gave.value;
      out_value = gave.out_after;
    }
