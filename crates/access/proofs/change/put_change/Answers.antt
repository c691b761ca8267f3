-- `access::change::put_change` meets its contract: three words, then the difference. Assumes nothing.
use mathlib.Core.Path.{sym, ◌∙◌}
use native.Mathlib.Omega.{arith}
use lib.ListN.{length-set}
use Rattle.access.proofs.Differences.{difference_length, change_put}
use Rattle.access.proofs.change.put_change.Goals as goal

pub difference-requires : goal.difference-requires
difference-requires c =
    let pre = c.requires in
    record {
      value_in_bounds = simp length-set (omega arith);
      value_in_bounds_2 = pre.2;
      value_len_bound = pre.0.width_small;
    }

pub returns : goal.returns
returns c =
    let x = c.args in
    let counted = c.difference.ensures in (
      counted.0 ∙ change_put x.work.now x.to _ x.head _ (sym (difference_length x.at x.value.now x.pages.now c.requires.2)),
      counted.1,
    )
