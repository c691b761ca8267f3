-- `hall::serving::flush` meets its contract: nothing waits any more.
use native.Mathlib.Omega.{arith}
use mathlib.Core.Path.{refl, sym}
use lib.Seq.{length-take-le}
use Rattle.hall.proofs.Holding.{all_handed}
use Rattle.hall.proofs.serving.flush.Goals as goal

pub slice_bounds-write_all-end : goal.slice_bounds-write_all-end
slice_bounds-write_all-end c = sym (length-take-le _ _ (omega arith))

pub returns : goal.returns
returns c =
    record {
      fill_value = refl;
      stands = λ w handed p s. all_handed _ w _ handed p s;
    }
