-- `hall::formatted` meets its contract: a new state is formatted, with the program's sizes.
use mathlib.Core.Path.{refl}
use Rattle.hall.specs.Running.{sizes}
use Rattle.hall.proofs.Starting.{formatted_anew}
use Rattle.hall.proofs.formatted.Goals as goal

pub returns : goal.returns
unfolding sizes
returns c =
    let whole = formatted_anew _ _ _ _ _ _ c.new_state.ensures.serves refl c.format-called.ensures.serves in
    record {
      work_value = whole.0;
      work_value_2 = whole.1;
    }
