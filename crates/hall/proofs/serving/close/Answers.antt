-- `hall::serving::close` meets its contract: the tally is added.
use native.Mathlib.Omega.{arith}
use mathlib.Core.Path.{◌≡◌}
use lib.ListN.{length, take}
use Rattle.hall.proofs.Gathering.{text_short, text_added}
use Rattle.hall.proofs.Holding.{tally_added}
use Rattle.hall.proofs.serving.close.Goals as goal

pub returns : goal.returns
returns c =
    let text = c.put_tally-at in
    let small : length text.new.out ≡ 84 = text.auto.out in
    record {
      fill_in_bounds = omega (arith, c.add-fill.ensures.value, text_short text.new.out text.result (omega (arith, small)), c.requires);
      stands = λ w handed p s. tally_added _ w _ handed p s _ (text_added text.new.out text.result (omega (arith, small)) (take c.args.console.fill c.args.out.now) _ text.ensures.out_after c.add-fill.ensures.out_after);
    }
