-- `hall::output::add_line` meets its contract: the line's text is added.
use native.Mathlib.Omega.{arith}
use mathlib.Core.Path.{◌≡◌}
use lib.ListN.{length, take}
use Rattle.hall.proofs.Gathering.{text_short, text_added}
use Rattle.hall.proofs.output.add_line.Goals as goal

pub add-requires : goal.add-requires
add-requires c =
    let text = c.text_of-at in
    let small : length text.new.text ≡ 84 = text.auto.text in
    omega (arith, text_short text.new.text text.result (omega (arith, small)), c.requires)

pub returns : goal.returns
returns c =
    let start = c.args in
    let text = c.text_of-at in
    let small : length text.new.text ≡ 84 = text.auto.text in
    record {
      upper_bound = omega (arith, c.add.ensures.value, text_short text.new.text text.result (omega (arith, small)));
      out_after = text_added text.new.text text.result (omega (arith, small)) (take start.fill start.out.now) _ text.ensures.text_after c.add.ensures.out_after;
    }
