-- `hall::serving::answer_input` meets its contract: the lines, then the last one, then the tally.
use native.Mathlib.Omega.{arith}
use Rattle.model.proofs.Booleans.{true_false}
use Rattle.hall.proofs.serving.answer_input.Goals as goal

pub returns-then-failed : goal.returns-then-failed
returns-then-failed c =
    record {
      fill_in_bounds = omega (arith, c.serve-served.ensures.fill_value);
      by_index = λ went. true_false c.if-failed.true went;
    }

pub returns : goal.returns
returns c =
    let last = c.last_line-last in
    let serve = c.serve-served in
    record {
      fill_in_bounds = omega (arith, c.close-closed.ensures.fill_in_bounds);
      by_index = λ went p s.
          let read = serve.ensures.by_index p s in
          (read.0, c.close-closed.ensures.stands _ _ _ (last.ensures.by_index _ _ read.1));
    }
