-- `listing::call::list_lines` meets its contract: the answer by what was found, and as many lines as there is room for.
use native.Mathlib.Omega.{arith}
use Rattle.model.specs.Listing.{lines_after}
use Rattle.listing.proofs.Calling.{answers_refused, leaves_bytes, answers_taken, leaves_lines, line_there, lines_counted, lines_told}
use Rattle.listing.proofs.call.list_lines.Goals as goal

pub overflow_sub-lines : goal.overflow_sub-lines
overflow_sub-lines c = omega (arith, line_there _ _ _ _ _ _ _ c.list.ensures c.in-Ok.is)

pub returns-in-Ok : goal.returns-in-Ok
unfolding lines_after
returns-in-Ok c =
    let l = c.list.ensures in
    let none = c.in-Ok.is in
    record {
      value = lines_told (answers_taken _ _ _ _ _ _ _ l none _) (omega (arith, lines_counted _ _ _ _ _ _ _ l none));
      out_after = leaves_lines _ _ _ _ _ _ _ l none;
    }

pub returns-in-Err : goal.returns-in-Err
unfolding lines_after
returns-in-Err c =
    let l = c.list.ensures in
    record {
      value = rw c.answer.ensures (answers_refused _ _ _ _ _ _ _ l c.in-Err.is _);
      out_after = leaves_bytes _ _ _ _ _ _ _ l c.in-Err.is _;
    }
