-- `listing::call::list_line` meets its contract: the answer by what was found, and of the lines laid the one that there is room for.
use borrow.Author.Tests.{eqb-true, not-false}
use Rattle.model.specs.Listing.{line_after}
use Rattle.listing.proofs.Calling.{answers_refused, leaves_bytes, answers_taken, bytes_right, leaves_line}
use Rattle.listing.proofs.call.list_line.Goals as goal

pub returns-in-Ok : goal.returns-in-Ok
unfolding line_after
returns-in-Ok c =
    let l = c.list.ensures in
    let none = c.in-Ok.is in
    record {
      value = answers_taken _ _ _ _ _ _ _ l none 0;
      out_after = leaves_line _ _ _ _ _ _ _ l none (eqb-true _ _ (not-false _ (bytes_right _ _ _ _ _ _ _ l none)));
    }

pub returns-in-Err : goal.returns-in-Err
unfolding line_after
returns-in-Err c =
    let l = c.list.ensures in
    record {
      value = rw c.answer.ensures (answers_refused _ _ _ _ _ _ _ l c.in-Err.is 0);
      out_after = leaves_bytes _ _ _ _ _ _ _ l c.in-Err.is _;
    }
