-- `hall::console::feed_line` meets its contract: a line's bytes are read, and the line is run if its end is there.
use native.Mathlib.Omega.{arith}
use Rattle.hall.proofs.Feeding.{line_ends, line_goes_on, piece_some}
use Rattle.hall.proofs.Holding.{piece_read, has_begun}
use Rattle.hall.proofs.console.feed_line.Goals as goal

pub returns-then-end-bytes : goal.returns-then-end-bytes
returns-then-end-bytes c =
    record {
      at_lt_next = (omega arith, omega (arith, c.if-end-bytes.true), omega (arith, c.take_line-console.ensures.fill_bound, c.if-end-bytes.true, c.requires.at_in_bounds, c.requires.at_in_bounds_2));
      by_index = λ handed p s. (
        _,
        c.take_line-console.ensures.by_index handed _ (piece_read _ _ _ handed p s.holds _ _ c.read_piece-partial.ensures),
        line_ends p _ _ _ c.line_length-n.ensures.value (omega (arith, c.requires.at_in_bounds)) c.if-end-bytes.true,
      );
    }

pub returns : goal.returns
returns c =
    record {
      at_lt_next = (c.requires.at_in_bounds, omega arith, omega (arith, c.requires.at_in_bounds, c.requires.at_in_bounds_2));
      by_index = λ handed p s. (
        _,
        record {
          holds = piece_read _ _ _ handed p s.holds _ _ c.read_piece-partial.ensures;
          begun = has_begun p _ (piece_some _ _ _ c.requires.at_in_bounds c.if-end-bytes.false);
        },
        line_goes_on p _ _ _ c.line_length-n.ensures.value c.if-end-bytes.false,
      );
    }
