-- `abort::difference::difference_at` meets its contract: the words that are copied out of the log, and their bits. Assumes nothing.
use lib.ListN.{replicate}
use native.Mathlib.Omega.{arith}
use Rattle.abort.proofs.Disks.{extent_asked, buffer_asked, lent_lies, lent_to, lent_reader, lent_readable}
use Rattle.abort.proofs.Spans.{take_span}
use Rattle.abort.proofs.difference.difference_at.Goals as goal

pub extent_at-extent-requires : goal.extent_at-extent-requires
extent_at-extent-requires c = extent_asked c.requires.serving

pub buffered-buffer-requires : goal.buffered-buffer-requires
buffered-buffer-requires c = buffer_asked c.requires.serving

pub copy_words_of_log-ones-requires : goal.copy_words_of_log-ones-requires
copy_words_of_log-ones-requires c =
    let pre = c.requires in
    let e = c.buffered-buffer.ensures in
    let x = c.extent_at-extent.ensures in
    record {
      readable = lent_readable pre.serving e _ x (omega arith);
      n_bound = (rw (lent_to pre.serving e _ x) pre.width_bound.0, pre.width_bound.1, pre.width_bound.1);
    }

pub returns : goal.returns
returns c =
    let pre = c.requires in
    let e = c.buffered-buffer.ensures in
    let x = c.extent_at-extent.ensures in
    let copied = c.copy_words_of_log-ones.ensures in
    let words = copied.0 _ _ (lent_lies pre.serving e _ x) in (
      rw (words.0, lent_reader pre.serving e _ x) (take_span (replicate 32 0) _ _ _ (omega (arith, pre.width_bound.1))),
      rw (words.1, lent_reader pre.serving e _ x),
      omega (arith, copied.1, pre.width_bound.1),
    )
