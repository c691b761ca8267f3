-- `access::change::log_change` meets its contract: behind what is buffered, or after a flush, which may be cut. Assumes nothing.
use mathlib.Core.Path.{sym, ◌∙◌}
use native.Mathlib.Omega.{arith}
use lib.ListN.{length}
use Rattle.model.specs.Word.{xors, part}
use Rattle.model.specs.Record.{encode}
use Rattle.disk_log.specs.Write.{change_of}
use Rattle.disk_log.proofs.Words.{change_size}
use Rattle.disk_log.proofs.Append.{put_fits, put_cut, put_flushed}
use Rattle.access.proofs.Differences.{record_length}
use Rattle.access.proofs.change.log_change.Goals as goal

pub overflow_add-fill : goal.overflow_add-fill
overflow_add-fill c =
    omega (arith, change_size c.requires.1 c.words_of-n.ensures, c.requires.1.width_small, c.requires.0.fill_small)

pub put_change-ones-requires : goal.put_change-ones-requires
put_change-ones-requires c =
    let n = change_size c.requires.1 c.words_of-n.ensures in
    (c.requires.1, omega (arith, n, c.if-fill-n-le64.true, c.requires.0.buffer_within), c.requires.2)

pub returns-then-fill-n-le64 : goal.returns-then-fill-n-le64
returns-then-fill-n-le64 c =
    let x = c.args in
    let words = encode (change_of x.head (xors (part x.at (length x.value.now) x.pages.now) x.value.now)) in
    let long =
    record_length x.at x.value.now x.pages.now c.requires.2 x.head
    ∙ sym (change_size c.requires.1 c.words_of-n.ensures) in
    let put = c.put_change-ones.ensures in (
      λ s l w lent. rw long at (put_fits lent words (omega (arith, long, c.if-fill-n-le64.true)) x.budget.now _ put.0),
      put.1,
    )

pub returns-then-not-flush_disk : goal.returns-then-not-flush_disk
returns-then-not-flush_disk c =
    let x = c.args in
    let words = encode (change_of x.head (xors (part x.at (length x.value.now) x.pages.now) x.value.now)) in
    let long =
    record_length x.at x.value.now x.pages.now c.requires.2 x.head
    ∙ sym (change_size c.requires.1 c.words_of-n.ensures) in (
      λ s l w lent. put_cut lent words (omega (arith, long, c.if-fill-n-le64.false)) (c.flush_disk.ensures s l w lent) (c.if-not-flush_disk.true),
      tt,
    )

pub returns : goal.returns
returns c =
    let x = c.args in
    let words = encode (change_of x.head (xors (part x.at (length x.value.now) x.pages.now) x.value.now)) in
    let long =
    record_length x.at x.value.now x.pages.now c.requires.2 x.head
    ∙ sym (change_size c.requires.1 c.words_of-n.ensures) in
    let put = c.put_change-ones-2.ensures in (
      λ s l w lent. rw long at (put_flushed lent words (omega (arith, long, c.if-fill-n-le64.false)) (c.flush_disk.ensures s l w lent) _ (c.if-not-flush_disk.false) put.0),
      put.1,
    )
