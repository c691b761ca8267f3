-- `abort::difference::site_at` meets its contract: the fields of the word that is read. Assumes nothing.
use mathlib.Core.Path.{refl}
use native.Mathlib.Omega.{arith}
use Rattle.abort.specs.Undo.{site_at}
use Rattle.abort.proofs.Disks.{extent_asked, buffer_asked, lent_lies, lent_to, lent_reader, lent_readable}
use Rattle.abort.proofs.difference.site_at.Goals as goal

pub extent_at-extent-requires : goal.extent_at-extent-requires
extent_at-extent-requires c = extent_asked c.requires.0

pub buffered-buffer-requires : goal.buffered-buffer-requires
buffered-buffer-requires c = buffer_asked c.requires.0

pub read_word-w-requires : goal.read_word-w-requires
read_word-w-requires c =
    let pre = c.requires in
    let e = c.buffered-buffer.ensures in
    let x = c.extent_at-extent.ensures in
    let to = lent_readable pre.0 e _ x (omega arith) in
    (to.ring_pos, to.ring_fits, omega (arith, pre.1, lent_to pre.0 e _ x, to.end_le))

pub returns : goal.returns
unfolding site_at
returns c =
    let e = c.buffered-buffer.ensures in
    let x = c.extent_at-extent.ensures in
    rw (c.read_word-w.ensures _ _ (lent_lies c.requires.0 e _ x), lent_reader c.requires.0 e _ x) refl
