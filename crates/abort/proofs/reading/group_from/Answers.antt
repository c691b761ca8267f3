-- `abort::reading::group_from` meets its contract: the search is lent the ring and the buffered words. Assumes nothing.
use mathlib.Core.Path.{◌≡◌, ap}
use Prim.Native.Nat.{ℕ}
use native.Mathlib.Omega.{arith}
use Rattle.model.specs.declared.Sizes.{Sizes}
use Rattle.model.specs.Sizes.{ring_of}
use Rattle.disk_log.specs.declared.read.Extent.{Extent}
use Rattle.disk_log.specs.Reading.{extent_of}
use Rattle.abort.proofs.Disks.{extent_asked, buffer_asked, bounds, lent_lies, lent_reader, lent_readable}
use Rattle.abort.proofs.reading.group_from.Goals as goal

-- the extent up to another end
up_to : (s : Sizes) (disk tail stop : ℕ) {x : Extent} → x ≡ extent_of s disk tail stop → (to : ℕ)
    → record { place = x.place; ring = x.ring; tail = x.tail; end = to } ≡ extent_of s disk tail to
unfolding extent_of
up_to s disk tail stop e to = ap (λ (y : Extent). record { place = y.place; ring = y.ring; tail = y.tail; end = to }) e

pub extent_at-whole-requires : goal.extent_at-whole-requires
extent_at-whole-requires c = extent_asked c.requires.serving.0

pub buffered-buffer-requires : goal.buffered-buffer-requires
buffered-buffer-requires c = buffer_asked c.requires.serving.0

pub next_updates-requires : goal.next_updates-requires
unfolding ring_of
next_updates-requires c =
    let at = c.requires.serving.0 in
    let e = c.buffered-buffer.ensures in
    let x = up_to c.args.sizes c.args.disk _ _ c.extent_at-whole.ensures c.args.end in (
      lent_readable at e _ x c.requires.serving.1,
      record {
        sizes = c.args.sizes;
        disk = c.args.disk;
        lies = lent_lies at e _ x;
        many = rw (lent_reader at e _ x) c.requires.n_in_bounds;
      },
      omega (arith, (lent_lies at e _ x).same_ring, (bounds at).ring_max),
      c.requires.serving.2,
    )

pub returns : goal.returns
returns c =
    let at = c.requires.serving.0 in
    let e = c.buffered-buffer.ensures in
    let x = up_to c.args.sizes c.args.disk _ _ c.extent_at-whole.ensures c.args.end in
    rw (lent_reader at e _ x) at (c.next_updates.ensures _ _ (lent_lies at e _ x) (rw (lent_reader at e _ x) c.requires.n_in_bounds))
