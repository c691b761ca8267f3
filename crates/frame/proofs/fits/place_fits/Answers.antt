-- `frame::fits::place_fits` meets its contract: by cases on the tests; what is above the limit is refused before it is added.
-- Assumes nothing.
use Prim.Native.Nat.{◌+◌}
use mathlib.Core.Path.{refl}
use native.Mathlib.Omega.{arith}
use borrow.Author.Tests.{lt-ltb, le-ltb, lt-leb, le-leb}
use Rattle.model.specs.State.{limit}
use Rattle.frame.specs.Fits.{place_within}
use Rattle.frame.proofs.fits.place_fits.Goals as goal

pub returns-then-disk-disks : goal.returns-then-disk-disks
unfolding place_within
returns-then-disk-disks c = rw (le-ltb _ _ c.if-disk-disks.true) refl

pub returns-then-fill-gt64 : goal.returns-then-fill-gt64
unfolding place_within
returns-then-fill-gt64 c = rw (lt-ltb _ _ c.if-disk-disks.false, lt-leb _ _ c.if-fill-gt64.true) refl

pub returns-then-reserved-lt-CLOSE_WORDS : goal.returns-then-reserved-lt-CLOSE_WORDS
unfolding place_within
returns-then-reserved-lt-CLOSE_WORDS c = rw (lt-ltb _ _ c.if-disk-disks.false, le-leb _ _ c.if-fill-gt64.false, lt-leb _ _ c.if-reserved-lt-CLOSE_WORDS.true) refl

pub returns-then-sum-reserved : goal.returns-then-sum-reserved
unfolding place_within
returns-then-sum-reserved c =
    rw (lt-ltb _ _ c.if-disk-disks.false, le-leb _ _ c.if-fill-gt64.false, le-leb _ _ c.if-reserved-lt-CLOSE_WORDS.false, lt-leb _ _ c.if-sum-reserved.true) refl

pub returns-then-tail-gt-LIMIT : goal.returns-then-tail-gt-LIMIT
unfolding place_within
returns-then-tail-gt-LIMIT c =
    let x = c.args in
    rw (
      lt-ltb _ _ c.if-disk-disks.false,
      le-leb _ _ c.if-fill-gt64.false,
      le-leb _ _ c.if-reserved-lt-CLOSE_WORDS.false,
      le-leb _ _ c.if-sum-reserved.false,
      lt-leb (x.tail + x.fill + x.sum) limit (omega arith),
    )
    refl

pub returns-then-sum-gt-LIMIT : goal.returns-then-sum-gt-LIMIT
unfolding place_within
returns-then-sum-gt-LIMIT c =
    let x = c.args in
    rw (
      lt-ltb _ _ c.if-disk-disks.false,
      le-leb _ _ c.if-fill-gt64.false,
      le-leb _ _ c.if-reserved-lt-CLOSE_WORDS.false,
      le-leb _ _ c.if-sum-reserved.false,
      lt-leb (x.tail + x.fill + x.sum) limit (omega arith),
    )
    refl

pub returns : goal.returns
unfolding place_within
returns c =
    rw (lt-ltb _ _ c.if-disk-disks.false, le-leb _ _ c.if-fill-gt64.false, le-leb _ _ c.if-reserved-lt-CLOSE_WORDS.false, le-leb _ _ c.if-sum-reserved.false) refl
