-- `format::tails::store_tails` meets its contract: the tails passed are stored. Assumes nothing.
use native.Mathlib.Omega.{arith}
use mathlib.Core.Path.{◌≡◌, refl}
use Rattle.model.specs.Below.{list_below}
use Rattle.model.specs.Sizes.{tail_word}
use Rattle.model.proofs.Bounds.{bounded}
use Rattle.model.proofs.Ring.{disk_within}
use Rattle.device.proofs.Below.{ran_zero, ran_next, ran_stop}
use Rattle.format.specs.Parts.{tail_stores}
use Rattle.format.proofs.Joined.{tail_ran, tail_on, tails_to}
use borrow.Author.Rules.{rules}
use Rattle.format.proofs.tails.store_tails.Goals as goal

pub loop-d-init : goal.loop-d-init
unfolding tails_to
loop-d-init c = (refl, λ a m k work. ran_zero (tail_on c.args.sizes) _ _)

pub disk_at-at-requires : goal.disk_at-at-requires
disk_at-at-requires c =
    let b = bounded _ c.requires.0 in
    (omega (arith, b.disks_max, c.loop-d-test.true), b.ring_max)

pub store_word-requires : goal.store_word-requires
store_word-requires c =
    let s = c.args.sizes in
    omega (arith, disk_within s c.loop-d.d c.loop-d-test.true, c.requires.1, c.loop-d.invariant.0, c.disk_at-at.ensures.0 s refl)

pub returns-then-not-store_word : goal.returns-then-not-store_word
unfolding tail_stores tail_word list_below tails_to
returns-then-not-store_word c =
    let s = c.args.sizes in
    λ a m k work.
    ran_stop (tail_on s) s.disks c.loop-d.d c.loop-d-test.true (c.loop-d.invariant.1 a m k work) (c.if-not-store_word.true)
    (rw (c.disk_at-at.ensures.0 s refl) at (tail_ran a m k work c.store_word.ensures))

pub loop-d-preserved : goal.loop-d-preserved
unfolding tails_to
loop-d-preserved c =
    let s = c.args.sizes in (
      search rules,
      λ a m k work.
          ran_next (tail_on s) c.loop-d.d (c.loop-d.invariant.1 a m k work) (c.if-not-store_word.false)
          (rw (c.disk_at-at.ensures.0 s refl) at (tail_ran a m k work c.store_word.ensures)),
    )

pub returns : goal.returns
unfolding tail_stores tail_word list_below tails_to
returns c =
    let last : c.loop-d.d ≡ c.args.sizes.disks = omega arith in
    λ a m k work. rw last at (c.loop-d.invariant.1 a m k work)
