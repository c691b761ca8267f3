-- `replay::ring::page_bases` meets its contract. The loop keeps: the pages passed begin where they should, and the sum is that of their
-- words. Assumes nothing.
use Prim.Native.Nat.{◌*◌}
use mathlib.Core.Path.{refl}
use native.Mathlib.Omega.{arith}
use lib.ListN.{get_or, length-set}
use Rattle.model.specs.Below.{sum_below}
use Rattle.model.specs.Sizes.{slots_in, width_in, page_words, page_base}
use Rattle.model.proofs.Below.{sum_step}
use Rattle.replay.proofs.Runs.{sums_more}
use Rattle.replay.proofs.ring.page_bases.Goals as goal

pub loop-i-init : goal.loop-i-init
unfolding sum_below
loop-i-init c = (refl, omega arith, refl, λ page h. absurd (omega arith))

pub loop-i-preserved : goal.loop-i-preserved
loop-i-preserved c =
    let inv = c.loop-i.invariant in
    let s = c.args.sizes in (
      simp length-set inv.0,
      omega arith,
      rw (sum_step, c.words_in_slots-words.ensures, inv.2),
      sums_more (λ p. get_or s.slots p 0 * get_or s.widths p 0) c.loop-i.bases c.loop-i.i c.loop-i.sum (omega arith) inv.2 inv.3,
    )

pub returns : goal.returns
unfolding page_base page_words slots_in width_in
returns c =
    let inv = c.loop-i.invariant in
    (inv.0, λ page h. inv.3 page (omega arith))
