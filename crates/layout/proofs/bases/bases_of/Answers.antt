-- `layout::bases::bases_of` meets its contract. The loop keeps: the pages passed begin where they should, and the sum is that of their
-- words, at most 128 each. Assumes nothing.
use Prim.Native.Nat.{◌*◌}
use mathlib.Core.Path.{◌≡◌, refl}
use native.Mathlib.Omega.{arith}
use lib.ListN.{get_or, length-set}
use Rattle.model.specs.Below.{sum_below}
use Rattle.model.specs.Sizes.{slots_in, width_in, page_words, page_base}
use Rattle.model.proofs.Below.{sum_step}
use Rattle.layout.proofs.Pages.{page_small, sums_more, bases_filled}
use Rattle.layout.proofs.bases.bases_of.Goals as goal

pub loop-i-init : goal.loop-i-init
unfolding sum_below
loop-i-init c = (refl, omega arith, refl, λ page h. absurd (omega arith))

pub overflow_add-sum : goal.overflow_add-sum
unfolding page_words slots_in width_in
overflow_add-sum c =
    omega (arith, c.words_in_slots-sum.ensures, page_small c.args.sizes c.requires c.loop-i.i (omega arith))

pub loop-i-preserved : goal.loop-i-preserved
unfolding page_words slots_in width_in
loop-i-preserved c =
    let inv = c.loop-i.invariant in
    let s = c.args.sizes in
    let small = page_small s c.requires c.loop-i.i (omega arith) in (
      simp length-set inv.0,
      omega (arith, c.words_in_slots-sum.ensures, small),
      rw (sum_step, c.words_in_slots-sum.ensures, inv.2),
      sums_more (λ p. get_or s.slots p 0 * get_or s.widths p 0) c.loop-i.pages c.loop-i.i c.loop-i.sum (omega arith) inv.2 inv.3,
    )

pub returns : goal.returns
unfolding page_base page_words slots_in width_in
returns c =
    let inv = c.loop-i.invariant in
    let last : c.loop-i.i ≡ 64 = omega arith in
    let sum : c.loop-i.sum ≡ page_base c.args.sizes 64 = rw last at inv.2 in
    (bases_filled c.args.sizes c.requires sum _ inv.0 (λ page h. inv.3 page (omega arith)), omega arith)
