-- `layout::bases::bases_right` meets its contract. The loop keeps: the pages passed begin where they should, and the sum is that of their
-- words, at most 128 each. Assumes nothing.
use mathlib.Core.Path.{◌≡◌, refl}
use native.Mathlib.Omega.{arith}
use lib.Dec.{eqb}
use Rattle.model.specs.Below.{sum_below}
use Rattle.model.specs.Sizes.{slots_in, width_in, page_words, page_base, total}
use Rattle.model.proofs.Below.{sum_step, all_none, all_done}
use Rattle.layout.proofs.Pages.{page_small, bases_tested, base_more, base_wrong}
use Rattle.layout.proofs.bases.bases_right.Goals as goal

pub loop-i-init : goal.loop-i-init
unfolding sum_below
loop-i-init c = (omega arith, refl, all_none _)

pub returns-then-pages-i : goal.returns-then-pages-i
unfolding page_base page_words slots_in width_in
returns-then-pages-i c =
    let x = c.args in
    base_wrong x.bases.pages (page_base x.sizes) c.loop-i.i c.loop-i.invariant.1 (eqb x.bases.total (total x.sizes)) (omega arith) c.if-pages-i.true

pub overflow_add-sum : goal.overflow_add-sum
unfolding page_words slots_in width_in
overflow_add-sum c =
    omega (arith, c.words_in_slots-sum.ensures, page_small c.args.sizes c.requires c.loop-i.i (omega arith))

pub loop-i-preserved : goal.loop-i-preserved
unfolding page_base page_words slots_in width_in
loop-i-preserved c =
    let inv = c.loop-i.invariant in
    let small = page_small c.args.sizes c.requires c.loop-i.i (omega arith) in (
      omega (arith, c.words_in_slots-sum.ensures, small),
      rw (sum_step, c.words_in_slots-sum.ensures, inv.1),
      base_more c.args.bases.pages (page_base c.args.sizes) c.loop-i.i inv.1 inv.2 c.if-pages-i.false,
    )

pub returns : goal.returns
unfolding page_base page_words slots_in width_in
returns c =
    let inv = c.loop-i.invariant in
    let last : c.loop-i.i ≡ 64 = omega arith in
    let sum : c.loop-i.sum ≡ page_base c.args.sizes 64 = rw last at inv.1 in
    bases_tested c.args.sizes c.requires sum _ _ (all_done _ 64 c.loop-i.i (omega arith) (omega arith) inv.2)
