-- `replay::take::xor_page` meets its contract: the page lies within the page memory, and its copy within the backup. Assumes nothing.
use native.Mathlib.Omega.{arith}
use Rattle.model.proofs.Bounds.{bounded}
use Rattle.layout.proofs.Pages.{page_fits, copy_fits}
use Rattle.replay.proofs.take.xor_page.Goals as goal

pub page_base-base-requires : goal.page_base-base-requires
page_base-base-requires c = omega (arith, (bounded _ c.requires.0).pages_max)

pub page_words-n-requires : goal.page_words-n-requires
page_words-n-requires c = omega (arith, (bounded _ c.requires.0).pages_max)

pub backup_at-requires : goal.backup_at-requires
backup_at-requires c = (bounded _ c.requires.0).pages_max

pub xor_in-requires : goal.xor_in-requires
xor_in-requires c =
    let pre = c.requires in
    let base = c.page_base-base.ensures.0 in
    let n = c.page_words-n.ensures.0 in
    record {
      n_in_bounds = page_fits _ _ pre.1 base n pre.2;
      n_in_bounds_2 = copy_fits _ _ pre.1 base n _ c.backup_at.ensures.1 pre.3;
    }
