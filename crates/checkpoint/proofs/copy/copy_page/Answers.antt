-- `checkpoint::copy::copy_page` meets its contract: the copy number is set once the page is stored. Assumes nothing.
use mathlib.Core.Path.{refl}
use native.Mathlib.Omega.{arith}
use Rattle.model.specs.Memory.{copy_at, owner_at, work_words}
use Rattle.model.proofs.Bounds.{bounded}
use Rattle.layout.proofs.Pages.{page_fits, copy_fits}
use Rattle.checkpoint.proofs.Copies.{copy_cut, copy_whole}
use Rattle.checkpoint.proofs.copy.copy_page.Goals as goal

pub page_base-base-requires : goal.page_base-base-requires
page_base-base-requires c = let pre = c.requires in omega (arith, pre.page_below, (bounded _ pre.sizes).pages_max)

pub page_words-words-requires : goal.page_words-words-requires
page_words-words-requires c = let pre = c.requires in omega (arith, pre.page_below, (bounded _ pre.sizes).pages_max)

pub backup_at-backup-requires : goal.backup_at-backup-requires
backup_at-backup-requires c = (bounded _ c.requires.sizes).pages_max

pub store_copy-requires : goal.store_copy-requires
store_copy-requires c =
    let base = c.page_base-base.ensures.0 in
    let words = c.page_words-words.ensures.0 in
    let pre = c.requires in
    record {
      n_in_bounds = copy_fits _ _ pre.page_below base words _ c.backup_at-backup.ensures.1 pre.backup_words;
      n_in_bounds_2 = page_fits _ _ pre.page_below base words pre.page_words_lem;
    }

pub returns-then-not-store_copy : goal.returns-then-not-store_copy
returns-then-not-store_copy c =
    λ anchor logs.
    copy_cut _ _ _ c.page_base-base.ensures.0 c.page_words-words.ensures.0 c.backup_at-backup.ensures.0
    c.store_copy.ensures anchor logs (c.if-not-store_copy.true)

pub copy_place-at-requires : goal.copy_place-at-requires
copy_place-at-requires c =
    let pre = c.requires in
    let b = bounded _ pre.sizes in
    (b.disks_max, omega (arith, pre.page_below, b.pages_max))

pub bounds-work-at : goal.bounds-work-at
unfolding work_words owner_at copy_at
bounds-work-at c =
    let low = (bounded _ c.requires.sizes).pages_max in
    omega (arith, c.copy_place-at.ensures.0 c.args.sizes refl, c.requires.work_words_lem, c.requires.page_below, low)

pub returns : goal.returns
returns c =
    λ anchor logs.
    copy_whole _ _ _ c.page_base-base.ensures.0 c.page_words-words.ensures.0 c.backup_at-backup.ensures.0
    c.store_copy.ensures anchor logs (c.if-not-store_copy.false) (c.copy_place-at.ensures.0 _ refl)
