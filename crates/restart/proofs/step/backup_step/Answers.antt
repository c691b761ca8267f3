-- `restart::step::backup_step` meets its contract: the next page is one of the pages. Assumes nothing.
use mathlib.Core.Path.{sym}
use native.Mathlib.Omega.{arith}
use lib.ListN.{drop, take-append-drop}
use Rattle.model.specs.World.{world_of}
use Rattle.model.specs.View.{head_words, core_of, body_of}
use Rattle.model.proofs.View.Head.{own_long}
use Rattle.restart.proofs.Backups.{words_here, none_left, page_low, words_few, page_inside, copy_inside, page_taken}
use Rattle.restart.proofs.Steps.{paged_words, to_refused, to_finished, paging_open}
use Rattle.restart.proofs.step.backup_step.Goals as goal

pub bounds-work-216 : goal.bounds-work-216
bounds-work-216 c = omega (arith, own_long _ _ c.requires.own)

pub returns-then-carried-page : goal.returns-then-carried-page
unfolding body_of
returns-then-carried-page c =
    let x = c.args in
    λ anchor logs.
    let w = world_of anchor x.pages.now x.backups.now logs x.work.now in
    to_refused x.carried w x.carried.disks (body_of w) (none_left c.requires anchor logs (drop head_words x.work.now) c.if-carried-page.true)
    (sym (take-append-drop head_words x.work.now)) c.refused.ensures

pub overflow_add-base : goal.overflow_add-base
overflow_add-base c = omega (arith, page_low c.requires c.if-carried-page.false)

pub offset_bounds-work-at : goal.offset_bounds-work-at
offset_bounds-work-at c = omega (arith, page_low c.requires c.if-carried-page.false)

pub bounds-work-at : goal.bounds-work-at
bounds-work-at c = omega (arith, page_low c.requires c.if-carried-page.false, own_long _ _ c.requires.own)

pub offset_bounds-work-at-2 : goal.offset_bounds-work-at-2
offset_bounds-work-at-2 c = omega (arith, page_low c.requires c.if-carried-page.false)

pub bounds-work-at-2 : goal.bounds-work-at-2
bounds-work-at-2 c = omega (arith, page_low c.requires c.if-carried-page.false, own_long _ _ c.requires.own)

pub overflow_add-n-2 : goal.overflow_add-n-2
overflow_add-n-2 c = omega (arith, page_low c.requires c.if-carried-page.false)

pub offset_bounds-work-at-3 : goal.offset_bounds-work-at-3
offset_bounds-work-at-3 c = omega (arith, page_low c.requires c.if-carried-page.false)

pub bounds-work-at-3 : goal.bounds-work-at-3
bounds-work-at-3 c = omega (arith, page_low c.requires c.if-carried-page.false, own_long _ _ c.requires.own)

pub overflow_mul-n : goal.overflow_mul-n
overflow_mul-n c = omega (arith, words_few c.requires c.if-carried-page.false)

pub overflow_add-from : goal.overflow_add-from
overflow_add-from c =
    omega (arith, c.backup_start.ensures.1, words_here c.requires, c.requires.page_words_lem, page_inside c.requires c.if-carried-page.false)

pub xor_in-requires : goal.xor_in-requires
xor_in-requires c =
    record {
      n_in_bounds = page_inside c.requires c.if-carried-page.false;
      n_in_bounds_2 = copy_inside c.requires c.if-carried-page.false _ c.backup_start.ensures.1;
    }

pub bounds-work-216-2 : goal.bounds-work-216-2
bounds-work-216-2 c = omega (arith, own_long _ _ c.requires.own)

pub returns : goal.returns
unfolding body_of
returns c =
    let x = c.args in
    let h = x.carried in
    let some = c.if-carried-page.false in
    λ anchor logs.
    to_finished h (world_of anchor x.pages.now x.backups.now logs x.work.now) h.disks _ _
    (page_taken c.requires some anchor logs (drop head_words x.work.now) (c.backup_start.ensures.0 (core_of h x.work.now).sizes (sym (words_here c.requires))) c.xor_in.ensures)
    (paging_open h x.work.now c.requires.replays _).0 (paging_open h x.work.now c.requires.replays _).1
    (paged_words h x.work.now c.requires.own _) c.finished.ensures
