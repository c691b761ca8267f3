-- `abort::undo::undo_group` meets its contract. The loop's invariant: what takes back the updates that are left takes back all, and
-- their bits with those counted are the bits of all. Assumes nothing.
use mathlib.Core.Path.{◌≡◌, sym, ◌∙◌}
use mathlib.Core.List.{[]}
use native.Mathlib.Omega.{arith}
use Rattle.abort.proofs.Tips.{tip_sized}
use Rattle.abort.proofs.Undone.{did_lengths}
use Rattle.abort.proofs.Pending.{pending_start, pending_last, all_counted}
use Rattle.abort.proofs.OneLeft.{one_there, one_compensable, one_counted, one_cut, one_step}
use borrow.Author.Rules.{rules}
use Rattle.abort.proofs.undo.undo_group.Goals as goal

pub loop-n-init : goal.loop-n-init
loop-n-init c =
    let pre = c.requires in
    (search rules, pending_start _ _ _ _ _ _ _ _ _ pre.1 (tip_sized _ _), omega arith, omega (arith, pre.0))

pub site_at-site-requires : goal.site_at-site-requires
site_at-site-requires c =
    let turn = c.loop-n in
    let some = c.loop-n-test.true in
    one_there _ _ _ _ _ _ _ _ _ c.requires.1 turn.n c.args.group.at (omega (arith, some)) (omega (arith, turn.auto.n, c.requires.0, turn.invariant.0)) turn.invariant.1

pub undo_one-requires : goal.undo_one-requires
undo_one-requires c =
    let turn = c.loop-n in
    let some = c.loop-n-test.true in
    one_compensable _ _ _ _ _ _ _ _ _ c.requires.1 turn.n c.args.group.at (omega (arith, some)) (omega (arith, turn.auto.n, c.requires.0, turn.invariant.0)) turn.invariant.1
    c.site_at-site.ensures

pub shape_of-pages-in_err-one : goal.shape_of-pages-in_err-one
shape_of-pages-in_err-one c =
    (did_lengths (c.undo_one.ensures.by_index [] [])).pages ∙ c.loop-n.invariant.1.page_words_lem ∙ sym c.requires.1.page_words_lem

pub shape_of-logs-in_err-one : goal.shape_of-logs-in_err-one
shape_of-logs-in_err-one c =
    (did_lengths (c.undo_one.ensures.by_index [] [])).logs ∙ c.loop-n.invariant.1.serving.log_words_lem ∙ sym c.requires.1.serving.log_words_lem

pub shape_of-work-in_err-one : goal.shape_of-work-in_err-one
shape_of-work-in_err-one c =
    (did_lengths (c.undo_one.ensures.by_index [] [])).work ∙ c.loop-n.invariant.1.serving.work_words_lem ∙ sym c.requires.1.serving.work_words_lem

pub returns-in_err-one : goal.returns-in_err-one
returns-in_err-one c =
    let turn = c.loop-n in
    let some = c.loop-n-test.true in
    rw c.from_residual.ensures
    (record {
      by_index = λ anchor backups.
          one_cut _ _ _ _ _ _ _ _ _ c.requires.1 turn.n c.args.group.at (omega (arith, some)) (omega (arith, turn.auto.n, c.requires.0, turn.invariant.0)) turn.invariant.1
          c.site_at-site.ensures anchor backups (c.in_err-one.ensures.by_index anchor backups);
      counts = (tt, tt);
    })

pub overflow_add-ones : goal.overflow_add-ones
overflow_add-ones c = omega (arith, c.loop-n.invariant.3, c.loop-n-test.true, c.in_ok-one.ensures.counts.1)

pub loop-n-preserved : goal.loop-n-preserved
loop-n-preserved c =
    let turn = c.loop-n in
    let some = c.loop-n-test.true in
    let one = c.in_ok-one.ensures in (
      turn.invariant.0,
      one_step _ _ _ _ _ _ _ _ _ c.requires.1 turn.n c.args.group.at (omega (arith, some)) (omega (arith, turn.auto.n, c.requires.0, turn.invariant.0)) turn.invariant.1
          c.site_at-site.ensures one.by_index,
      one_counted _ _ _ _ _ _ _ _ _ c.requires.1 turn.n c.args.group.at (omega (arith, some)) (omega (arith, turn.auto.n, c.requires.0, turn.invariant.0)) turn.invariant.1
          c.site_at-site.ensures turn.ones turn.invariant.2 one.counts.0,
      omega (arith, turn.invariant.3, some, one.counts.1),
    )

pub shape_of-pages : goal.shape_of-pages
shape_of-pages c = c.loop-n.invariant.1.page_words_lem ∙ sym c.requires.1.page_words_lem

pub shape_of-logs : goal.shape_of-logs
shape_of-logs c = c.loop-n.invariant.1.serving.log_words_lem ∙ sym c.requires.1.serving.log_words_lem

pub shape_of-work : goal.shape_of-work
shape_of-work c = c.loop-n.invariant.1.serving.work_words_lem ∙ sym c.requires.1.serving.work_words_lem

pub returns : goal.returns
returns c =
    let pre = c.requires in
    let turn = c.loop-n in
    let none : turn.n ≡ 0 = omega arith in
    record {
      by_index = pending_last _ _ _ _ _ _ _ _ _ pre.1 (rw none at turn.invariant.1);
      counts = (all_counted _ _ turn.ones (rw none at turn.invariant.2), omega (arith, turn.invariant.3));
    }
