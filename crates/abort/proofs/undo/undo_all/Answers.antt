-- `abort::undo::undo_all` meets its contract. The loop's invariant: what takes back the first 128 * k updates takes back all, and
-- their bits with those counted are the bits of all. Assumes nothing.
use mathlib.Core.Path.{◌≡◌, sym, ◌∙◌}
use mathlib.Core.List.{[]}
use native.Mathlib.Omega.{arith}
use Rattle.abort.proofs.Tips.{tip_sized, tip_end}
use Rattle.abort.proofs.Disks.{small}
use Rattle.abort.proofs.Undone.{did_lengths}
use Rattle.abort.proofs.Pending.{pending_start, pending_last, all_counted}
use Rattle.abort.proofs.Noting.{all_updates, all_takeable, all_few, all_held, here_many, group_takeable, group_counted, group_cut, group_step}
use Rattle.abort.proofs.undo.undo_all.Goals as goal

pub overflow_add-end : goal.overflow_add-end
overflow_add-end c =
    let pre = c.requires in
    omega (arith, tip_end _ c.args.tip (small pre.undoable.serving).below, pre.undoable.serving.end_small)

pub loop-k-init : goal.loop-k-init
loop-k-init c =
    let pre = c.requires in
    let held = all_held _ _ _ _ _ _ _ _ pre.undoable pre.noted c.div_ceil-groups.ensures in (
      rw held (pending_start _ _ _ _ _ _ _ _ _ (all_takeable _ _ _ _ _ _ _ _ pre.undoable) (tip_sized _ _)),
      rw held (omega arith),
      omega (arith, pre.noted.all, all_few _ _ _ _ _ _ _ _ pre.undoable, c.div_ceil-groups.ensures),
    )

pub overflow_mul-k : goal.overflow_mul-k
overflow_mul-k c =
    let ok = c.requires.undoable in
    let noted = c.requires.noted in
    let turn = c.loop-k in
    let some = c.loop-k-test.true in
    let few = all_few _ _ _ _ _ _ _ _ ok in
    omega (arith, few, noted.all, turn.auto.k, c.div_ceil-groups.ensures)

pub overflow_sub-notes : goal.overflow_sub-notes
overflow_sub-notes c =
    let ok = c.requires.undoable in
    let noted = c.requires.noted in
    let turn = c.loop-k in
    let some = c.loop-k-test.true in
    omega (arith, turn.auto.k, c.div_ceil-groups.ensures, some)

pub offset_bounds-notes-k : goal.offset_bounds-notes-k
offset_bounds-notes-k c =
    let ok = c.requires.undoable in
    let noted = c.requires.noted in
    let turn = c.loop-k in
    let some = c.loop-k-test.true in
    let few = all_few _ _ _ _ _ _ _ _ ok in
    omega (arith, few, noted.all, turn.auto.k, c.div_ceil-groups.ensures)

pub bounds-notes-k : goal.bounds-notes-k
bounds-notes-k c =
    let ok = c.requires.undoable in
    let noted = c.requires.noted in
    let turn = c.loop-k in
    let some = c.loop-k-test.true in
    let few = all_few _ _ _ _ _ _ _ _ ok in
    omega (arith, few, noted.all, turn.auto.k, c.div_ceil-groups.ensures, some)

pub group_from-group-requires : goal.group_from-group-requires
group_from-group-requires c =
    let ok = c.requires.undoable in
    let noted = c.requires.noted in
    let turn = c.loop-k in
    let some = c.loop-k-test.true in
    let size = c.min-n.ensures in
    let ends = tip_end _ c.args.tip (small ok.serving).below in
    let p = turn.invariant.0 in
    record {
      serving = (p.serving, omega (arith, ends, p.longer), omega (arith, size));
      n_in_bounds = rw (← ends) (omega (arith, size, here_many _ _ _ _ _ _ _ _ ok turn.k (omega (arith, some)) p noted (omega (arith, turn.auto.k, c.div_ceil-groups.ensures))));
    }

pub undo_group-requires : goal.undo_group-requires
undo_group-requires c =
    let ok = c.requires.undoable in
    let noted = c.requires.noted in
    let turn = c.loop-k in
    let some = c.loop-k-test.true in
    let ends = tip_end _ c.args.tip (small ok.serving).below in
    let got = rw (← ends) at c.group_from-group.ensures in
    let size = c.min-n.ensures in
    (omega (arith, got.many, size), group_takeable _ _ _ _ _ _ _ _ ok turn.k (omega (arith, some)) turn.invariant.0 noted (omega (arith, turn.auto.k, c.div_ceil-groups.ensures)) size got)

pub shape_of-pages-in_err-part : goal.shape_of-pages-in_err-part
shape_of-pages-in_err-part c =
    (did_lengths (c.undo_group.ensures.by_index [] [])).pages ∙ c.loop-k.invariant.0.page_words_lem ∙ sym c.requires.undoable.page_words_lem

pub shape_of-logs-in_err-part : goal.shape_of-logs-in_err-part
shape_of-logs-in_err-part c =
    (did_lengths (c.undo_group.ensures.by_index [] [])).logs ∙ c.loop-k.invariant.0.serving.log_words_lem ∙ sym c.requires.undoable.serving.log_words_lem

pub shape_of-work-in_err-part : goal.shape_of-work-in_err-part
shape_of-work-in_err-part c =
    (did_lengths (c.undo_group.ensures.by_index [] [])).work ∙ c.loop-k.invariant.0.serving.work_words_lem ∙ sym c.requires.undoable.serving.work_words_lem

pub returns-in_err-part : goal.returns-in_err-part
returns-in_err-part c =
    let ok = c.requires.undoable in
    let noted = c.requires.noted in
    let turn = c.loop-k in
    let some = c.loop-k-test.true in
    let ends = tip_end _ c.args.tip (small ok.serving).below in
    let got = rw (← ends) at c.group_from-group.ensures in
    let size = c.min-n.ensures in
    rw c.from_residual.ensures
    (record {
      by_index = λ anchor backups.
          group_cut _ _ _ _ _ _ _ _ ok turn.k (omega (arith, some)) turn.invariant.0 noted (omega (arith, turn.auto.k, c.div_ceil-groups.ensures)) size got anchor backups (c.in_err-part.ensures.by_index anchor backups);
      counts = tt;
    })

pub overflow_add-ones : goal.overflow_add-ones
overflow_add-ones c = omega (arith, c.loop-k.invariant.2, c.loop-k-test.true, c.in_ok-part.ensures.counts.1)

pub loop-k-preserved : goal.loop-k-preserved
loop-k-preserved c =
    let ok = c.requires.undoable in
    let noted = c.requires.noted in
    let turn = c.loop-k in
    let some = c.loop-k-test.true in
    let ends = tip_end _ c.args.tip (small ok.serving).below in
    let got = rw (← ends) at c.group_from-group.ensures in
    let size = c.min-n.ensures in
    let part = c.in_ok-part.ensures in (
      group_step _ _ _ _ _ _ _ _ ok turn.k (omega (arith, some)) turn.invariant.0 noted (omega (arith, turn.auto.k, c.div_ceil-groups.ensures)) size got part.by_index,
      group_counted _ _ _ _ _ _ _ _ ok turn.k (omega (arith, some)) turn.invariant.0 noted (omega (arith, turn.auto.k, c.div_ceil-groups.ensures)) size got turn.ones turn.invariant.1 part.counts.0,
      omega (arith, turn.invariant.2, some, part.counts.1),
    )

pub shape_of-pages : goal.shape_of-pages
shape_of-pages c = c.loop-k.invariant.0.page_words_lem ∙ sym c.requires.undoable.page_words_lem

pub shape_of-logs : goal.shape_of-logs
shape_of-logs c = c.loop-k.invariant.0.serving.log_words_lem ∙ sym c.requires.undoable.serving.log_words_lem

pub shape_of-work : goal.shape_of-work
shape_of-work c = c.loop-k.invariant.0.serving.work_words_lem ∙ sym c.requires.undoable.serving.work_words_lem

pub returns : goal.returns
returns c =
    let ok = c.requires.undoable in
    let turn = c.loop-k in
    let none : turn.k ≡ 0 = omega arith in
    let all = all_updates _ _ _ _ _ _ _ _ ok in
    record {
      by_index = λ anchor backups. rw all (pending_last _ _ _ _ _ _ _ _ _ (all_takeable _ _ _ _ _ _ _ _ ok) (rw none at turn.invariant.0) anchor backups);
      counts = rw all (all_counted _ _ turn.ones (rw none at turn.invariant.1));
    }
