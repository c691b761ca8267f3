-- `abort::undo::undo_one` meets its contract: the record's append, then the XOR into the slot. Assumes nothing.
use mathlib.Core.Path.{refl, sym}
use native.Mathlib.Omega.{arith}
use Rattle.model.specs.Word.{part}
use Rattle.model.proofs.Geometry.{slot_end_total}
use Rattle.abort.specs.Undo.{update_at}
use Rattle.abort.proofs.Disks.{slim, low_slot}
use Rattle.abort.proofs.Spans.{lent_difference, lent_fits}
use Rattle.abort.proofs.Compensated.{compensated_cut, compensated_whole, counts_one}
use borrow.Author.Rules.{rules}
use Rattle.abort.proofs.undo.undo_one.Goals as goal

pub difference_at-ones-requires : goal.difference_at-ones-requires
difference_at-ones-requires c =
    let pre = c.requires in
    record {
      serving = pre.serving;
      width_bound = (pre.inside, slim pre.serving pre.slotted);
    }

pub slice_bounds-words-end : goal.slice_bounds-words-end
slice_bounds-words-end c = lent_fits _ _ _ _ c.difference_at-ones.ensures.0

pub slice_bounds-log_compensation-end : goal.slice_bounds-log_compensation-end
slice_bounds-log_compensation-end c = sym (lent_difference _ _ _ _ c.difference_at-ones.ensures.0)

pub log_compensation-requires : goal.log_compensation-requires
log_compensation-requires c =
    let pre = c.requires in
    let difference-at = c.difference_at-ones in
    record {
      serving = pre.serving;
      in_slot = rw (lent_difference _ _ _ _ difference-at.ensures.0) pre.slotted;
    }

pub returns-in_err-tip : goal.returns-in_err-tip
unfolding update_at
returns-in_err-tip c =
    rw c.from_residual.ensures
    (record {
      by_index = λ anchor backups. compensated_cut _ _ _ _ _ _ c.difference_at-ones.ensures.0 (c.in_err-tip.ensures anchor _ backups);
      counts = (tt, tt);
    })

pub slot_base-at-requires : goal.slot_base-at-requires
slot_base-at-requires c =
    let pre = c.requires in
    low_slot pre.serving pre.slotted

pub slice_bounds-xor_in-end : goal.slice_bounds-xor_in-end
slice_bounds-xor_in-end c = search (rules, c.difference_at-ones)

pub xor_in-requires : goal.xor_in-requires
xor_in-requires c =
    let pre = c.requires in
    let s = pre.slotted in
    let fits = slot_end_total _ _ _ s.page_in s.slot_in in
    record {
      n_in_bounds = omega (arith, fits, s.width_is, c.slot_base-at.ensures.0, pre.page_words_lem);
      n_in_bounds_2 = omega (arith, lent_fits _ _ _ _ c.difference_at-ones.ensures.0);
    }

pub returns : goal.returns
unfolding update_at part
returns c =
    let difference-at = c.difference_at-ones in
    let slot-base = c.slot_base-at in
    record {
      by_index = λ anchor backups. compensated_whole _ _ _ _ _ _ difference-at.ensures.0 (c.in_ok-tip.ensures anchor _ backups) refl slot-base.ensures.0 _ c.xor_in.ensures;
      counts = (counts_one _ difference-at.ensures.1, difference-at.ensures.2);
    }
