-- `abort::abort::abort` meets its contract: each refusal is the first row that applies, and then the task. Assumes nothing.
use mathlib.Core.Path.{refl, sym, ◌∙◌}
use native.Mathlib.Omega.{arith}
use borrow.Author.Rules.{rules}
use Rattle.model.specs.Call.{abort}
use Rattle.frame.proofs.Behind.{lent_behind, behind_back}
use Rattle.frame.proofs.Shown.{shown_refused}
use Rattle.abort.proofs.Examining.{noted_own}
use Rattle.abort.proofs.Aborts.{standing}
use Rattle.abort.proofs.ReadLog.{lent_serves, lent_near, fault_here, lent_undoable}
use Rattle.abort.proofs.Closing.{abort_bad, abort_cut, abort_whole}
use Rattle.abort.proofs.abort.abort.Goals as goal

pub returns-in-Err : goal.returns-in-Err
returns-in-Err c = shown_refused (abort c.args.number c.args.budget.now) c.args.carried _ (c.in-Err.ensures.refused _ refl) c.refused.ensures

pub slice_bounds-examine-count : goal.slice_bounds-examine-count
slice_bounds-examine-count c = let s = standing _ _ _ (c.in-Ok.ensures.ready _ refl) in omega (arith, s.ready.work)

pub slice_bounds-examine-start : goal.slice_bounds-examine-start
slice_bounds-examine-start c = let s = standing _ _ _ (c.in-Ok.ensures.ready _ refl) in omega (arith, s.ready.work)

pub examine-requires : goal.examine-requires
examine-requires c =
    let s = standing _ _ _ (c.in-Ok.ensures.ready _ refl) in
    record { serving = rw (lent_behind c.args.work.now) (lent_serves _ _ _ s); disk_bound = lent_near _ _ _ s }

pub returns-in-Err-examine : goal.returns-in-Err-examine
returns-in-Err-examine c =
    let s = standing _ _ _ (c.in-Ok.ensures.ready _ refl) in
    let fault = fault_here _ _ _ s ∙ sym (rw (lent_behind c.args.work.now) at c.in-Err-examine.ensures.fault) in
    shown_refused (abort c.args.number c.args.budget.now) c.args.carried _ (abort_bad _ _ _ c.args.budget.now s fault) c.unreadable.ensures

pub slice_bounds-body-count : goal.slice_bounds-body-count
slice_bounds-body-count c = let s = standing _ _ _ (c.in-Ok.ensures.ready _ refl) in omega (arith, s.ready.work)

pub slice_bounds-body-start : goal.slice_bounds-body-start
slice_bounds-body-start c = let s = standing _ _ _ (c.in-Ok.ensures.ready _ refl) in omega (arith, s.ready.work)

pub roll_back-requires : goal.roll_back-requires
roll_back-requires c =
    let s = standing _ _ _ (c.in-Ok.ensures.ready _ refl) in
    let none = fault_here _ _ _ s ∙ sym (rw (lent_behind c.args.work.now) at c.in-Ok-examine.ensures.fault) in
    let noted = c.in-Ok-examine.ensures.noted _ refl in
    record {
      undoable = rw (lent_behind c.args.work.now, noted.starts) (lent_undoable _ _ _ s none);
      noted = noted_own noted;
    }

pub returns-in_default : goal.returns-in_default
returns-in_default c =
    let s = standing _ _ _ (c.in-Ok.ensures.ready _ refl) in
    let none = fault_here _ _ _ s ∙ sym (rw (lent_behind c.args.work.now) at c.in-Ok-examine.ensures.fault) in
    let noted = c.in-Ok-examine.ensures.noted _ refl in
    abort_cut _ _ _ c.args.budget.now s (search rules) (search rules) none (lent_behind c.args.work.now) noted.starts _ c.roll_back.ensures.by_index c.roll_back.ensures.counts
    c.in_default.is (behind_back c.args.work.now _) (rw (← c.saturating_sub.ensures) c.cut.ensures)

pub close_place-requires : goal.close_place-requires
close_place-requires c =
    let s = standing _ _ _ (c.in-Ok.ensures.ready _ refl) in
    record { place = (s.read.entry.low, s.low, omega (arith, s.ready.work)); own_part = s.placed.own_part }

pub offset_bounds-carried-disk : goal.offset_bounds-carried-disk
offset_bounds-carried-disk c = let s = standing _ _ _ (c.in-Ok.ensures.ready _ refl) in omega (arith, s.low)

pub bounds-carried-disk : goal.bounds-carried-disk
bounds-carried-disk c = let s = standing _ _ _ (c.in-Ok.ensures.ready _ refl) in s.low

pub returns : goal.returns
returns c =
    let s = standing _ _ _ (c.in-Ok.ensures.ready _ refl) in
    let none = fault_here _ _ _ s ∙ sym (rw (lent_behind c.args.work.now) at c.in-Ok-examine.ensures.fault) in
    let noted = c.in-Ok-examine.ensures.noted _ refl in
    abort_whole _ _ _ c.args.budget.now s (search rules) (search rules) none (lent_behind c.args.work.now) noted.starts _ c.roll_back.ensures.by_index c.roll_back.ensures.counts
    c.in-Some.is (behind_back c.args.work.now _) c.close_place.ensures (rw (← c.saturating_sub-2.ensures) c.finished.ensures)
