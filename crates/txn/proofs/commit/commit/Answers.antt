-- `txn::commit::commit` meets its contract: each refusal is the first row that applies, and then the task. Assumes nothing.
use Prim.Native.Nat.{◌≤◌}
use mathlib.Core.Path.{◌∙◌}
use native.Mathlib.Omega.{arith}
use Rattle.model.specs.Record.{commit_kind}
use Rattle.model.specs.World.{world_of}
use Rattle.model.specs.Call.{commit}
use Rattle.model.proofs.RecordSizes.{words_close, words_most}
use Rattle.frame.proofs.Behind.{lent_behind, behind_back}
use Rattle.frame.proofs.Shown.{shown_refused}
use Rattle.txn.proofs.Committing.{standing, home_standing, close_fits, commit_cut, commit_whole}
use borrow.Author.Rules.{rules}
use Rattle.txn.proofs.commit.commit.Goals as goal

pub returns-in-Err : goal.returns-in-Err
returns-in-Err c =
    let x = c.args in
    shown_refused (commit x.number x.budget.now) x.carried _ (c.find_open.ensures.refused c.in-Err.refusal c.in-Err.is) c.refused.ensures

pub home_at-home-requires : goal.home_at-home-requires
home_at-home-requires c =
    let x = c.args in
    let w = world_of x.anchor.now x.pages.now x.backups.now x.logs.now x.work.now in
    let s = standing x.carried w x.number (c.find_open.ensures.ready c.in-Ok.entry c.in-Ok.is) in
    (s.low, s.ready.counts.ring_max)

pub slice_bounds-store_close-count : goal.slice_bounds-store_close-count
slice_bounds-store_close-count c =
    let x = c.args in
    let w = world_of x.anchor.now x.pages.now x.backups.now x.logs.now x.work.now in
    let s = standing x.carried w x.number (c.find_open.ensures.ready c.in-Ok.entry c.in-Ok.is) in
    omega (arith, s.ready.work)

pub slice_bounds-store_close-start : goal.slice_bounds-store_close-start
slice_bounds-store_close-start c =
    let x = c.args in
    let w = world_of x.anchor.now x.pages.now x.backups.now x.logs.now x.work.now in
    let s = standing x.carried w x.number (c.find_open.ensures.ready c.in-Ok.entry c.in-Ok.is) in
    omega (arith, s.ready.work)

pub store_close-requires : goal.store_close-requires
store_close-requires c =
    let x = c.args in
    let w = world_of x.anchor.now x.pages.now x.backups.now x.logs.now x.work.now in
    let s = standing x.carried w x.number (c.find_open.ensures.ready c.in-Ok.entry c.in-Ok.is) in
    let whole = close_fits x.carried w x.number x.budget.now s (home_standing x.carried w x.number x.budget.now s c.home_at-home.ensures) (lent_behind x.work.now) in
    record {
      within = whole.0;
      fill_bound = whole.1;
    }

pub returns-then-not-store_close : goal.returns-then-not-store_close
returns-then-not-store_close c =
    let x = c.args in
    let w = world_of x.anchor.now x.pages.now x.backups.now x.logs.now x.work.now in
    let s = standing x.carried w x.number (c.find_open.ensures.ready c.in-Ok.entry c.in-Ok.is) in
    let home = home_standing x.carried w x.number x.budget.now s c.home_at-home.ensures in
    commit_cut x.carried w x.number x.budget.now s (search rules) home (lent_behind x.work.now) c.store_close.ensures (c.if-not-store_close.true) (behind_back x.work.now _)
    (rw (← c.saturating_sub.ensures) c.cut.ensures)

pub overflow_sub-entry : goal.overflow_sub-entry
overflow_sub-entry c =
    let x = c.args in
    let w = world_of x.anchor.now x.pages.now x.backups.now x.logs.now x.work.now in
    let s = standing x.carried w x.number (c.find_open.ensures.ready c.in-Ok.entry c.in-Ok.is) in
    s.placed.own_part

pub close_place-requires : goal.close_place-requires
close_place-requires c =
    let x = c.args in
    let w = world_of x.anchor.now x.pages.now x.backups.now x.logs.now x.work.now in
    let s = standing x.carried w x.number (c.find_open.ensures.ready c.in-Ok.entry c.in-Ok.is) in
    (s.found.low, s.low, omega (arith, s.ready.work))

pub overflow_add-tails : goal.overflow_add-tails
overflow_add-tails c =
    let x = c.args in
    let w = world_of x.anchor.now x.pages.now x.backups.now x.logs.now x.work.now in
    let s = standing x.carried w x.number (c.find_open.ensures.ready c.in-Ok.entry c.in-Ok.is) in
    omega (arith, s.placed.end_small)

pub overflow_add-tails-2 : goal.overflow_add-tails-2
overflow_add-tails-2 c =
    let x = c.args in
    let w = world_of x.anchor.now x.pages.now x.backups.now x.logs.now x.work.now in
    let s = standing x.carried w x.number (c.find_open.ensures.ready c.in-Ok.entry c.in-Ok.is) in
    let few : c.words_of.result ≤ 3 = rw c.words_of.ensures (words_most _ 0) in
    omega (arith, few, s.placed.end_small, s.placed.own_min, s.placed.own_part)

pub offset_bounds-tails-disk : goal.offset_bounds-tails-disk
offset_bounds-tails-disk c =
    let x = c.args in
    let w = world_of x.anchor.now x.pages.now x.backups.now x.logs.now x.work.now in
    let s = standing x.carried w x.number (c.find_open.ensures.ready c.in-Ok.entry c.in-Ok.is) in
    omega (arith, s.low)

pub bounds-tails-disk : goal.bounds-tails-disk
bounds-tails-disk c =
    let x = c.args in
    let w = world_of x.anchor.now x.pages.now x.backups.now x.logs.now x.work.now in
    let s = standing x.carried w x.number (c.find_open.ensures.ready c.in-Ok.entry c.in-Ok.is) in
    s.low

pub returns : goal.returns
returns c =
    let x = c.args in
    let w = world_of x.anchor.now x.pages.now x.backups.now x.logs.now x.work.now in
    let s = standing x.carried w x.number (c.find_open.ensures.ready c.in-Ok.entry c.in-Ok.is) in
    let home = home_standing x.carried w x.number x.budget.now s c.home_at-home.ensures in
    let two = c.words_of.ensures ∙ words_close commit_kind 0 (omega arith) (omega arith) in
    commit_whole x.carried w x.number x.budget.now s (search rules) home (lent_behind x.work.now) c.store_close.ensures (c.if-not-store_close.false) (behind_back x.work.now _)
    c.close_place.ensures (rw (← c.saturating_sub-stores.ensures) (rw two at c.finished.ensures))
