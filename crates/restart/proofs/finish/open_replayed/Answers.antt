-- `restart::finish::open_replayed` meets its contract: memory is made fresh once all is stored. Assumes nothing.
use mathlib.Core.Path.{refl, sym}
use native.Mathlib.Omega.{arith}
use borrow.Author.Rules.{rules}
use Rattle.model.specs.Memory.{copy_at, owner_at, work_words}
use Rattle.model.proofs.Bounds.{total_max}
use Rattle.replay.proofs.Facts.{replaying, sizes_bounded, words_kept, bases_whole}
use Rattle.restart.proofs.Ending.{end_cut, end_whole}
use Rattle.restart.proofs.finish.open_replayed.Goals as goal

pub overflow_add-epoch : goal.overflow_add-epoch
overflow_add-epoch c = omega (arith, (replaying _ c.requires.0).epoch)

pub open_core-opened-requires : goal.open_core-opened-requires
open_core-opened-requires c =
    bases_whole _ c.requires.0 (search rules)

pub store_checkpoint-requires : goal.store_checkpoint-requires
store_checkpoint-requires c =
    ((replaying _ c.requires.0).bounds, c.requires.1, c.requires.2, c.requires.3)

pub returns-then-not-store_checkpoint : goal.returns-then-not-store_checkpoint
returns-then-not-store_checkpoint c =
    λ logs. end_cut c.args.core _ (c.store_checkpoint.ensures logs _) (c.if-not-store_checkpoint.true) c.open_core-opened.result c.settle.ensures

pub fresh_work-requires : goal.fresh_work-requires
unfolding work_words owner_at copy_at
fresh_work-requires c =
    let b = sizes_bounded _ c.requires.0 in
    let words = words_kept _ c.requires.0 in
    (b.disks_max, omega (arith, words, total_max _ b), omega (arith, words, c.requires.4))

pub returns : goal.returns
returns c =
    λ logs.
    end_whole c.args.core _ (c.store_checkpoint.ensures logs _) (c.if-not-store_checkpoint.false) (c.fresh_work.ensures _ refl (sym (words_kept _ c.requires.0)))
    c.open_core-opened.ensures c.settle-2.ensures
