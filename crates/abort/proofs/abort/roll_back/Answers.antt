-- `abort::abort::roll_back` meets its contract: the updates taken back, then the closing record. Assumes nothing.
use mathlib.Core.List.{[]}
use Rattle.model.specs.World.{world_of}
use Rattle.abort.proofs.Tips.{tip_sized}
use Rattle.abort.proofs.Rolled.{undone_serves, rolled_cut, rolled_then}
use Rattle.abort.proofs.abort.roll_back.Goals as goal

pub returns-in_err-undone : goal.returns-in_err-undone
returns-in_err-undone c =
    rw c.from_residual.ensures
    (record { by_index = λ anchor backups. rolled_cut _ _ _ _ _ _ (c.in_err-undone.ensures.by_index anchor backups); counts = tt })

pub log_close-requires : goal.log_close-requires
log_close-requires c =
    let w = world_of [] c.args.pages.now [] c.args.logs.now c.args.work.now in
    undone_serves _ _ w _ _ _ c.requires.undoable (tip_sized _ _) (c.in_ok-undone.ensures.by_index [] [])

pub returns-in_err-tip : goal.returns-in_err-tip
returns-in_err-tip c =
    rw c.from_residual-in_err-tip.ensures
    (record {
      by_index = λ anchor backups. rolled_then _ _ _ _ _ _ (c.in_ok-undone.ensures.by_index anchor backups) (c.in_err-tip.ensures anchor _ backups);
      counts = tt;
    })

pub returns : goal.returns
returns c =
    record {
      by_index = λ anchor backups. rolled_then _ _ _ _ _ _ (c.in_ok-undone.ensures.by_index anchor backups) (c.in_ok-tip.ensures anchor _ backups);
      counts = c.in_ok-undone.ensures.counts;
    }
