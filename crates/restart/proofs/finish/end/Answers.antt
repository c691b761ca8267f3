-- `restart::finish::end` meets its contract: its rows, and then its stores. Assumes nothing.
use mathlib.Core.Path.{refl}
use Rattle.model.specs.Restart.{restart_end_rows}
use Rattle.model.specs.Call.{restart_end}
use Rattle.frame.proofs.Given.{common_passed, given_first}
use Rattle.replay.proofs.Facts.{sizes_bounded, replays, slices}
use Rattle.restart.proofs.Ending.{end_remains, end_given}
use Rattle.frame.proofs.Refusals.{numbered}
use Rattle.restart.proofs.finish.end.Goals as goal

pub returns-in-Err : goal.returns-in-Err
unfolding restart_end_rows
returns-in-Err c = given_first c.in-Err.ensures (restart_end _) refl (numbered _) c.refuse.ensures

pub is_done-requires : goal.is_done-requires
is_done-requires c = (sizes_bounded _ (replays (common_passed c.in_default.ensures refl))).disks_max

pub returns-then-not-is_done : goal.returns-then-not-is_done
returns-then-not-is_done c = end_remains c.in_default.ensures refl c.is_done.ensures _ (c.if-not-is_done.true) c.refuse-then-not-is_done.ensures

pub open_replayed-requires : goal.open_replayed-requires
open_replayed-requires c =
    let passed = common_passed c.in_default.ensures refl in
    let long = slices passed in
    (replays passed, passed.anchor, long.pages, long.backups, long.work)

pub returns : goal.returns
returns c =
    end_given c.in_default.ensures refl c.is_done.ensures _ (c.if-not-is_done.false) _ _ _ (c.open_replayed.ensures _)
