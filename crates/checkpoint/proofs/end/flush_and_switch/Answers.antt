-- `checkpoint::end::flush_and_switch` meets its contract: the switch begins once all disks are flushed, and the task is settled as its stores
-- ran. Assumes nothing.
use Rattle.model.specs.World.{world_of}
use Rattle.model.specs.Checkpoint.{checkpoint_end_task}
use Rattle.model.proofs.Store.Accepted.{disks_max}
use Rattle.device.specs.Ran.{Ran}
use Rattle.frame.proofs.Verdicts.{task_settled}
use Rattle.checkpoint.proofs.Closing.{end_cut, end_whole}
use Rattle.checkpoint.proofs.end.flush_and_switch.Goals.{then-flush_all, else-flush_all}
use Rattle.checkpoint.proofs.end.flush_and_switch.Goals as goal

pub new_starts-starts-requires : goal.new_starts-starts-requires
new_starts-starts-requires c = disks_max _ c.requires.serves.state

pub switch_to-whole-requires : goal.switch_to-whole-requires
switch_to-whole-requires c = (c.requires.anchor_words_lem, disks_max _ c.requires.serves.state)

pub returns : goal.returns
unfolding checkpoint_end_task
returns c =
    let x = c.args in
    let few = disks_max x.core c.requires.serves.state in
    λ pages backups.
    let w = world_of x.anchor.now pages backups x.logs.now x.work.now in
    let flushed = c.flush_all.ensures x.anchor.now pages backups in
    let ran : Ran x.budget.now c.if-flush_all.budget (checkpoint_end_task x.core w).actions w
    (world_of c.if-flush_all.anchor pages backups c.flush_all.new.logs x.work.now) c.if-flush_all.whole =
    elim c.if-flush_all.branch [
      | then-flush_all b ↦
          rw (b.anchor-is, b.budget-is, b.whole-is)
          (end_whole x.core w few flushed c.new_starts-starts.ensures b.if-flush_all.true (b.switch_to-whole.ensures pages backups _ x.work.now))
      | else-flush_all b ↦ rw (b.anchor-is, b.budget-is, b.whole-is, b.if-flush_all.false) (end_cut x.core w few flushed b.if-flush_all.false)
    ] in
    task_settled (checkpoint_end_task x.core w) ran c.settle.ensures (λ _. c.closed.ensures w)
