-- `checkpoint::ends::ends_of` meets its contract: the disks passed have their ends, the others 0. Assumes nothing.
use native.Mathlib.Omega.{arith}
use mathlib.Core.Path.{refl, ◌∙◌}
use Rattle.model.specs.State.{tail_of, fill_of, end_of}
use Rattle.model.proofs.Store.Rows.{disk_sound_lem}
use Rattle.model.proofs.Store.Accepted.{disks_max}
use Rattle.model.proofs.PerDisk.{eight_none, eight_more, eight_per_disk}
use borrow.Author.Rules.{rules}
use Rattle.checkpoint.proofs.ends.ends_of.Goals as goal

pub loop-d-init : goal.loop-d-init
loop-d-init c = (disks_max _ c.requires, eight_none _)

pub overflow_add-ends : goal.overflow_add-ends
unfolding end_of tail_of fill_of
overflow_add-ends c = omega (arith, (disk_sound_lem c.args.core c.loop-d.d c.requires (search rules)).limit)

pub loop-d-preserved : goal.loop-d-preserved
unfolding end_of tail_of fill_of
loop-d-preserved c = (omega arith, rw c.loop-d.invariant.1 (eight_more (end_of c.args.core.logs) c.loop-d.d _ (omega arith) refl))

pub returns : goal.returns
returns c = c.loop-d.invariant.1 ∙ eight_per_disk _ _ _ (omega arith)
