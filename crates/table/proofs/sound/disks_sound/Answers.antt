-- `table::sound::disks_sound` meets its contract: the disks passed are sound. Assumes nothing.
use mathlib.Core.Path.{refl, sym, ◌∙◌}
use native.Mathlib.Omega.{arith}
use borrow.Author.Rules.{rules}
use Rattle.model.specs.Below.{all_below}
use Rattle.model.specs.State.{start_of, tail_of, fill_of, end_of}
use Rattle.table.specs.Parts.{log_sound}
use Rattle.model.proofs.Below.{all_more, all_stop, all_done}
use Rattle.table.proofs.sound.disks_sound.Goals as goal

pub loop-d-init : goal.loop-d-init
unfolding all_below
loop-d-init c = refl

pub returns-then-not-disk_sound : goal.returns-then-not-disk_sound
unfolding log_sound start_of tail_of fill_of end_of
returns-then-not-disk_sound c = all_stop _ _ c.loop-d.d (omega arith) (sym c.disk_sound.ensures ∙ c.if-not-disk_sound.true)

pub loop-d-preserved : goal.loop-d-preserved
unfolding log_sound start_of tail_of fill_of end_of
loop-d-preserved c = all_more _ _ c.loop-d.invariant (sym c.disk_sound.ensures ∙ c.if-not-disk_sound.false)

pub returns : goal.returns
returns c = all_done _ _ _ (search rules) (omega arith) c.loop-d.invariant
