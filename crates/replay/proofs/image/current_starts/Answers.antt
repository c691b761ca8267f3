-- `replay::image::current_starts` meets its contract: the row that the checkpoint number names. Assumes nothing.
use mathlib.Core.Path.{sym, ◌∙◌}
use Prim.Native.Nat.{◌≤◌}
use native.Mathlib.Omega.{arith}
use Rattle.model.specs.Anchor.{epoch_on}
use Rattle.model.proofs.PerDisk.{per_disk_cong, eight_per_disk}
use Rattle.replay.proofs.Rows.{current_row}
use Rattle.replay.proofs.image.current_starts.Goals as goal

pub returns : goal.returns
unfolding epoch_on
returns c =
    λ s e.
    let few : s.disks ≤ 8 = omega (arith, c.requires.0) in
    c.keep_below.ensures ∙ eight_per_disk s _ _ (sym e)
    ∙ per_disk_cong s _ _ (λ d h. current_row _ c.read_rows-rows.ensures d (omega arith))
