-- What restart end stores, as a list of actions.
use mathlib.Core.Path.{◌≡◌}
use mathlib.Core.List.{List}
use mathlib.Core.Bool.{Bool, true, false}
use Prim.Native.Nat.{ℕ, ◌≤◌}
use lib.ListN.{length, take}
use lib.Seq.{take-length}
use Rattle.model.specs.declared.Sizes.{Sizes}
use Rattle.model.specs.Word.{part}
use Rattle.model.specs.Anchor.{backup_at}
use Rattle.model.specs.World.{World, store, backups, each}
use Rattle.device.specs.Ran.{Ran, Stored, with_backups}
use Rattle.device.proofs.Ran.{ran_then, ran_cut}
use Rattle.device.proofs.Runs.{backups_ran}
use Rattle.frame.specs.Switch.{starts_stored}
use Rattle.frame.proofs.Switches.{switch_listed}
use Rattle.replay.specs.Parts.{checkpoint_stores}

module _ (s : Sizes) (epoch : ℕ) (starts pages : List ℕ) (w : World) {budget rest at : ℕ} {after : List ℕ} {whole : Bool}
    (place : at ≡ backup_at s epoch)
    (did : Stored budget rest at (part 0 (length pages) pages) w.backups after whole) where
  -- the pages
  pages_ran : Ran budget rest (each (store backups) (backup_at s epoch) pages) w (with_backups w after) whole
  unfolding part
  pages_ran = rw (place, take-length) at (backups_ran w did)

  pub pages_cut : whole ≡ false → Ran budget rest (checkpoint_stores s epoch starts pages) w (with_backups w after) false
  unfolding checkpoint_stores
  pages_cut cut = ran_cut pages_ran _ cut

  -- then the checkpoint made current
  pub pages_switched : whole ≡ true → s.disks ≤ length starts → {last : ℕ} {v : World} {all : Bool}
      → Ran rest last (starts_stored epoch (take s.disks starts)) (with_backups w after) v all
      → Ran budget last (checkpoint_stores s epoch starts pages) w v all
  unfolding checkpoint_stores
  pages_switched done few next = ran_then pages_ran _ done (rw (switch_listed epoch s.disks starts few) at next)
