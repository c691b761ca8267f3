-- A checkpoint's end: the flushes, then the switch, as a list of stores.
use mathlib.Core.Path.{◌≡◌, sym, ap}
use mathlib.Core.List.{List, ◌++◌, append_assoc}
use mathlib.Core.Bool.{Bool, true, false}
use Prim.Native.Nat.{ℕ, ◌+◌, ◌≤◌}
use native.Mathlib.Omega.{arith}
use lib.ListN.{get_or, take}
use Rattle.model.specs.declared.Core.{Core}
use Rattle.model.specs.Below.{join_below}
use Rattle.model.specs.Anchor.{start_word}
use Rattle.model.specs.World.{World, store, anchor}
use Rattle.model.specs.Append.{flush}
use Rattle.model.specs.Checkpoint.{per_disk, new_start, checkpoint_end_task}
use Rattle.model.proofs.Below.{list_cong}
use Rattle.model.proofs.PerDisk.{get_or_per_disk, length_per_disk}
use Rattle.device.specs.Ran.{Ran}
use Rattle.device.proofs.Ran.{ran_then, ran_cut}
use Rattle.frame.specs.Switch.{starts_stored}
use Rattle.frame.proofs.Switches.{switch_listed}

-- The stores of a checkpoint's end are the flushes and then the switch.
end_parts : (c : Core) (w : World) → c.sizes.disks ≤ 8
    → join_below (flush c.sizes c.logs w.work) c.sizes.disks
    ++ starts_stored (c.epoch + 1) (take c.sizes.disks (per_disk c.sizes (new_start c)))
    ≡ (checkpoint_end_task c w).actions
unfolding checkpoint_end_task
end_parts c w few =
    rw (
      switch_listed (c.epoch + 1) c.sizes.disks (per_disk c.sizes (new_start c)) (omega (arith, length_per_disk c.sizes (new_start c))),
      list_cong (λ d. store anchor (start_word (c.epoch + 1) d) (get_or (per_disk c.sizes (new_start c)) d 0))
          (λ d. store anchor (start_word (c.epoch + 1) d) (new_start c d)) c.sizes.disks
          (λ d h. ap (store anchor (start_word (c.epoch + 1) d)) (get_or_per_disk c.sizes (new_start c) d few h)),
    )
    (sym (append_assoc (join_below (flush c.sizes c.logs w.work) c.sizes.disks) _ _))

module _ (c : Core) (w : World) (few : c.sizes.disks ≤ 8) {budget rest : ℕ} {v : World} {whole : Bool}
    (ran : Ran budget rest (join_below (flush c.sizes c.logs w.work) c.sizes.disks) w v whole) where
  pub end_cut : whole ≡ false → Ran budget rest (checkpoint_end_task c w).actions w v false
  end_cut e = rw (← end_parts c w few) (ran_cut ran _ e)

  pub end_whole : {starts : List ℕ} {last : ℕ} {u : World} {all : Bool} → starts ≡ per_disk c.sizes (new_start c) → whole ≡ true
      → Ran rest last (starts_stored (c.epoch + 1) (take c.sizes.disks starts)) v u all
      → Ran budget last (checkpoint_end_task c w).actions w u all
  end_whole same e next = rw (← end_parts c w few, ← same) (ran_then ran _ e next)
