-- A checkpoint made current: its starts, then its number, as a list of stores.
use mathlib.Core.Path.{◌≡◌}
use mathlib.Core.List.{List, [], ◌∷◌, ◌++◌}
use mathlib.Core.Bool.{Bool, true, false}
use Prim.Native.Nat.{ℕ, ◌+◌, ◌*◌, ◌%◌, ◌≤◌}
use native.Mathlib.Nat.{add-zero}
use lib.ListN.{length, get_or, take}
use Rattle.model.specs.Below.{list_below}
use Rattle.model.specs.Word.{part}
use Rattle.model.specs.Anchor.{epoch_word, start_word}
use Rattle.model.specs.World.{world_of, store, anchor, each}
use Rattle.model.proofs.Parts.{take_list}
use Rattle.model.proofs.Run.{list_each}
use Rattle.device.specs.Ran.{Ran, Stored}
use Rattle.device.proofs.Ran.{ran_then, ran_cut}
use Rattle.device.proofs.Runs.{anchor_ran}
use Rattle.frame.specs.Switch.{starts_stored}

module _ (number disks : ℕ) (starts pages backups logs work : List ℕ) {budget rest : ℕ} {before after : List ℕ} {whole : Bool}
    (did : Stored budget rest (132 + 8 * (number % 2)) (part 0 disks starts) before after whole) where
  pub switch_cut : whole ≡ false
      → Ran budget rest (starts_stored number (take disks starts)) (world_of before pages backups logs work) (world_of after pages backups logs work) false
  unfolding starts_stored start_word part
  switch_cut e = rw add-zero (ran_cut (anchor_ran (world_of before pages backups logs work) did) _ e)

  pub switch_whole : whole ≡ true → {last : ℕ} {final : List ℕ} {all : Bool} → Stored rest last epoch_word (number ∷ []) after final all
      → Ran budget last (starts_stored number (take disks starts)) (world_of before pages backups logs work) (world_of final pages backups logs work) all
  unfolding starts_stored start_word part each
  switch_whole e next =
      rw add-zero
      (ran_then (anchor_ran (world_of before pages backups logs work) did) _ e (anchor_ran (world_of after pages backups logs work) next))

-- the starts by their places, then the number
pub switch_listed : (number disks : ℕ) (starts : List ℕ) → disks ≤ length starts
    → starts_stored number (take disks starts)
    ≡ list_below (λ d. store anchor (start_word number d) (get_or starts d 0)) disks ++ store anchor epoch_word number ∷ []
unfolding starts_stored start_word
switch_listed number disks starts h =
    rw (add-zero, take_list disks starts h, list_each (store anchor) (132 + 8 * (number % 2)) (λ d. get_or starts d 0) disks)
