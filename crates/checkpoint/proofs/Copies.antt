-- A page goes to a backup: where it lies, and what is done with it as a list of actions.
use mathlib.Core.Path.{◌≡◌}
use mathlib.Core.List.{List, [], ◌∷◌}
use mathlib.Core.Bool.{Bool, true, false}
use Prim.Native.Nat.{ℕ, ◌+◌}
use lib.ListN.{set}
use Rattle.model.specs.declared.Sizes.{Sizes}
use Rattle.model.specs.Word.{part}
use Rattle.model.specs.Sizes.{page_base, page_words}
use Rattle.model.specs.Anchor.{backup_at}
use Rattle.model.specs.World.{World, world_of, write, work, each}
use Rattle.model.specs.Memory.{copy_at}
use Rattle.device.specs.Ran.{Ran, Stored, with_work}
use Rattle.device.proofs.Memory.{work_written}
use Rattle.device.proofs.Ran.{ran_then, ran_cut}
use Rattle.device.proofs.Runs.{backups_ran}
use Rattle.checkpoint.specs.Lent.{page_copied}

number_written : (number budget at : ℕ) (w : World) → Ran budget budget (write work at number ∷ []) w (with_work w (set w.work at number)) true
unfolding each
number_written number budget at w = work_written budget at (number ∷ []) w

module _ (s : Sizes) (number page : ℕ) {base words backup : ℕ} {pages backups work : List ℕ} (at_base : base ≡ page_base s page)
    (at_words : words ≡ page_words s page) (at_backup : backup ≡ backup_at s number) where
  module _ {budget rest : ℕ} {after : List ℕ} {whole : Bool}
      (did : Stored budget rest (backup + base) (part base words pages) backups after whole) (anchor logs : List ℕ) where
    pub copy_cut : whole ≡ false
        → Ran budget rest (page_copied s number page pages) (world_of anchor pages backups logs work) (world_of anchor pages after logs work) false
    unfolding page_copied
    copy_cut e =
        rw (← at_base, ← at_words, ← at_backup) (ran_cut (backups_ran (world_of anchor pages backups logs work) did) _ e)

    pub copy_whole : whole ≡ true → {at : ℕ} → at ≡ copy_at s page
        → Ran budget rest (page_copied s number page pages) (world_of anchor pages backups logs work)
        (world_of anchor pages after logs (set work at number)) true
    unfolding page_copied
    copy_whole e {at} place =
        rw (← at_base, ← at_words, ← at_backup, ← place)
        (ran_then (backups_ran (world_of anchor pages backups logs work) did) _ e
        (number_written number rest at (world_of anchor pages after logs work)))
