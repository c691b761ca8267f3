-- The stores of a format part by part, and what its functions are lent.
use Rattle.std.specs.Prelude.{◌≡◌, List, [], ◌∷◌, ◌++◌, true, ℕ, ◌*◌, length, replicate}
use Rattle.model.specs.declared.Sizes.{Sizes}
use Rattle.model.specs.Below.{list_below}
use Rattle.model.specs.Sizes.{total, tail_word, log_words, sizes_in_bounds}
use Rattle.model.specs.Anchor.{anchor_words, epoch_word, slots_at, widths_at, rows_at}
use Rattle.model.specs.World.{Action, store, write, anchor, backups, logs, pages, each}
use Rattle.model.specs.Memory.{work_words}

-- "c := 0; anchor words 0, 1, 2"
unfoldable pub front_stores : ℕ → ℕ → ℕ → List Action
front_stores p d w = store anchor epoch_word 0 ∷ [] ++ each (store anchor) 0 (p ∷ d ∷ w ∷ [])

-- "both page arrays; both rows 0"
unfoldable pub array_stores : List ℕ → List ℕ → List Action
array_stores slots widths =
    each (store anchor) slots_at slots ++ each (store anchor) widths_at widths ++ each (store anchor) rows_at (replicate 16 0)

-- "each tail 0"
unfoldable pub tail_stores : Sizes → List Action
tail_stores s = list_below (λ d. store logs (tail_word s d) 0) s.disks

-- "backup 1 zero; c := 1", of backups of so many words
unfoldable pub last_stores : ℕ → List Action
last_stores words = each (store backups) words (replicate words 0) ++ store anchor epoch_word 1 ∷ []

-- "Pages are zero"
unfoldable pub pages_zero : Sizes → List Action
pages_zero s = each (write pages) 0 (replicate (total s) 0)

-- Sizes in bounds, and devices of the lengths that they give.
pub record Devices (s : Sizes) (anchor backups logs : List ℕ) : Type 0 where
  pub sizes : sizes_in_bounds s ≡ true
  pub anchor_words_lem : length anchor ≡ anchor_words
  pub backup_words : length backups ≡ 2 * total s
  pub log_words_lem : length logs ≡ log_words s

-- and memories of those lengths
pub record Memories (s : Sizes) (pages work : List ℕ) : Type 0 where
  pub sizes : sizes_in_bounds s ≡ true
  pub page_words_lem : length pages ≡ total s
  pub work_words_lem : length work ≡ work_words s (total s)
