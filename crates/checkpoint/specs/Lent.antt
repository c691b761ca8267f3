-- What the functions of a checkpoint are lent, and what they do with it.
use Rattle.std.specs.Prelude.{◌≡◌, List, [], ◌∷◌, ◌++◌, true, ℕ, ◌+◌, ◌*◌, ◌<◌, length}
use Rattle.model.specs.declared.Sizes.{Sizes}
use Rattle.model.specs.declared.Core.{Core}
use Rattle.model.specs.Word.{part}
use Rattle.model.specs.Sizes.{page_base, page_words, total, sizes_in_bounds}
use Rattle.model.specs.Anchor.{anchor_words, backup_at}
use Rattle.model.specs.World.{Action, store, write, backups, work, each}
use Rattle.model.specs.Memory.{copy_at, work_words}
use Rattle.model.specs.State.{limit}
use Rattle.frame.specs.Home.{Serves}

-- A page, and slices of the lengths that the sizes give.
pub record Copyable (s : Sizes) (page : ℕ) (pages backups work : List ℕ) : Type 0 where
  pub sizes : sizes_in_bounds s ≡ true
  pub page_below : page < s.pages
  pub page_words_lem : length pages ≡ total s
  pub backup_words : length backups ≡ 2 * total s
  pub work_words_lem : length work ≡ work_words s (total s)

-- `copy_page` of the sizes, the checkpoint's number and the page memory
unfoldable pub page_copied : Sizes → ℕ → ℕ → List ℕ → List Action
page_copied s number page pages =
    each (store backups) (backup_at s number + page_base s page) (part (page_base s page) (page_words s page) pages)
    ++ write work (copy_at s page) number ∷ []

-- A copying state whose next page waits.
pub record Steppable (c : Core) (pages backups work : List ℕ) : Type 0 where
  pub bounded : c.epoch < limit
  pub next : Copyable c.sizes c.checkpoint.copied pages backups work

-- A copying state.
pub record Endable (c : Core) (anchor logs work : List ℕ) : Type 0 where
  pub bounded : c.epoch < limit
  pub anchor_words_lem : length anchor ≡ anchor_words
  pub serves : Serves c logs work
