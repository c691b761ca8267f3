-- What the parts of a restart give beyond model's definitions.
use Rattle.std.specs.Prelude.{ℕ, ◌+◌, List, [], ◌∷◌, ◌++◌, Bool, cond, ◌||◌, length, get_or, ltb, eqb}
use Rattle.model.specs.declared.Sizes.{Sizes}
use Rattle.model.specs.Below.{list_below}
use Rattle.model.specs.Sizes.{sizes_in_bounds}
use Rattle.model.specs.Anchor.{anchor_words, epoch_word, epoch_on, sizes_on, start_word, backup_at}
use Rattle.model.specs.World.{Action, store, anchor, backups, each}
use Rattle.model.specs.State.{limit}

-- rows 2 to 4 of restart begin: the number of the first that applies, 0 where none does
unfoldable pub anchor_refusal : List ℕ → ℕ
anchor_refusal words =
    cond (eqb (length words) anchor_words) (cond (eqb (epoch_on words) 0) 3 (cond (sizes_in_bounds (sizes_on words)) 0 4)) 2

-- 6. "tail below start, more than W above it, or above 2^62"
unfoldable pub tail_out : ℕ → ℕ → ℕ → Bool
tail_out ring start tail = ltb tail start || ltb (start + ring) tail || ltb limit tail

-- the stores of restart end: all pages, the starts, and then the number of checkpoint `epoch`
unfoldable pub checkpoint_stores : Sizes → ℕ → List ℕ → List ℕ → List Action
checkpoint_stores s epoch starts pages =
    each (store backups) (backup_at s epoch) pages
    ++ (list_below (λ d. store anchor (start_word epoch d) (get_or starts d 0)) s.disks ++ store anchor epoch_word epoch ∷ [])
