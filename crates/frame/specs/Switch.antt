-- A checkpoint made current.
use Rattle.std.specs.Prelude.{ℕ, List, [], ◌∷◌, ◌++◌}
use Rattle.model.specs.Anchor.{epoch_word, start_word}
use Rattle.model.specs.World.{Action, store, anchor, each}

-- starts go to the row of a checkpoint, then its number makes it current
unfoldable pub starts_stored : ℕ → List ℕ → List Action
starts_stored number starts = each (store anchor) (start_word number 0) starts ++ store anchor epoch_word number ∷ []
