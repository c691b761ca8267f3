-- The current row of starts.
use mathlib.Core.Path.{◌≡◌}
use mathlib.Core.List.{List, [], ◌∷◌}
use Prim.Native.Nat.{ℕ, ◌+◌, ◌*◌, ◌%◌, ◌<◌}
use native.Mathlib.Omega.{arith}
use native.Mathlib.Decide.{ℕ_discrete}
use lib.ListN.{get_or}
use Rattle.model.specs.Word.{part}
use Rattle.model.specs.Anchor.{rows_at, epoch_on, start_word, start_on}
use Rattle.model.proofs.Parts.{get_or_part}

-- as both rows are read
pub current_row : (anchor : List ℕ) {rows : List (List ℕ)} → rows ≡ part rows_at 8 anchor ∷ part (rows_at + 8) 8 anchor ∷ [] → (d : ℕ) → d < 8
    → get_or (get_or rows (epoch_on anchor % 2) []) d 0 ≡ start_on anchor d
unfolding start_on start_word
current_row anchor {rows} e d h = go (ℕ_discrete (epoch_on anchor % 2) 0)
  where
    go : Dec (epoch_on anchor % 2 ≡ 0) → get_or (get_or rows (epoch_on anchor % 2) []) d 0 ≡ get_or anchor (rows_at + 8 * (epoch_on anchor % 2) + d) 0
    go (yes even) = rw (e, even) (get_or_part rows_at 8 anchor d h)
    go (no ne) =
        let odd : epoch_on anchor % 2 ≡ 1 = omega arith in
        rw (e, odd) (get_or_part (rows_at + 8) 8 anchor d h)
