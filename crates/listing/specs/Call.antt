-- What the inner functions of a listing's calls give.
use Rattle.std.specs.Prelude.{ℕ, ◌≡◌, List, [], ◌∷◌, ◌++◌, leb, length, Result, Ok}
use Rattle.model.specs.Anchor.{sizes_on, start_on}
use Rattle.model.specs.Refusal.{Row, row, verdict}
use Rattle.model.specs.Causes.{log_rows}
use Rattle.model.specs.Transaction.{filled}
use Rattle.model.specs.Listing.{listing}
use Rattle.frame.specs.declared.refusal.TurnedAway.{TurnedAway}
use Rattle.frame.specs.Refusal.{verdict_in}
use Rattle.listing.specs.Laid.{laid}

-- the rows behind 5
unfoldable pub last_rows : (anchor logs : List ℕ) → (first : ℕ) → List Row
last_rows anchor logs first =
    log_rows (sizes_on anchor) (start_on anchor) logs ++ row 8 (leb (length (listing anchor logs)) first) ∷ []

-- The rows are told; where none applies the lines are counted and laid, and else the bytes are as they were.
pub record Lists (rows : List Row) (lines : List (List ℕ)) (first : ℕ) (out : List ℕ) (r : Result ℕ TurnedAway) (after : List ℕ) : Type 0 where
  pub told : verdict rows ≡ verdict_in r
  pub count : (n : ℕ) → r ≡ Ok n → n ≡ length lines
  pub bytes : after ≡ filled (verdict rows) (laid first 0 lines out) out
