-- Lines laid one after the other into the lent bytes, the line of number `first` at the front.
use Rattle.std.specs.Prelude.{ℕ, ◌+◌, ◌-◌, ◌*◌, ◌/◌, List, [], ◌∷◌, Bool, cond, ◌&&◌, leb, ltb, length}
use Rattle.std.proofs.lemmas.List.Edits.{sets}
use Rattle.model.specs.Listing.{line_bytes}

-- there is a place for the line of this number
unfoldable pub wanted : (first line bytes : ℕ) → Bool
wanted first line bytes = leb first line && ltb (line - first) (bytes / line_bytes)

-- the bytes with this line in its place, as they were where it has none
unfoldable pub laid_line : (first line : ℕ) → (text out : List ℕ) → List ℕ
laid_line first line text out = cond (wanted first line (length out)) (sets out (line_bytes * (line - first)) text) out

-- the lines from number `line` on (laid_over_lem in proofs/Laid.antt)
unfoldable pub laid : (first line : ℕ) → List (List ℕ) → (out : List ℕ) → List ℕ
laid first line [] out = out
laid first line (x ∷ xs) out = laid first (line + 1) xs (laid_line first line x out)
