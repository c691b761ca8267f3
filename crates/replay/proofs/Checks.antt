-- The checks of an image as the code makes them: the anchor first, then what is lent beside it, then the logs from the starts that it read.
use mathlib.Core.Path.{◌≡◌, refl}
use mathlib.Core.Bool.{Bool, true, false, cond, not}
use mathlib.Core.List.{List, ◌∷◌, ◌++◌}
use Prim.Native.Nat.{ℕ, ◌≤◌}
use native.Mathlib.Omega.{arith}
use lib.Dec.{eqb}
use lib.ListN.{length, get_or}
use borrow.Author.Tests.{eqb-true}
use Rattle.model.specs.declared.Sizes.{Sizes}
use Rattle.model.specs.Sizes.{sizes_in_bounds}
use Rattle.model.specs.Anchor.{anchor_words, epoch_on, sizes_on, start_on}
use Rattle.model.specs.Refusal.{Row, row, rejected, verdict}
use Rattle.model.specs.Causes.{anchor_wrong, unformatted, sizes_wrong, log_rows}
use Rattle.model.specs.Checkpoint.{per_disk}
use Rattle.model.specs.Restart.{image_rows}
use Rattle.model.proofs.PerDisk.{get_or_per_disk}
use Rattle.model.proofs.Checked.{rows_same}
use Rattle.replay.specs.Parts.{anchor_refusal}

-- what the anchor's rows leave when none applies
pub anchor_passed : (anchor : List ℕ) → anchor_refusal anchor ≡ 0 → (length anchor ≡ anchor_words) × (sizes_in_bounds (sizes_on anchor) ≡ true)
unfolding anchor_refusal
anchor_passed anchor = go (eqb (length anchor) anchor_words) (eqb (epoch_on anchor) 0) (sizes_in_bounds (sizes_on anchor)) refl refl
  where
    go : (a b d : Bool) → eqb (length anchor) anchor_words ≡ a → sizes_in_bounds (sizes_on anchor) ≡ d
        → ◌≡◌ {A = ℕ} (cond a (cond b 3 (cond d 0 4)) 2) 0 → (length anchor ≡ anchor_words) × (sizes_in_bounds (sizes_on anchor) ≡ true)
    go true true d p q z = absurd (omega (arith, z))
    go true false true p q z = (eqb-true _ _ p, q)
    go true false false p q z = absurd (omega (arith, z))
    go false b d p q z = absurd (omega (arith, z))

-- rows 2 to 4, and then the others
pub image_verdict : (others : Sizes → Bool) (anchor logs : List ℕ) (rest : List Row) {n : ℕ} → n ≡ anchor_refusal anchor
    → verdict (image_rows others anchor logs ++ rest)
    ≡ cond (eqb n 0) (verdict (row 5 (others (sizes_on anchor)) ∷ (log_rows (sizes_on anchor) (start_on anchor) logs ++ rest))) (rejected n 0 0)
unfolding image_rows verdict anchor_wrong unformatted sizes_wrong anchor_refusal
image_verdict others anchor logs rest refusal =
    rw refusal (go (eqb (length anchor) anchor_words) (eqb (epoch_on anchor) 0) (sizes_in_bounds (sizes_on anchor)))
  where
    more : List Row
    more = row 5 (others (sizes_on anchor)) ∷ (log_rows (sizes_on anchor) (start_on anchor) logs ++ rest)

    go : (a b d : Bool) → verdict (row 2 (not a) ∷ row 3 b ∷ row 4 (not d) ∷ more)
        ≡ cond (eqb (cond a (cond b 3 (cond d 0 4)) 2) 0) (verdict more) (rejected (cond a (cond b 3 (cond d 0 4)) 2) 0 0)
    go true true d = refl
    go true false true = refl
    go true false false = refl
    go false b d = refl

-- the starts that were read are those of the anchor's current row
pub rows_read : (s : Sizes) (anchor logs : List ℕ) → s.disks ≤ 8 → {starts : List ℕ} → starts ≡ per_disk s (start_on anchor)
    → log_rows s (λ d. get_or starts d 0) logs ≡ log_rows s (start_on anchor) logs
rows_read s anchor logs few from =
    rows_same s logs (start_on anchor) _ (λ d h. rw from (get_or_per_disk s (start_on anchor) d few h))
