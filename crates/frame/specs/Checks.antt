-- The first checks of every call but format and restart begin: rows 1, 2 and 5.
use Rattle.std.specs.Prelude.{◌≡◌, List, ◌∷◌, Bool, cond, ℕ, eqb}
use Rattle.model.specs.declared.Stage.{Stage}
use Rattle.model.specs.declared.Core.{Core}
use Rattle.model.specs.Anchor.{anchor_words}
use Rattle.model.specs.World.{World}
use Rattle.model.specs.State.{sound}
use Rattle.model.specs.Refusal.{Row, row, Verdict, accepted, rejected, verdict}
use Rattle.model.specs.Causes.{when_replaying, when_open, when_copying, when_serving, stage_forbids, anchor_wrong, lengths_wrong}
use Rattle.model.specs.Reads.{fits_on}
use Rattle.frame.specs.declared.stages.When.{When}
use Rattle.frame.specs.declared.stages.When.TheVariants.{Replaying, Open, Copying, Serving}

-- 2 where the anchor's length is wrong
unfoldable pub anchor_refusal : (anchor otherwise : ℕ) → ℕ
anchor_refusal anchor otherwise = cond (eqb anchor anchor_words) otherwise 2

-- a verdict by its number alone: 0 accepts, another refuses and returns zeros
abbrev pub verdict_of : ℕ → Verdict
verdict_of n = cond (eqb n 0) accepted (rejected n 0 0)

abbrev pub allowed_in : When → Stage → Bool
allowed_in Replaying = when_replaying
allowed_in Open = when_open
allowed_in Copying = when_copying
allowed_in Serving = when_serving

-- a call's rows: the common ones, and the rest; `test` is what the call tests of a state where the lengths are right
abbrev pub common_rows : (Stage → Bool) → (test : Bool) → Core → World → List Row → List Row
common_rows allowed test c w rest =
    row 1 (stage_forbids allowed (fits_on test c w) c) ∷ row 2 (anchor_wrong w.anchor) ∷ row 5 (lengths_wrong c.sizes c.bases.total w) ∷ rest

-- Of a call that tests the whole state: r is the number of the first common row that applies, and 0 where the rest decides.
pub record CommonRefusal (allowed : Stage → Bool) (c : Core) (w : World) (r : ℕ) : Type 0 where
  pub decides : (rest : List Row) → verdict (common_rows allowed (sound c) c w rest) ≡ cond (eqb r 0) (verdict rest) (rejected r 0 0)
