-- The rows of a listing of a shut store whose image passes the checks: 5 for the lent bytes, then 8.
use mathlib.Core.Path.{◌≡◌}
use mathlib.Core.List.{List, [], ◌∷◌}
use mathlib.Core.Bool.{true, false, cond, or-true}
use Prim.Native.Nat.{ℕ}
use native.Mathlib.Omega.{arith}
use lib.Dec.{leb}
use lib.ListN.{length}
use borrow.Author.Tests.{eq-eqb, ne_eqb}
use Rattle.model.specs.declared.Stage.TheVariants.{Shut}
use Rattle.model.specs.Sizes.{log_words}
use Rattle.model.specs.Anchor.{anchor_words, epoch_on, sizes_on}
use Rattle.model.specs.Refusal.{row, verdict, accepted, rejected}
use Rattle.model.specs.Causes.{anchor_wrong, unformatted, sizes_wrong}
use Rattle.model.specs.Restart.{image_rows}
use Rattle.model.specs.Listing.{listing, lent_wrong, list_rows}
use Rattle.model.proofs.Verdict.{verdict_append}
use Rattle.model.proofs.Checked.{Checked, checked_rows}

module _ (anchor logs : List ℕ) (image : Checked anchor logs) where
  module _ (long : length logs ≡ log_words (sizes_on anchor)) (number : ℕ) where
    right : lent_wrong false logs (sizes_on anchor) ≡ false
    unfolding lent_wrong
    right = rw (eq-eqb (length logs) (log_words (sizes_on anchor)) long)

    pub list_verdict : verdict (list_rows Shut false anchor logs number) ≡ cond (leb (length (listing anchor logs)) number) (rejected 8 0 0) accepted
    unfolding verdict list_rows
    list_verdict =
        verdict_append (image_rows (lent_wrong false logs) anchor logs) (row 8 (leb (length (listing anchor logs)) number) ∷ [])
        (checked_rows (lent_wrong false logs) anchor logs image right)

  pub list_bytes : (number : ℕ) → verdict (list_rows Shut true anchor logs number) ≡ rejected 5 0 0
  unfolding verdict list_rows image_rows anchor_wrong unformatted sizes_wrong lent_wrong
  list_bytes number =
      rw (
        eq-eqb (length anchor) anchor_words image.long,
        ne_eqb (epoch_on anchor) 0 (λ e. omega (arith, image.formatted)),
        image.bounds,
        or-true,
      )
