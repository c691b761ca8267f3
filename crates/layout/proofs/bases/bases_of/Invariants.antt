-- `layout::bases::bases_of` meets its contract. The loop keeps: the pages passed begin where they should, and the sum is that of their
-- words, at most 128 each. Assumes nothing.
use Prim.Native.Nat.{ℕ, ◌*◌, ◌≤◌, ◌<◌}
use mathlib.Core.Path.{◌≡◌}
use lib.ListN.{length, get_or}
use Rattle.model.specs.Below.{sum_below}
use Rattle.layout.proofs.bases.bases_of.Given as goal

abbrev pub invariant-loop-i : goal.invariant-loop-i
invariant-loop-i l = (length l.pages ≡ 64) × (l.sum ≤ 128 * l.i) × (l.sum ≡ sum_below (λ p. get_or l.slots p 0 * get_or l.widths p 0) l.i)
    × ((page : ℕ) → page < l.i → get_or l.pages page 0 ≡ sum_below (λ p. get_or l.slots p 0 * get_or l.widths p 0) page)
