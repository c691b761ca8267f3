-- `layout::bases::bases_right` meets its contract. The loop keeps: the pages passed begin where they should, and the sum is that of their
-- words, at most 128 each. Assumes nothing.
use Prim.Native.Nat.{◌*◌, ◌≤◌}
use mathlib.Core.Bool.{true}
use mathlib.Core.Path.{◌≡◌}
use lib.Dec.{eqb}
use lib.ListN.{get_or}
use Rattle.model.specs.Below.{sum_below, all_below}
use Rattle.layout.proofs.bases.bases_right.Given as goal

abbrev pub invariant-loop-i : goal.invariant-loop-i
invariant-loop-i l = (l.sum ≤ 128 * l.i) × (l.sum ≡ sum_below (λ p. get_or l.slots p 0 * get_or l.widths p 0) l.i)
    × (all_below (λ page. eqb (get_or l.pages page 0) (sum_below (λ p. get_or l.slots p 0 * get_or l.widths p 0) page)) l.i ≡ true)
