-- `replay::ring::page_bases` meets its contract. The loop keeps: the pages passed begin where they should, and the sum is that of their
-- words. Assumes nothing.
use Prim.Native.Nat.{ℕ, ◌*◌, ◌≤◌, ◌<◌}
use mathlib.Core.Path.{◌≡◌}
use lib.ListN.{length, get_or}
use Rattle.model.specs.Below.{sum_below}
use Rattle.replay.proofs.ring.page_bases.Given as goal

abbrev pub invariant-loop-i : goal.invariant-loop-i
invariant-loop-i l = (length l.bases ≡ 64) × (l.sum ≤ 65535 * l.i) × (l.sum ≡ sum_below (λ p. get_or l.slots p 0 * get_or l.widths p 0) l.i)
    × ((page : ℕ) → page < l.i → get_or l.bases page 0 ≡ sum_below (λ p. get_or l.slots p 0 * get_or l.widths p 0) page)
