-- The loop's invariant: the sum is that of the pages passed, each below 2^16.
use Prim.Native.Nat.{◌*◌, ◌≤◌}
use mathlib.Core.Path.{◌≡◌}
use lib.ListN.{get_or}
use Rattle.model.specs.Below.{sum_below}
use Rattle.layout.proofs.places.page_base.Given as goal

abbrev pub invariant-loop-i : goal.invariant-loop-i
invariant-loop-i l = (l.sum ≤ 65535 * l.i) × (l.sum ≡ sum_below (λ p. get_or l.slots p 0 * get_or l.widths p 0) l.i)
