-- `replay::image::wrong_tail` meets its contract: no disk passed has a wrong tail. Assumes nothing.
use Prim.Native.Nat.{ℕ, ◌<◌}
use mathlib.Core.Path.{◌≡◌}
use mathlib.Core.Bool.{false}
use lib.ListN.{get_or}
use Rattle.model.specs.Sizes.{ring_of}
use Rattle.replay.specs.Parts.{tail_out}
use Rattle.replay.proofs.image.wrong_tail.Given as goal

abbrev pub invariant-loop-d : goal.invariant-loop-d
invariant-loop-d l = (j : ℕ) → j < l.d → tail_out (ring_of l.sizes j) (get_or l.starts j 0) (get_or l.tails j 0) ≡ false
