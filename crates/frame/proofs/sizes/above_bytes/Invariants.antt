-- `frame::sizes::above_bytes` meets its contract: the sum is no less than what each of the words passed has above a byte. Assumes nothing.
use mathlib.Core.Path.{◌≡◌}
use Prim.Native.Nat.{ℕ, ◌*◌, ◌/◌, ◌≤◌, ◌<◌}
use lib.ListN.{get_or}
use Rattle.frame.proofs.sizes.above_bytes.Given as goal

abbrev pub invariant-loop-word : goal.invariant-loop-word
invariant-loop-word l = (l.above ≤ 72057594037927936 * l.word-index) × ((j : ℕ) → j < l.word-index → get_or l.work j 0 / 256 ≤ l.above)
    × (((j : ℕ) → j < 128 → get_or l.work j 0 < 256) → l.above ≡ 0)
