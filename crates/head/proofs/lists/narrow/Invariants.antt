-- `head::lists::narrow` meets its contract: after i turns the first i words are done. Assumes nothing.
use Rattle.std.proofs.Common.{◌≡◌, ℕ, map, take, ◌^◌, ◌<◌}
use Rattle.head.proofs.lists.narrow.Given as goal

abbrev pub invariant-loop-i : goal.invariant-loop-i
invariant-loop-i g l = (number : ℕ → _) → ((x : ℕ) (y : _) → x < 2 ^ 64 → goal.F-post g l.narrowed x y → y ≡ number x)
    → take l.i l.out ≡ map number (take l.i l.words)
