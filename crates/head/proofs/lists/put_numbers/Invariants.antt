-- `head::lists::put_numbers` meets its contract: after i turns the first i numbers are laid. Assumes nothing.
use Rattle.std.proofs.Common.{◌≡◌, ℕ, map, take}
use lib.Seq.{sets}
use Rattle.head.proofs.lists.put_numbers.Given as goal

abbrev pub invariant-loop-i : goal.invariant-loop-i
invariant-loop-i g l = (word : _ → ℕ) → ((x : _) (y : ℕ) → g.T.Into.converts x y → y ≡ word x)
    → l.work ≡ sets l.initial.work l.at (map word (take l.i l.numbers))
