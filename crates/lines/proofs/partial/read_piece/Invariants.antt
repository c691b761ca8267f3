-- `lines::partial::read_piece` meets its contract: what is left of the piece, and what follows it, is to come.
use Prim.Native.Nat.{ℕ}
use mathlib.Core.Path.{◌≡◌}
use mathlib.Core.List.{List, ◌++◌}
use lib.ListN.{drop}
use Rattle.lines.specs.After.{command_after}
use Rattle.lines.proofs.partial.read_piece.Given as goal

abbrev pub invariant-loop-b : goal.invariant-loop-b
invariant-loop-b l = (more : List ℕ) → command_after l.p (drop l.b-index l.bytes ++ more) ≡ command_after l.fn.partial (l.bytes ++ more)
