-- `text::put_number` meets its contract: the digits still to put stand in front of those that are there.
use mathlib.Core.Path.{◌≡◌}
use Prim.Native.Nat.{◌-◌, ◌≤◌}
use mathlib.Core.List.{◌++◌}
use lib.ListN.{drop}
use Rattle.model.specs.Text.{last_digits}
use Rattle.text.proofs.put_number.Given as goal

abbrev pub invariant-loop-i : goal.invariant-loop-i
invariant-loop-i l = (l.least ≤ l.i) × (last_digits (l.i - l.least) l.rest ++ drop l.i l.out ≡ last_digits l.most l.n ++ drop l.end l.initial.out)
