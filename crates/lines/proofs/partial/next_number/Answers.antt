-- `lines::partial::next_number` meets its contract: a number begins, or the line is no command.
use Prim.Native.Nat.{◌≤◌}
use native.Mathlib.Omega.{arith}
use borrow.Author.Rules.{rules}
use mathlib.Core.Path.{◌≡◌}
use lib.ListN.{length, take, length-take}
use Rattle.lines.specs.Line.{fields}
use Rattle.lines.specs.After.{command_after}
use Rattle.lines.proofs.Rest.{none_ends, number_ends, too_many}
use Rattle.lines.proofs.partial.next_number.Goals as goal

pub returns-in_default : goal.returns-in_default
unfolding command_after
returns-in_default c = λ more. rw c.in_default.is (none_ends _ _ more)

pub returns-in-None : goal.returns-in-None
unfolding command_after
returns-in-None c =
    let numbers = c.args.numbers in
    let places : length numbers.ended.items ≡ 4 = search rules in
    let full : 4 ≤ length (take numbers.ended.count numbers.ended.items) = rw length-take (omega (arith, c.in-None.ensures)) in
    λ more. too_many _ _ numbers.last (fields _) full

pub returns-in-Some-with : goal.returns-in-Some-with
unfolding command_after
returns-in-Some-with c = λ more. rw c.in-Some.is (number_ends _ _ c.in-Some.value _ more (search rules) c.in-Some-with.ensures)
