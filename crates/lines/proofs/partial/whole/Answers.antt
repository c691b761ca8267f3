-- `lines::partial::whole` meets its contract: the last number ends with the line.
use Prim.Native.Nat.{◌≤◌}
use native.Mathlib.Omega.{arith}
use borrow.Author.Rules.{rules}
use mathlib.Core.Path.{◌≡◌}
use lib.ListN.{length, take, length-take}
use Rattle.std.specs.Prelude.{None}
use Rattle.lines.specs.Line.{fields}
use Rattle.lines.specs.After.{command_after}
use Rattle.lines.proofs.Rest.{none_last, number_last, too_many}
use Rattle.lines.proofs.partial.whole.Goals as goal

pub returns-in_err-value : goal.returns-in_err-value
unfolding command_after
returns-in_err-value c =
    let none : c.from_residual.result ≡ None = search rules in
    rw (none, c.in_err-value.was) (none_last _ _)

pub returns-in_err-all : goal.returns-in_err-all
unfolding command_after
returns-in_err-all c =
    let numbers = c.args.numbers in
    let none : c.from_residual-in_err-all.result ≡ None = search rules in
    let places : length numbers.ended.items ≡ 4 = search rules in
    let full : 4 ≤ length (take numbers.ended.count numbers.ended.items) = rw length-take (omega (arith, c.in_err-all.ensures)) in
    rw none (too_many _ _ numbers.last (fields _) full)

pub returns : goal.returns
unfolding command_after
returns c =
    rw (c.form_of.ensures, c.as_slice.ensures, c.as_slice-2.ensures, c.in_ok-value.was)
    (number_last _ _ c.in_ok-value.value _ (search rules) c.in_ok-all.ensures)
