-- `lines::partial::name_byte` meets its contract: the byte is kept, or the name is longer than any.
use Prim.Native.Nat.{◌≤◌}
use native.Mathlib.Omega.{arith}
use borrow.Author.Rules.{rules}
use mathlib.Core.Path.{◌≡◌}
use lib.ListN.{length, take, length-take}
use Rattle.lines.specs.After.{command_after}
use Rattle.lines.proofs.Rest.{name_more, name_full}
use Rattle.lines.proofs.partial.name_byte.Goals as goal

pub returns-in-Some : goal.returns-in-Some
unfolding command_after
returns-in-Some c = λ more. name_more _ c.args.b more c.requires _ c.in-Some.ensures

pub returns-in-None : goal.returns-in-None
unfolding command_after
returns-in-None c =
    let places : length c.args.name.items ≡ 7 = search rules in
    let full : 7 ≤ length (take c.args.name.count c.args.name.items) = rw length-take (omega (arith, c.in-None.ensures)) in
    λ more. name_full _ c.args.b more c.requires full
