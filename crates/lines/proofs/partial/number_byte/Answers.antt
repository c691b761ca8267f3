-- `lines::partial::number_byte` meets its contract: the digit is taken, or the field is no number.
use native.Mathlib.Omega.{arith}
use borrow.Author.Rules.{rules}
use Prim.Native.Nat.{◌<◌}
use mathlib.Core.Path.{◌≡◌}
use mathlib.Core.Logic.{◌⊎◌}
use Rattle.std.specs.Prelude.{unwrap_or}
use Rattle.lines.specs.After.{command_after}
use Rattle.lines.proofs.Rest.{number_more, no_digit, too_large}
use Rattle.lines.proofs.partial.number_byte.Goals as goal

pub returns-then-not-contains : goal.returns-then-not-contains
unfolding command_after
returns-then-not-contains c =
    let out : (c.args.b < 48) ⊎ (57 < c.args.b) = search rules in
    λ more. no_digit _ _ c.args.b more c.requires c.args.numbers.last out

pub returns-in-Some : goal.returns-in-Some
unfolding command_after
returns-in-Some c =
    let u : c.unwrap_or.result ≡ unwrap_or c.args.numbers.last 0 = c.unwrap_or.ensures in
    λ more. rw (c.in-Some.ensures.1, u) (number_more _ _ c.args.b more c.requires c.args.numbers.last (search rules) (search rules))

pub returns-in-None : goal.returns-in-None
unfolding command_after
returns-in-None c =
    let u : c.unwrap_or.result ≡ unwrap_or c.args.numbers.last 0 = c.unwrap_or.ensures in
    λ more. too_large _ _ c.args.b more c.requires c.args.numbers.last (omega (arith, c.in-None.ensures))
