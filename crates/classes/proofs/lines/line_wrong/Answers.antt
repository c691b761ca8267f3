-- `classes::lines::line_wrong` meets its contract: by definition; a set has a bit for each of at most 8 disks. Assumes nothing.
use Rattle.std.proofs.Common.{arith, ◌<◌}
use Rattle.std.proofs.lemmas.Bool.Decides.{nat_tests}
use native.Mathlib.Nat.{one-mul, mod-eq_of_lt}
use lib.Pow.{pow-lt}
use Rattle.model.specs.Classes.{line_wrong}
use Rattle.classes.proofs.lines.line_wrong.Goals as goal
use Rattle.classes.proofs.lines.line_wrong.Goals.{then-high-low, else-high-low, then-high-gt255, else-high-gt255}

pub returns-then-set-eq0 : goal.returns-then-set-eq0
unfolding line_wrong
returns-then-set-eq0 c =
    elim c.if-high-gt255.branch [
      | then-high-gt255 w ↦ elim c.if-high-low.branch [ then-high-low v ↦ grind (arith, nat_tests, v, w) | else-high-low v ↦ grind (arith, nat_tests, v, w) ]
      | else-high-gt255 w ↦ grind (arith, nat_tests, w, c.if-set-eq0)
    ]

pub returns-else-set-eq0 : goal.returns-else-set-eq0
unfolding line_wrong
returns-else-set-eq0 c =
    let few : c.args.disks < 64 = omega arith in
    rw (one-mul, mod-eq_of_lt (pow-lt few)) (grind (arith, nat_tests, c.if-set-eq0))
