-- `layout::backup::backup_at` meets its contract: the current backup is the first or the second. Assumes nothing.
use mathlib.Core.Path.{◌≡◌}
use Prim.Native.Nat.{◌%◌}
use native.Mathlib.Nat.{zero-mul, one-mul}
use native.Mathlib.Omega.{arith}
use Rattle.model.specs.Anchor.{backup_at}
use Rattle.layout.proofs.backup.backup_at.Goals as goal

pub returns-then-epoch-eq0 : goal.returns-then-epoch-eq0
unfolding backup_at
returns-then-epoch-eq0 c = (rw (c.if-epoch-eq0.true, zero-mul), omega arith)

pub returns : goal.returns
unfolding backup_at
returns c =
    let odd : c.args.epoch % 2 ≡ 1 = omega arith in
    (rw (odd, one-mul) c.total-words.ensures.0, omega arith)
