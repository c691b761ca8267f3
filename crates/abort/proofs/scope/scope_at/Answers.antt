-- `abort::scope::scope_at` meets its contract: by whether there is an update. Assumes nothing.
use mathlib.Core.Path.{refl}
use native.Mathlib.Omega.{arith}
use borrow.Author.Tests.{lt-ltb, le-ltb}
use Rattle.abort.specs.Scope.{scope_in}
use Rattle.abort.proofs.scope.scope_at.Goals as goal

pub returns-then-words-eq0 : goal.returns-then-words-eq0
unfolding scope_in
returns-then-words-eq0 c =
    rw (le-ltb 2 c.args.entry.reserved (omega (arith, c.if-words-eq0.true))) refl

pub returns : goal.returns
unfolding scope_in
returns c =
    rw (lt-ltb 2 c.args.entry.reserved (omega (arith, c.if-words-eq0.false))) refl
