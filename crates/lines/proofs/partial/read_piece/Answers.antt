-- `lines::partial::read_piece` meets its contract: what is left of the piece, and what follows it, is to come.
use native.Mathlib.Omega.{arith}
use mathlib.Core.Path.{◌≡◌, ◌∙◌}
use mathlib.Core.List.{◌++◌}
use Prim.Native.Nat.{◌+◌}
use lib.ListN.{length, drop}
use lib.Seq.{drop-length}
use Rattle.lines.specs.After.{command_after}
use Rattle.lines.proofs.Pieces.{byte_of}
use Rattle.lines.proofs.partial.read_piece.Goals as goal

pub loop-b-preserved : goal.loop-b-preserved
loop-b-preserved c =
    let bytes = c.args.bytes.now in
    λ more. c.step-p.ensures (drop (c.loop-b.b-index + 1) bytes ++ more) ∙ rw (byte_of bytes more c.loop-b.b-index (omega arith)) at (c.loop-b.invariant more)

pub returns-in-Hopeless : goal.returns-in-Hopeless
unfolding command_after
returns-in-Hopeless c = λ more. rw c.in-Hopeless.is (rw c.in-Hopeless.is at (c.loop-b.invariant more))

pub returns : goal.returns
returns c =
    let bytes = c.args.bytes.now in
    let e : c.loop-b.b-index ≡ length bytes = omega arith in
    λ more. rw (e, drop-length bytes) at (c.loop-b.invariant more)
