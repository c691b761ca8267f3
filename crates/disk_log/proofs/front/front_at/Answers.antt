-- `disk_log::front::front_at` meets its contract: within a turn the two words stand side by side.
use Prim.Native.Nat.{◌+◌}
use native.Mathlib.Omega.{arith}
use Rattle.disk_log.proofs.Fronts.{turn_read}
use Rattle.disk_log.proofs.front.front_at.Goals as goal

pub returns-then-p-turn : goal.returns-then-p-turn
returns-then-p-turn c =
    let turn = c.requires.2 in
    let near = c.if-p-turn.true in
    λ s disk lies.
    record {
      first = turn_read s _ disk _ _ lies turn c.args.p _ turn.begun (omega arith) (omega arith);
      number = λ _. turn_read s _ disk _ _ lies turn (c.args.p + 1) _ (omega (arith, turn.begun)) near (omega (arith, turn.begun));
    }

pub returns-then-p-extent : goal.returns-then-p-extent
returns-then-p-extent c =
    λ s disk lies. record { first = c.read_word-first.ensures s disk lies; number = λ _. c.read_word-number.ensures s disk lies }

pub returns : goal.returns
returns c =
    λ s disk lies. record { first = c.read_word-first.ensures s disk lies; number = λ l. absurd (omega (arith, l, c.if-p-extent.false)) }
