-- `disk_log::read::read_word` meets its contract: the ring word lies within the disk's part of the logs.
use native.Mathlib.Nat.{mod-lt}
use native.Mathlib.Omega.{arith}
use borrow.Author.Tests.{lt-ltb, le-ltb}
use Rattle.model.specs.Sizes.{ring_word}
use Rattle.model.specs.Decode.{read_log}
use Rattle.disk_log.proofs.read.read_word.Goals as goal

pub overflow_add-at-then-p-tail : goal.overflow_add-at-then-p-tail
overflow_add-at-then-p-tail c = omega (arith, mod-lt c.args.p c.requires.0)

pub offset_bounds-logs-at : goal.offset_bounds-logs-at
offset_bounds-logs-at c = omega (arith, mod-lt c.args.p c.requires.0)

pub bounds-logs-at : goal.bounds-logs-at
bounds-logs-at c = omega (arith, mod-lt c.args.p c.requires.0)

pub returns-then-p-tail : goal.returns-then-p-tail
unfolding read_log ring_word
returns-then-p-tail c = λ s disk lies. rw (lies.same_place, lies.same_ring) (simp (lt-ltb _ _ c.if-p-tail.true))

pub returns : goal.returns
unfolding read_log
returns c = λ s disk lies. simp (le-ltb _ _ c.if-p-tail.false)
