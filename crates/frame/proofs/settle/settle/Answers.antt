-- `frame::settle::settle` meets its contract: by cases on whether all stores were made. Assumes nothing.
use mathlib.Core.Path.{refl}
use Rattle.frame.proofs.settle.settle.Goals as goal

pub returns-then-whole : goal.returns-then-whole
returns-then-whole c = rw (c.if-whole.true, c.saturating_sub-stores.ensures) refl

pub returns : goal.returns
returns c = rw (c.if-whole.false, c.saturating_sub-stores.ensures, c.new_core.ensures) refl
