use native.Mathlib.Omega.{arith}
use borrow.Author.Tests.{eq-eqb, ne_eqb}
use Rattle.layout.proofs.bounds.unused_fault.Goals as goal

pub returns-then-slots-ne0 : goal.returns-then-slots-ne0
returns-then-slots-ne0 c = (omega arith, rw (ne_eqb _ _ c.if-slots-ne0.true))

pub returns-then-width-ne0 : goal.returns-then-width-ne0
returns-then-width-ne0 c = (omega arith, rw (eq-eqb _ _ c.if-slots-ne0.false, ne_eqb _ _ c.if-width-ne0.true))

pub returns-else-width-ne0 : goal.returns-else-width-ne0
returns-else-width-ne0 c = (omega arith, rw (eq-eqb _ _ c.if-slots-ne0.false, eq-eqb _ _ c.if-width-ne0.false))
