-- `head::table::place_of` meets its contract: no place passed holds the number. Assumes nothing.
use mathlib.Core.Path.{◌≡◌, sym}
use native.Mathlib.Omega.{arith}
use borrow.Author.Count.{below_more}
use borrow.Author.Rules.{rules}
use Rattle.head.proofs.InTable.{place_found, place_none}
use Rattle.head.proofs.table.place_of.Goals as goal

pub loop-i-init : goal.loop-i-init
loop-i-init c = λ k h e. omega arith

pub returns-then-work-i : goal.returns-then-work-i
returns-then-work-i c = record { low = search rules; found = λ h own. place_found h _ own _ _ (search rules) c.if-work-i.true c.loop-i.invariant }

pub loop-i-preserved : goal.loop-i-preserved
loop-i-preserved c = below_more _ _ c.loop-i.invariant c.if-work-i.false

pub returns : goal.returns
returns c =
    let e : c.loop-i.i ≡ 16 = omega arith in
    record { low = search rules; found = λ h own. sym (place_none h _ own _ (rw e at c.loop-i.invariant)) }
