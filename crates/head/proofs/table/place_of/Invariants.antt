-- `head::table::place_of` meets its contract: no place passed holds the number. Assumes nothing.
use Rattle.head.proofs.InTable.{Absent}
use Rattle.head.proofs.table.place_of.Given as goal

abbrev pub invariant-loop-i : goal.invariant-loop-i
invariant-loop-i l = Absent l.work l.number l.i
