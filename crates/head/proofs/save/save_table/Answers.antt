-- `head::save::save_table` meets its contract: the lists lie one behind the other. Assumes nothing.
use borrow.Author.Rules.{rules}
use Rattle.head.proofs.Capped.{laid_words}
use Rattle.head.proofs.Laying.{two_runs}
use Rattle.head.proofs.save.save_table.Goals as goal

pub returns : goal.returns
returns c =
    let s = c.args in
    let first = c.put_numbers in
    let second = c.put_numbers-2 in
    let third = c.put_numbers-3 in
    two_runs s.work.now 217 16 s.table.numbers _ (search rules) (laid_words s.work.now 217 s.table.numbers first.ensures)
    (two_runs first.new.work 233 16 s.table.disks _ (search rules) (laid_words first.new.work 233 s.table.disks second.ensures)
    (two_runs second.new.work 249 16 s.table.firsts s.table.reserved (search rules) (laid_words second.new.work 249 s.table.firsts third.ensures) (laid_words third.new.work 265 s.table.reserved c.put_numbers-4.ensures)))
