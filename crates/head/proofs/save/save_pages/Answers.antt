-- `head::save::save_pages` meets its contract: the lists lie one behind the other. Assumes nothing.
use borrow.Author.Rules.{rules}
use Rattle.head.proofs.Capped.{laid_words}
use Rattle.head.proofs.Laying.{two_runs}
use Rattle.head.proofs.save.save_pages.Goals as goal

pub returns : goal.returns
returns c =
    let s = c.args in
    let first = c.put_numbers in
    let second = c.put_numbers-2 in
    two_runs s.work.now 0 64 s.sizes.slots _ (search rules) (laid_words s.work.now 0 s.sizes.slots first.ensures)
    (two_runs first.new.work 64 64 s.sizes.widths s.bases.pages (search rules) (laid_words first.new.work 64 s.sizes.widths second.ensures)
    (laid_words second.new.work 128 s.bases.pages c.put_numbers-3.ensures))
