-- `head::save::save_disks` meets its contract: the lists lie one behind the other. Assumes nothing.
use mathlib.Core.Path.{refl}
use mathlib.Core.List.{[], ◌∷◌}
use borrow.Author.Rules.{rules}
use Rattle.head.proofs.Capped.{laid_words}
use Rattle.head.proofs.Laying.{two_runs}
use Rattle.head.proofs.save.save_disks.Goals as goal

pub returns : goal.returns
returns c =
    let s = c.args in
    let first = c.put_numbers in
    let second = c.put_numbers-2 in
    two_runs s.work.now 192 8 s.fills _ (search rules) (laid_words s.work.now 192 s.fills first.ensures)
    (two_runs first.new.work 200 8 s.sums _ (search rules) (laid_words first.new.work 200 s.sums second.ensures)
    (two_runs second.new.work 208 8 s.replay.positions (s.replay.page ∷ []) (search rules) (laid_words second.new.work 208 s.replay.positions c.put_numbers-3.ensures) refl))
