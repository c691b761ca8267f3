-- `frame::switch::switch_to` meets its contract: the number is stored once the starts are. Assumes nothing.
use Rattle.frame.proofs.Switches.{switch_cut, switch_whole}
use Rattle.frame.proofs.switch.switch_to.Goals as goal

pub returns-then-not-store_copy : goal.returns-then-not-store_copy
returns-then-not-store_copy c = let args = c.args in
    λ pages backups logs work.
    switch_cut args.number args.disks _ pages backups logs work c.store_copy.ensures (c.if-not-store_copy.true)

pub returns : goal.returns
returns c = let args = c.args in
    λ pages backups logs work.
    switch_whole args.number args.disks _ pages backups logs work c.store_copy.ensures (c.if-not-store_copy.false) c.store_word.ensures
