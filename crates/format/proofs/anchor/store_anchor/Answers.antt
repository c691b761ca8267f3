-- `format::anchor::store_anchor` meets its contract: the arrays are stored once the front is. Assumes nothing.
use Rattle.device.proofs.Ran.{ran_then, ran_cut}
use Rattle.format.proofs.anchor.store_anchor.Goals as goal

pub returns-then-not-store_front : goal.returns-then-not-store_front
returns-then-not-store_front c = λ memory backups logs work. ran_cut (c.store_front.ensures memory backups logs work) _ (c.if-not-store_front.true)

pub returns : goal.returns
returns c =
    λ memory backups logs work.
    ran_then (c.store_front.ensures memory backups logs work) _ (c.if-not-store_front.false) (c.store_arrays.ensures memory backups logs work)
