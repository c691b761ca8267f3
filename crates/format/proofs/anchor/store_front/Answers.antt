-- `format::anchor::store_front` meets its contract: the words are stored once the number is 0. Assumes nothing.
use Rattle.format.proofs.AnchorParts.{front_cut, front_whole}
use Rattle.format.proofs.anchor.store_front.Goals as goal

pub returns-then-not-store_word : goal.returns-then-not-store_word
returns-then-not-store_word c =
    let x = c.args in
    λ memory backups logs work.
    front_cut memory backups logs work x.pages x.disks x.ring c.store_word.ensures (c.if-not-store_word.true)

pub returns : goal.returns
returns c =
    let x = c.args in
    λ memory backups logs work.
    front_whole memory backups logs work x.pages x.disks x.ring c.store_word.ensures (c.if-not-store_word.false) c.store_copy.ensures
