-- `format::anchor::store_arrays` meets its contract: each array is stored once the one before it is. Assumes nothing.
use Rattle.format.proofs.AnchorParts.{slots_cut, widths_cut, arrays_whole}
use borrow.Author.Rules.{rules}
use Rattle.format.proofs.anchor.store_arrays.Goals as goal

pub returns-then-not-store_copy : goal.returns-then-not-store_copy
returns-then-not-store_copy c =
    λ memory backups logs work.
    slots_cut memory backups logs work _ _ (search rules) (search rules) c.store_copy.ensures (c.if-not-store_copy.true)

pub returns-then-not-store_copy-2 : goal.returns-then-not-store_copy-2
returns-then-not-store_copy-2 c =
    λ memory backups logs work.
    widths_cut memory backups logs work _ _ (search rules) (search rules) c.store_copy.ensures (c.if-not-store_copy.false) c.store_copy-2.ensures (c.if-not-store_copy-2.true)

pub returns : goal.returns
returns c =
    λ memory backups logs work.
    arrays_whole memory backups logs work _ _ (search rules) (search rules) c.store_copy.ensures (c.if-not-store_copy.false) c.store_copy-2.ensures (c.if-not-store_copy-2.false) c.store_fill.ensures
