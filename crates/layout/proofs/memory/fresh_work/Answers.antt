-- `layout::memory::fresh_work` meets its contract: the owners are the last words, the copy numbers lie before them. Assumes nothing.
use mathlib.Core.Path.{refl}
use native.Mathlib.Omega.{arith}
use Rattle.model.specs.Memory.{copy_at, owner_at}
use Rattle.layout.specs.Raw.{counts_of}
use Rattle.layout.proofs.Laws.{fresh_set}
use Rattle.layout.proofs.memory.fresh_work.Goals as goal

pub fill_words-requires : goal.fill_words-requires
unfolding copy_at owner_at
fill_words-requires c =
    omega (arith, c.requires, c.owner_place.ensures (counts_of 0 c.args.disks 0) refl)

pub fill_words-requires-2 : goal.fill_words-requires-2
unfolding copy_at
fill_words-requires-2 c =
    omega (arith, c.requires, c.copy_place.ensures.0 (counts_of 0 c.args.disks 0) refl)

pub returns : goal.returns
returns c =
    λ s disks words.
    fresh_set s _ _ words (c.owner_place.ensures s disks) (c.copy_place.ensures.0 s disks)
    c.fill_words.ensures c.fill_words-2.ensures
