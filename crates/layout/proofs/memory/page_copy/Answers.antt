-- `layout::memory::page_copy` meets its contract: the word at its place. Assumes nothing.
use mathlib.Core.Path.{refl}
use native.Mathlib.Omega.{arith}
use Rattle.model.specs.Memory.{copy_at, copy_of}
use Rattle.layout.specs.Raw.{counts_of}
use Rattle.layout.proofs.memory.page_copy.Goals as goal

pub bounds-work-at : goal.bounds-work-at
unfolding copy_at
bounds-work-at c =
    let at = c.copy_place-at.ensures.0 (counts_of 0 c.args.disks 0) refl in
    omega (arith, at)

pub returns : goal.returns
unfolding copy_of
returns c = λ s same. rw (← c.copy_place-at.ensures.0 s same) refl
