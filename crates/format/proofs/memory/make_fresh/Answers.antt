-- `format::memory::make_fresh` meets its contract: the pages, then the work memory. Assumes nothing.
use mathlib.Core.Path.{refl, sym}
use native.Mathlib.Omega.{arith}
use Rattle.model.specs.Memory.{copy_at, owner_at, work_words}
use Rattle.model.proofs.Bounds.{bounded, total_max}
use Rattle.format.proofs.Joined.{fresh_ran}
use Rattle.format.proofs.memory.make_fresh.Goals as goal

pub fresh_work-requires : goal.fresh_work-requires
unfolding work_words owner_at copy_at
fresh_work-requires c =
    let b = bounded _ c.requires.0.sizes in
    (b.disks_max, omega (arith, c.requires.1, total_max _ b), omega (arith, c.requires.0.work_words_lem, c.requires.1))

pub returns : goal.returns
returns c =
    let s = c.args.sizes in
    λ budget anchor backups logs.
    rw (c.fill_words.ensures, c.fresh_work.ensures s refl (sym c.requires.1))
    (fresh_ran s budget _ anchor backups logs c.args.pages.now c.args.work.now c.requires.1)
