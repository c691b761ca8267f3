-- `layout::bounds::lengths_right` meets its contract: one length after the other. Assumes nothing.
use mathlib.Core.Path.{refl}
use borrow.Author.Tests.{eq-eqb, ne_eqb}
use Rattle.model.specs.Sizes.{log_words}
use Rattle.model.specs.Memory.{work_words, owner_at}
use Rattle.layout.specs.Raw.{counts_of, lengths_are}
use Rattle.layout.proofs.bounds.lengths_right.Goals as goal

pub returns-then-pages-all : goal.returns-then-pages-all
unfolding lengths_are
returns-then-pages-all c = rw (ne_eqb _ _ c.if-pages-all.true)

pub returns-then-backups-all : goal.returns-then-backups-all
unfolding lengths_are
returns-then-backups-all c = rw (eq-eqb _ _ c.if-pages-all.false, ne_eqb _ _ c.if-backups-all.true)

pub returns-then-logs-disk_at : goal.returns-then-logs-disk_at
unfolding lengths_are log_words
returns-then-logs-disk_at c =
    let x = c.args in
    rw (
      eq-eqb _ _ c.if-pages-all.false,
      eq-eqb _ _ c.if-backups-all.false,
      ← c.disk_at.ensures.0 (counts_of 0 x.disks x.ring) refl,
      ne_eqb _ _ c.if-logs-disk_at.true,
    )

pub returns : goal.returns
unfolding lengths_are log_words work_words owner_at
returns c =
    let x = c.args in
    rw (
      eq-eqb _ _ c.if-pages-all.false,
      eq-eqb _ _ c.if-backups-all.false,
      ← c.disk_at.ensures.0 (counts_of 0 x.disks x.ring) refl,
      eq-eqb _ _ c.if-logs-disk_at.false,
      ← c.copy_place.ensures.0 (counts_of 0 x.disks x.ring) refl,
    )
