-- `frame::checks::serving_sound` meets its contract: the sizes, what is kept of them, then the rest of the test. Assumes nothing.
use mathlib.Core.Path.{refl, sym, ◌∙◌}
use native.Mathlib.Omega.{arith}
use borrow.Author.Tests.{lt-ltb, le-ltb}
use Rattle.model.specs.State.{base_of}
use Rattle.model.proofs.Bounds.{bounded}
use Rattle.model.proofs.KeptBases.{bases_by_page}
use Rattle.table.proofs.Tests.{serving_split}
use Rattle.frame.proofs.checks.serving_sound.Goals as goal

pub returns-then-not-sizes_in_bounds : goal.returns-then-not-sizes_in_bounds
returns-then-not-sizes_in_bounds c = rw (serving_split c.args.core, ← c.sizes_in_bounds.ensures, c.if-not-sizes_in_bounds.true) refl

pub bases_right-requires : goal.bases_right-requires
bases_right-requires c = sym c.sizes_in_bounds.ensures ∙ c.if-not-sizes_in_bounds.false

pub returns-then-not-bases_right : goal.returns-then-not-bases_right
unfolding base_of
returns-then-not-bases_right c =
    rw (
      serving_split c.args.core,
      ← c.sizes_in_bounds.ensures,
      c.if-not-sizes_in_bounds.false,
      bases_by_page c.args.core,
      ← c.bases_right.ensures,
      c.if-not-bases_right.true,
    )
    refl

pub returns-then-core-eq0 : goal.returns-then-core-eq0
unfolding base_of
returns-then-core-eq0 c =
    rw (
      serving_split c.args.core,
      ← c.sizes_in_bounds.ensures,
      c.if-not-sizes_in_bounds.false,
      bases_by_page c.args.core,
      ← c.bases_right.ensures,
      c.if-not-bases_right.false,
      le-ltb 0 c.args.core.next (omega arith),
    )
    refl

pub serving_bounds-requires : goal.serving_bounds-requires
serving_bounds-requires c = (bounded _ (sym c.sizes_in_bounds.ensures ∙ c.if-not-sizes_in_bounds.false)).disks_max

pub returns : goal.returns
unfolding base_of
returns c =
    rw (
      serving_split c.args.core,
      ← c.sizes_in_bounds.ensures,
      c.if-not-sizes_in_bounds.false,
      bases_by_page c.args.core,
      ← c.bases_right.ensures,
      c.if-not-bases_right.false,
      lt-ltb 0 c.args.core.next (omega arith),
    )
    c.serving_bounds.ensures
