-- `table::sound::entry_sound` meets its contract: by cases on the tests, in the order of the definition. Assumes nothing.
use native.Mathlib.Omega.{arith}
use borrow.Author.Tests.{lt-leb, le-leb, lt-ltb, le-ltb, eq-eqb, ne_eqb}
use Rattle.model.specs.State.{start_of, tail_of, fill_of, end_of}
use Rattle.table.specs.Parts.{entry_sound}
use Rattle.table.proofs.sound.entry_sound.Goals as goal

pub returns-then-number-eq0 : goal.returns-then-number-eq0
unfolding entry_sound
returns-then-number-eq0 c = rw (eq-eqb _ _ c.if-number-eq0.true)

pub returns-then-d-disks : goal.returns-then-d-disks
unfolding entry_sound
returns-then-d-disks c = rw (ne_eqb _ _ c.if-number-eq0.false, le-ltb _ _ c.if-d-disks.true)

pub returns-then-reserved-lt-CLOSE_WORDS : goal.returns-then-reserved-lt-CLOSE_WORDS
unfolding entry_sound
returns-then-reserved-lt-CLOSE_WORDS c = rw (ne_eqb _ _ c.if-number-eq0.false, lt-ltb _ _ c.if-d-disks.false, lt-leb _ _ c.if-reserved-lt-CLOSE_WORDS.true)

pub returns-then-reserved-eq-CLOSE_WORDS : goal.returns-then-reserved-eq-CLOSE_WORDS
unfolding entry_sound
returns-then-reserved-eq-CLOSE_WORDS c = rw (ne_eqb _ _ c.if-number-eq0.false, lt-ltb _ _ c.if-d-disks.false, c.if-reserved-eq-CLOSE_WORDS.true)

pub returns : goal.returns
unfolding entry_sound start_of tail_of fill_of end_of
returns c =
    rw (
      ne_eqb _ _ c.if-number-eq0.false,
      lt-ltb _ _ c.if-d-disks.false,
      le-leb _ _ c.if-reserved-lt-CLOSE_WORDS.false,
      lt-ltb 2 c.args.reserved (omega arith),
    )
    c.covers.ensures
