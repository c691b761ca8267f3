-- `table::sound::disk_sound` meets its contract: by cases on the tests. Assumes nothing.
use borrow.Author.Tests.{lt-leb, le-leb, eq-eqb, ne_eqb}
use Rattle.table.proofs.sound.disk_sound.Goals as goal

pub returns-then-kept-reserved : goal.returns-then-kept-reserved
returns-then-kept-reserved c = rw (ne_eqb _ _ c.if-kept-reserved.true)

pub returns-then-fill-gt64 : goal.returns-then-fill-gt64
returns-then-fill-gt64 c = rw (eq-eqb _ _ c.if-kept-reserved.false, lt-leb _ _ c.if-fill-gt64.true)

pub returns-then-tail-start : goal.returns-then-tail-start
returns-then-tail-start c = rw (eq-eqb _ _ c.if-kept-reserved.false, le-leb _ _ c.if-fill-gt64.false, lt-leb _ _ c.if-tail-start.true)

pub returns : goal.returns
returns c =
    rw (eq-eqb _ _ c.if-kept-reserved.false, le-leb _ _ c.if-fill-gt64.false, le-leb _ _ c.if-tail-start.false) c.has_room.ensures
