-- `frame::replaying::replay_right` meets its contract: its tests are those of the definition, in another order. Assumes nothing.
use mathlib.Core.Path.{sym, ◌∙◌}
use borrow.Author.Tests.{le-ltb, lt-ltb, lt-leb, le-leb}
use Rattle.frame.proofs.ReplayRight.{replay_parts}
use Rattle.frame.proofs.replaying.replay_right.Goals as goal

pub returns-then-epoch-ge-LIMIT : goal.returns-then-epoch-ge-LIMIT
returns-then-epoch-ge-LIMIT c h own pages disks total epoch tails counts =
    rw (le-ltb _ _ c.if-epoch-ge-LIMIT.true) at (replay_parts h _ own pages disks epoch tails c.requires.1)

pub returns-then-pages-work : goal.returns-then-pages-work
returns-then-pages-work c h own pages disks total epoch tails counts =
    rw (lt-ltb _ _ c.if-epoch-ge-LIMIT.false, lt-leb _ _ c.if-pages-work.true) at (replay_parts h _ own pages disks epoch tails c.requires.1)

pub returns-then-not-positions_right : goal.returns-then-not-positions_right
returns-then-not-positions_right c h own pages disks total epoch tails counts =
    rw (lt-ltb _ _ c.if-epoch-ge-LIMIT.false, le-leb _ _ c.if-pages-work.false, sym c.positions_right.ensures ∙ c.if-not-positions_right.true) at (replay_parts h _ own pages disks epoch tails c.requires.1)

pub returns : goal.returns
returns c h own pages disks total epoch tails counts =
    c.pages_right.ensures h own pages total counts
    ∙ (rw (lt-ltb _ _ c.if-epoch-ge-LIMIT.false, le-leb _ _ c.if-pages-work.false, sym c.positions_right.ensures ∙ c.if-not-positions_right.false) at (replay_parts h _ own pages disks epoch tails c.requires.1))
