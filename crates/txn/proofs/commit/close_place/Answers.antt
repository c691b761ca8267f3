-- `txn::commit::close_place` meets its contract: one word, then the place. Assumes nothing.
use mathlib.Core.Path.{refl}
use Rattle.model.specs.Fields.{put_words}
use Rattle.txn.proofs.commit.close_place.Goals as goal

pub returns : goal.returns
unfolding put_words
returns c = rw (c.leave.ensures, c.set_fill.ensures) refl
