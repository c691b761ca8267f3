-- `frame::home::home_of` meets its contract: by the numbers of the disk. Assumes nothing.
use mathlib.Core.Path.{refl}
use Rattle.model.specs.State.{tail_of, fill_of}
use borrow.Author.Rules.{rules}
use Rattle.frame.proofs.home.home_of.Goals as goal

pub returns : goal.returns
unfolding tail_of fill_of
returns c =
    let x = c.args in
    record {
      value = c.home_at.ensures x.sizes x.logs refl refl refl;
      starts_len = (search rules, search rules, search rules);
    }
