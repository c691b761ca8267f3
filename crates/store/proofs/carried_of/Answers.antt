-- `store::carried_of` meets its contract: an array has its length by its type. Assumes nothing.
use mathlib.Core.Path.{refl}
use borrow.Author.Rules.{rules}
use Rattle.store.proofs.carried_of.Goals as goal

pub returns : goal.returns
returns c =
    record {
      value = refl;
      arrays = (search rules, search rules, search rules);
    }
