-- `store::whole::loaded` meets its contract: the state of what is carried and of the head. Assumes nothing.
use Rattle.store.proofs.whole.loaded.Goals as goal

pub returns : goal.returns
returns c =
    record {
      value = rw c.carried_of-carried.ensures.value at c.load.ensures;
      arrays = c.carried_of-carried.ensures.arrays;
    }
