-- `txn::begin::idlest_disk` meets its contract: the head's words of the disks are the view's. Assumes nothing.
use Rattle.model.specs.Word.{part}
use Rattle.model.specs.Room.{idlest}
use Rattle.txn.proofs.Beginning.{idlest_words, chosen_same}
use Rattle.txn.proofs.begin.idlest_disk.Goals as goal

pub returns : goal.returns
unfolding part idlest
returns c =
    record {
      low = c.idlest.ensures.low;
      chosen = λ h class own disks ring starts tails set. chosen_same _ (idlest_words h _ own class disks ring starts tails set) c.idlest.ensures.chosen;
    }
