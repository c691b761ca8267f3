-- `txn::commit::store_close` meets its contract: an append, and a flush of what it left. Assumes nothing.
use Rattle.disk_log.proofs.Next.{appended_lent, appended_within}
use Rattle.txn.proofs.Committed.{closing_cut, closing_flushed}
use borrow.Author.Rules.{rules}
use Rattle.txn.proofs.commit.store_close.Goals as goal

pub returns-in_default : goal.returns-in_default
returns-in_default c = λ s l w lent tails fills.
    closing_cut s l w _ _ _ (rw c.in_default.is at (c.append_close.ensures.appends s l w lent))

pub flush_disk-requires : goal.flush_disk-requires
flush_disk-requires c =
    appended_within 2 c.requires.within (rw c.in-Some.is at c.append_close.ensures.ends) c.requires.fill_bound (search rules) (search rules)

pub returns : goal.returns
returns c = λ s l w lent tails fills.
    let did = rw c.in-Some.is at (c.append_close.ensures.appends s l w lent) in
    closing_flushed s l w _ _ _ did (c.flush_disk.ensures s _ _ (appended_lent lent did tails fills))
