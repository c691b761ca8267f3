-- `append_close` meets its contract. Assumes nothing.
use Rattle.disk_log.proofs.Words.{close_words}
use Rattle.disk_log.proofs.write.append_close.Goals as goal

pub returns : goal.returns
returns c =
    let a = c.args in
    let f = c.append in
    record {
      appends = λ s l w lent. rw (← close_words a.kind a.number) (f.ensures.appends s l w lent);
      ends = f.ensures.ends;
    }
