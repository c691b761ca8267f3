-- `append` meets its contract. Assumes nothing.
use native.Mathlib.Omega.{arith}
use Rattle.disk_log.proofs.Append.{put_fits, put_cut, put_flushed}
use Rattle.disk_log.proofs.write.append.Goals as goal

pub returns-then-fill-n-le64 : goal.returns-then-fill-n-le64
returns-then-fill-n-le64 c =
    record {
      appends = λ s l w lent. put_fits lent c.args.words.now (omega arith) c.args.budget.now _ c.put_record.ensures;
      ends = (omega arith, omega arith);
    }

pub returns-then-not-flush_disk : goal.returns-then-not-flush_disk
returns-then-not-flush_disk c =
    let f = c.flush_disk in
    record {
      appends = λ s l w lent.
          put_cut lent c.args.words.now (omega arith) (f.ensures s l w lent) (c.if-not-flush_disk.true);
      ends = tt;
    }

pub returns : goal.returns
returns c =
    let f = c.flush_disk in
    record {
      appends = λ s l w lent.
          put_flushed lent c.args.words.now (omega arith) (f.ensures s l w lent) _
          (c.if-not-flush_disk.false) c.put_record-2.ensures;
      ends = (c.requires.1, omega arith);
    }
