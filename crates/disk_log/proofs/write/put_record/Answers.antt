-- `put_record` meets its contract: all words of a list are its part from 0 on. Assumes nothing.
use Rattle.disk_log.proofs.Words.{put_all}
use Rattle.disk_log.proofs.write.put_record.Goals as goal

pub returns : goal.returns
returns c =
    let args = c.args in
    put_all args.work.now args.at args.words.now c.copy_words.ensures
