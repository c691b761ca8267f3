-- `access::read::read_answer` meets its contract: by cases on the refusal. Assumes nothing.
use Rattle.model.specs.World.{world_of}
use Rattle.access.proofs.Readings.{read_refused, read_finished}
use Rattle.access.proofs.read.read_answer.Goals as goal

pub returns-in-Err : goal.returns-in-Err
returns-in-Err c =
    let x = c.args in
    let w = world_of x.anchor.now x.pages.now x.backups.now x.logs.now x.work.now in
    rw c.number.ensures (read_refused x.carried w c.readable.ensures c.in-Err.refusal c.in-Err.is)

pub returns-in-Ok : goal.returns-in-Ok
returns-in-Ok c =
    let x = c.args in
    let w = world_of x.anchor.now x.pages.now x.backups.now x.logs.now x.work.now in
    read_finished x.carried w c.readable.ensures c.in-Ok.is
