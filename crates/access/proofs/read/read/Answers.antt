-- `access::read::read` meets its contract: a slot that is there lies in the page memory. Assumes nothing.
use Rattle.model.specs.World.{world_of}
use Rattle.access.proofs.Readings.{read_none, read_words_lem}
use Rattle.access.proofs.read.read.Goals as goal

pub returns-in_default : goal.returns-in_default
returns-in_default c =
    let x = c.args in
    let w = world_of x.anchor.now x.pages.now x.backups.now x.logs.now x.work.now in
    read_none x.carried w c.readable.ensures c.in_default.field-0 c.in_default.is

pub slot_part-requires : goal.slot_part-requires
slot_part-requires c = (c.readable.ensures.ready c.in-Ok.found c.in-Ok.is).within

pub returns : goal.returns
returns c =
    let x = c.args in
    let w = world_of x.anchor.now x.pages.now x.backups.now x.logs.now x.work.now in
    read_words_lem x.carried w c.readable.ensures c.in-Ok.is c.slot_part.ensures
