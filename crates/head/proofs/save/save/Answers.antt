-- `head::save::save` meets its contract: the lists lie one behind the other, from the first word on. Assumes nothing.
use borrow.Author.Rules.{rules}
use Rattle.model.proofs.View.Head.{HeadSized}
use Rattle.head.proofs.Laying.{arrays_sized, head_laid}
use Rattle.head.proofs.save.save.Goals as goal

pub returns : goal.returns
returns c =
    let sized : HeadSized c.args.core =
    arrays_sized c.args.core (search rules) (search rules) (search rules) (search rules) (search rules) (search rules) (search rules) (search rules) (search rules) (search rules) in
    head_laid c.args.core sized c.args.work.now c.requires c.save_pages.ensures c.save_disks.ensures c.save_table.ensures
