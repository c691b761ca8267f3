-- `head::hand::hand_back` meets its contract: by cases on whether the head is saved. Assumes nothing.
use mathlib.Core.Path.{sym, ◌∙◌}
use Rattle.head.proofs.Handing.{saved_head, left_whole}
use Rattle.head.proofs.hand.hand_back.Goals as goal

pub save-requires : goal.save-requires
save-requires c = c.requires (sym c.is_saved.ensures ∙ c.if-is_saved.true)

pub returns-then-is_saved : goal.returns-then-is_saved
returns-then-is_saved c =
    let s = c.args in
    let saved = sym c.is_saved.ensures ∙ c.if-is_saved.true in
    (rw c.carried_of-carried.ensures, rw (saved_head s.reply.answer s.reply.core s.work.now saved) c.save.ensures)

pub returns : goal.returns
returns c =
    let s = c.args in
    let left = sym c.is_saved.ensures ∙ c.if-is_saved.false in
    (rw c.carried_of-carried.ensures, left_whole s.reply.answer s.reply.core s.work.now left)
