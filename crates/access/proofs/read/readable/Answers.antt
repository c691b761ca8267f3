-- `access::read::readable` meets its contract: one row after the other. Assumes nothing.
use mathlib.Core.Path.{refl, sym, ◌∙◌}
use borrow.Author.Tests.{eqb-true, eqb-false}
use Rattle.std.proofs.lemmas.Result.{err_from_is_err_and}
use Rattle.model.specs.World.{world_of}
use Rattle.access.proofs.FirstRows.{ready, own, numbers_fit, owner_within}
use Rattle.access.proofs.Readings.{readable_first, readable_unfit, readable_unanchored, readable_missing, readable_unopened, readable_locked, readable_found}
use Rattle.access.proofs.read.readable.Goals as goal

pub returns-in_err-check_lent : goal.returns-in_err-check_lent
returns-in_err-check_lent c =
    let x = c.args in
    let w = world_of x.anchor.now x.pages.now x.backups.now x.logs.now x.work.now in
    let p = err_from_is_err_and c.from_residual.result c.from_residual.ensures.1 in
    rw (p.1, p.2) (readable_first x.carried.now w x.reader x.page x.slot c.in_err-check_lent.field-0.0 c.in_err-check_lent.ensures)

pub find_slot-asked-requires : goal.find_slot-asked-requires
find_slot-asked-requires c =
    let x = c.args in
    let w = world_of x.anchor.now x.pages.now x.backups.now x.logs.now x.work.now in
    numbers_fit x.carried.now w c.in_ok-check_lent.ensures

pub returns-then-fails_state : goal.returns-then-fails_state
returns-then-fails_state c =
    let x = c.args in
    let w = world_of x.anchor.now x.pages.now x.backups.now x.logs.now x.work.now in
    let first = c.in_ok-check_lent.ensures in
    let finds = c.find_slot-asked.ensures x.carried.now (own x.carried.now w first) refl refl in
    readable_unfit x.carried.now w x.reader x.page x.slot first finds (eqb-true _ 1 (sym c.fails_state.ensures ∙ c.if-fails_state.true))

pub returns-then-anchor-ne-ANCHOR_WORDS : goal.returns-then-anchor-ne-ANCHOR_WORDS
returns-then-anchor-ne-ANCHOR_WORDS c =
    let x = c.args in
    let w = world_of x.anchor.now x.pages.now x.backups.now x.logs.now x.work.now in
    let first = c.in_ok-check_lent.ensures in
    let finds = c.find_slot-asked.ensures x.carried.now (own x.carried.now w first) refl refl in
    readable_unanchored x.carried.now w x.reader x.page x.slot first finds (eqb-false _ 1 (sym c.fails_state.ensures ∙ c.if-fails_state.false)) c.if-anchor-ne-ANCHOR_WORDS.true

pub returns-in_err-found : goal.returns-in_err-found
returns-in_err-found c =
    let x = c.args in
    let w = world_of x.anchor.now x.pages.now x.backups.now x.logs.now x.work.now in
    let first = c.in_ok-check_lent.ensures in
    let finds = c.find_slot-asked.ensures x.carried.now (own x.carried.now w first) refl refl in
    let p = err_from_is_err_and c.from_residual-in_err-found.result c.from_residual-in_err-found.ensures.1 in
    rw (p.1, p.2)
    (readable_missing x.carried.now w x.reader x.page x.slot first finds (eqb-false _ 1 (sym c.fails_state.ensures ∙ c.if-fails_state.false)) c.if-anchor-ne-ANCHOR_WORDS.false
    c.in_err-found.field-0.0 c.in_err-found.was)

pub reader_missing-requires : goal.reader_missing-requires
reader_missing-requires c =
    let x = c.args in
    let w = world_of x.anchor.now x.pages.now x.backups.now x.logs.now x.work.now in
    (numbers_fit x.carried.now w c.in_ok-check_lent.ensures).2

pub returns-then-reader_missing : goal.returns-then-reader_missing
returns-then-reader_missing c =
    let x = c.args in
    let w = world_of x.anchor.now x.pages.now x.backups.now x.logs.now x.work.now in
    let first = c.in_ok-check_lent.ensures in
    let mine = own x.carried.now w first in
    readable_unopened x.carried.now w x.reader x.page x.slot first (c.find_slot-asked.ensures x.carried.now mine refl refl)
    (eqb-false _ 1 (sym c.fails_state.ensures ∙ c.if-fails_state.false)) c.if-anchor-ne-ANCHOR_WORDS.false c.in_ok-found.was
    (sym (c.reader_missing.ensures x.carried.now mine) ∙ c.if-reader_missing.true)

pub is_locked-requires : goal.is_locked-requires
is_locked-requires c =
    let x = c.args in
    let w = world_of x.anchor.now x.pages.now x.backups.now x.logs.now x.work.now in
    let first = c.in_ok-check_lent.ensures in
    owner_within x.carried.now w (ready x.carried.now w first) (c.find_slot-asked.ensures x.carried.now (own x.carried.now w first) refl refl) c.in_ok-found.was

pub returns-then-is_locked : goal.returns-then-is_locked
returns-then-is_locked c =
    let x = c.args in
    let w = world_of x.anchor.now x.pages.now x.backups.now x.logs.now x.work.now in
    let first = c.in_ok-check_lent.ensures in
    let mine = own x.carried.now w first in
    readable_locked x.carried.now w x.reader x.page x.slot first (c.find_slot-asked.ensures x.carried.now mine refl refl)
    (eqb-false _ 1 (sym c.fails_state.ensures ∙ c.if-fails_state.false)) c.if-anchor-ne-ANCHOR_WORDS.false c.in_ok-found.was
    (sym (c.reader_missing.ensures x.carried.now mine) ∙ c.if-reader_missing.false) (c.is_locked.ensures x.carried.now mine refl) c.if-is_locked.true

pub returns : goal.returns
returns c =
    let x = c.args in
    let w = world_of x.anchor.now x.pages.now x.backups.now x.logs.now x.work.now in
    let first = c.in_ok-check_lent.ensures in
    let mine = own x.carried.now w first in
    readable_found x.carried.now w x.reader x.page x.slot first (c.find_slot-asked.ensures x.carried.now mine refl refl)
    (eqb-false _ 1 (sym c.fails_state.ensures ∙ c.if-fails_state.false)) c.if-anchor-ne-ANCHOR_WORDS.false c.in_ok-found.was
    (sym (c.reader_missing.ensures x.carried.now mine) ∙ c.if-reader_missing.false) (c.is_locked.ensures x.carried.now mine refl) c.if-is_locked.false
