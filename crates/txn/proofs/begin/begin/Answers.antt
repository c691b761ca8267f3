-- `txn::begin::begin` meets its contract: each refusal is the first row that applies. Assumes nothing.
use mathlib.Core.Path.{refl}
use native.Mathlib.Omega.{arith}
use Rattle.model.specs.World.{world_of}
use Rattle.model.specs.Call.{begin}
use Rattle.model.specs.View.{core_of}
use Rattle.frame.proofs.FirstChecks.{lent_ready, own_ready}
use Rattle.frame.proofs.Shown.{shown_refused}
use Rattle.frame.proofs.Refusals.{numbered}
use Rattle.txn.proofs.Beginning.{begin_refused, begin_anchor, begin_full, begin_spent, begin_crowded, begin_accepted, chosen_word, begun_words, begin_serves}
use Rattle.txn.proofs.begin.begin.Goals as goal

pub returns-in-Err : goal.returns-in-Err
returns-in-Err c = shown_refused (begin _) _ _ (begin_refused _ _ _ c.in-Err.ensures (numbered _)) c.refused.ensures

pub returns-then-anchor-ne-ANCHOR_WORDS : goal.returns-then-anchor-ne-ANCHOR_WORDS
returns-then-anchor-ne-ANCHOR_WORDS c =
    shown_refused (begin _) _ _ (begin_anchor _ _ _ c.in_default.ensures refl c.if-anchor-ne-ANCHOR_WORDS.true) c.refused-then-anchor-ne-ANCHOR_WORDS.ensures

pub place_of-requires : goal.place_of-requires
place_of-requires c =
    let x = c.args in
    let w = world_of x.anchor.now x.pages.now x.backups.now x.logs.now x.work.now in
    omega (arith, (lent_ready x.carried w c.in_default.ensures refl).work)

pub returns-in_default-place_of : goal.returns-in_default-place_of
returns-in_default-place_of c =
    let x = c.args in
    let w = world_of x.anchor.now x.pages.now x.backups.now x.logs.now x.work.now in
    let own = own_ready x.carried w (lent_ready x.carried w c.in_default.ensures refl) in
    shown_refused (begin x.class) x.carried w
    (begin_full x.class x.carried w c.in_default.ensures refl c.if-anchor-ne-ANCHOR_WORDS.false
    (omega (arith, c.in_default-place_of.ensures.found x.carried own))) c.refused-in_default-place_of.ensures

pub returns-then-number-ge-LIMIT : goal.returns-then-number-ge-LIMIT
returns-then-number-ge-LIMIT c =
    let x = c.args in
    let w = world_of x.anchor.now x.pages.now x.backups.now x.logs.now x.work.now in
    let own = own_ready x.carried w (lent_ready x.carried w c.in_default.ensures refl) in
    shown_refused (begin x.class) x.carried w
    (begin_spent x.class x.carried w c.in_default.ensures refl c.if-anchor-ne-ANCHOR_WORDS.false
    (omega (arith, c.in-Some.ensures.found x.carried own, c.in-Some.ensures.low)) c.if-number-ge-LIMIT.true) c.refused-then-number-ge-LIMIT.ensures

pub idlest_disk-requires : goal.idlest_disk-requires
idlest_disk-requires c =
    let x = c.args in
    let w = world_of x.anchor.now x.pages.now x.backups.now x.logs.now x.work.now in
    let ready = lent_ready x.carried w c.in_default.ensures refl in
    (ready.counts.disks_max, omega (arith, ready.work))

pub returns-in_default-idlest_disk : goal.returns-in_default-idlest_disk
returns-in_default-idlest_disk c =
    let x = c.args in
    let w = world_of x.anchor.now x.pages.now x.backups.now x.logs.now x.work.now in
    let own = own_ready x.carried w (lent_ready x.carried w c.in_default.ensures refl) in
    shown_refused (begin x.class) x.carried w
    (begin_crowded x.class x.carried w c.in_default.ensures refl c.if-anchor-ne-ANCHOR_WORDS.false
    (omega (arith, c.in-Some.ensures.found x.carried own, c.in-Some.ensures.low)) c.if-number-ge-LIMIT.false
    (omega (arith, c.in_default-idlest_disk.ensures.chosen x.carried x.class own refl refl refl refl c.set_for-set.ensures.1))) c.refused-in_default-idlest_disk.ensures

pub bounds-work-disk : goal.bounds-work-disk
bounds-work-disk c =
    let x = c.args in
    let w = world_of x.anchor.now x.pages.now x.backups.now x.logs.now x.work.now in
    omega (arith, (lent_ready x.carried w c.in_default.ensures refl).work, c.in-Some-idlest_disk.ensures.low)

pub overflow_add-sum-2 : goal.overflow_add-sum-2
unfolding core_of
overflow_add-sum-2 c =
    let x = c.args in
    let w = world_of x.anchor.now x.pages.now x.backups.now x.logs.now x.work.now in
    let ready = lent_ready x.carried w c.in_default.ensures refl in
    let own = own_ready x.carried w ready in
    let disk = c.in-Some-idlest_disk.ensures.chosen x.carried x.class own refl refl refl refl c.set_for-set.ensures.1 in
    omega (
      arith,
      chosen_word x.class x.carried x.work.now own ready.counts.disks_max disk c.in-Some-idlest_disk.ensures.low,
    )

pub enter-requires : goal.enter-requires
enter-requires c =
    let x = c.args in
    let w = world_of x.anchor.now x.pages.now x.backups.now x.logs.now x.work.now in
    (c.in-Some.ensures.low, c.in-Some-idlest_disk.ensures.low, omega (arith, (lent_ready x.carried w c.in_default.ensures refl).work))

pub returns : goal.returns
returns c =
    let x = c.args in
    let w = world_of x.anchor.now x.pages.now x.backups.now x.logs.now x.work.now in
    let ready = lent_ready x.carried w c.in_default.ensures refl in
    let own = own_ready x.carried w ready in
    let place = c.in-Some.ensures.found x.carried own in
    let disk = c.in-Some-idlest_disk.ensures.chosen x.carried x.class own refl refl refl refl c.set_for-set.ensures.1 in
    begin_serves x.class x.carried w ready
    (begin_accepted x.class x.carried w c.in_default.ensures refl c.if-anchor-ne-ANCHOR_WORDS.false
    (omega (arith, place, c.in-Some.ensures.low)) c.if-number-ge-LIMIT.false (omega (arith, disk, c.in-Some-idlest_disk.ensures.low)))
    (begun_words x.class x.carried x.work.now own place disk c.in-Some.ensures.low c.in-Some-idlest_disk.ensures.low refl c.enter.ensures) c.finished.ensures
