-- `restart::step::step` meets its contract: the first rows, and then by the source. Assumes nothing.
use mathlib.Core.Path.{refl, ◌∙◌}
use native.Mathlib.Omega.{arith}
use Rattle.model.specs.World.{world_of}
use Rattle.model.specs.Causes.{when_replaying}
use Rattle.model.specs.Call.{restart_step}
use Rattle.frame.proofs.LentChecks.{first_ready}
use Rattle.frame.proofs.Shown.{shown_refused}
use Rattle.frame.proofs.Refusals.{numbered}
use Rattle.restart.proofs.Steps.{step_lent, step_unsound, step_anchor, step_serves, on_disk_lem, on_backup, to_source, missing_to, tested}
use Rattle.restart.proofs.step.step.Goals as goal

pub returns-in-Err : goal.returns-in-Err
returns-in-Err c =
    let x = c.args in
    let w = world_of x.anchor.now x.pages.now x.backups.now x.logs.now x.work.now in
    let answer = rw c.is_replaying.ensures at c.in-Err.ensures in
    shown_refused (restart_step x.source) x.carried w (step_lent x.carried w x.source answer (numbered _)) c.refused.ensures

pub replay_right-requires : goal.replay_right-requires
replay_right-requires c =
    let x = c.args in
    let w = world_of x.anchor.now x.pages.now x.backups.now x.logs.now x.work.now in
    let answer = rw c.is_replaying.ensures at c.in_default.ensures in
    let ready = first_ready when_replaying x.carried w answer refl in
    (ready.counts.pages_max, ready.counts.disks_max, omega (arith, ready.work))

pub returns-then-not-replay_right : goal.returns-then-not-replay_right
returns-then-not-replay_right c =
    let x = c.args in
    let w = world_of x.anchor.now x.pages.now x.backups.now x.logs.now x.work.now in
    let answer = rw c.is_replaying.ensures at c.in_default.ensures in
    let ok = tested x.carried w answer refl c.replay_right.ensures ∙ c.if-not-replay_right.true in
    shown_refused (restart_step x.source) x.carried w (step_unsound x.carried w x.source answer refl ok) c.refused-then-not-replay_right.ensures

pub returns-then-anchor-ne-ANCHOR_WORDS : goal.returns-then-anchor-ne-ANCHOR_WORDS
returns-then-anchor-ne-ANCHOR_WORDS c =
    let x = c.args in
    let w = world_of x.anchor.now x.pages.now x.backups.now x.logs.now x.work.now in
    let answer = rw c.is_replaying.ensures at c.in_default.ensures in
    let ok = tested x.carried w answer refl c.replay_right.ensures ∙ c.if-not-replay_right.false in
    shown_refused (restart_step x.source) x.carried w (step_anchor x.carried w x.source answer refl ok c.if-anchor-ne-ANCHOR_WORDS.true) c.refused-then-anchor-ne-ANCHOR_WORDS.ensures

pub log_step-requires : goal.log_step-requires
log_step-requires c =
    let x = c.args in
    let w = world_of x.anchor.now x.pages.now x.backups.now x.logs.now x.work.now in
    let answer = rw c.is_replaying.ensures at c.in_default.ensures in
    let ok = tested x.carried w answer refl c.replay_right.ensures ∙ c.if-not-replay_right.false in
    on_disk_lem x.carried w answer refl ok c.if-source-carried.true

pub returns-then-source-carried : goal.returns-then-source-carried
returns-then-source-carried c =
    let x = c.args in
    let w = world_of x.anchor.now x.pages.now x.backups.now x.logs.now x.work.now in
    let answer = rw c.is_replaying.ensures at c.in_default.ensures in
    let ok = tested x.carried w answer refl c.replay_right.ensures ∙ c.if-not-replay_right.false in
    step_serves x.carried w x.source answer refl ok c.if-anchor-ne-ANCHOR_WORDS.false _ _ (c.log_step.ensures x.anchor.now x.backups.now)

pub backup_step-requires : goal.backup_step-requires
backup_step-requires c =
    let x = c.args in
    let w = world_of x.anchor.now x.pages.now x.backups.now x.logs.now x.work.now in
    let answer = rw c.is_replaying.ensures at c.in_default.ensures in
    let ok = tested x.carried w answer refl c.replay_right.ensures ∙ c.if-not-replay_right.false in
    on_backup x.carried w answer refl ok

pub returns-then-source-carried-2 : goal.returns-then-source-carried-2
returns-then-source-carried-2 c =
    let x = c.args in
    let w = world_of x.anchor.now x.pages.now x.backups.now x.logs.now x.work.now in
    let answer = rw c.is_replaying.ensures at c.in_default.ensures in
    let ok = tested x.carried w answer refl c.replay_right.ensures ∙ c.if-not-replay_right.false in
    step_serves x.carried w x.source answer refl ok c.if-anchor-ne-ANCHOR_WORDS.false _ _ (to_source x.carried w c.if-source-carried-2.true _ _ (c.backup_step.ensures x.anchor.now x.logs.now))

pub returns : goal.returns
returns c =
    let x = c.args in
    let w = world_of x.anchor.now x.pages.now x.backups.now x.logs.now x.work.now in
    let answer = rw c.is_replaying.ensures at c.in_default.ensures in
    let ok = tested x.carried w answer refl c.replay_right.ensures ∙ c.if-not-replay_right.false in
    step_serves x.carried w x.source answer refl ok c.if-anchor-ne-ANCHOR_WORDS.false _ _ (missing_to x.carried w x.source (omega (arith, c.if-source-carried.false, c.if-source-carried-2.false)) c.refused-2.ensures)
