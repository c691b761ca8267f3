-- `txn::setting::set_classes` meets its contract: each refusal is the first row that applies. Assumes nothing.
use mathlib.Core.Path.{refl, sym}
use native.Mathlib.Omega.{arith}
use Rattle.model.specs.World.{world_of}
use Rattle.model.specs.Call.{set_classes}
use Rattle.classes.proofs.Tables.{table_bytes}
use Rattle.frame.proofs.Shown.{shown_refused}
use Rattle.frame.proofs.Refusals.{numbered}
use Rattle.txn.proofs.ClassesSet.{settable, set_refused, set_wrong, set_uncovered, set_twice, set_accepted, set_serves}
use Rattle.txn.proofs.setting.set_classes.Goals as goal

pub returns-in-Err : goal.returns-in-Err
returns-in-Err c =
    let x = c.args in
    let fault = c.in-Err.ensures in
    λ anchor pages backups logs.
    shown_refused (set_classes x.lines.now) x.carried (world_of anchor pages backups logs x.work.now)
    (set_refused x.carried (world_of anchor pages backups logs x.work.now) x.lines.now fault (numbered _)) c.refused.ensures

pub wrong_line-requires : goal.wrong_line-requires
wrong_line-requires c =
    let x = c.args in
    let fault = c.in_default.ensures in
    (settable x.carried x.work.now x.lines.now (sym fault)).counts.disks_max

pub returns-in-Some : goal.returns-in-Some
returns-in-Some c =
    let x = c.args in
    let fault = c.in_default.ensures in
    λ anchor pages backups logs.
    shown_refused (set_classes x.lines.now) x.carried (world_of anchor pages backups logs x.work.now)
    (set_wrong x.carried (world_of anchor pages backups logs x.work.now) x.lines.now fault refl (omega (arith, c.in-Some.ensures)))
    (rw c.in-Some.ensures.0 at c.refused_at.ensures)

pub classes_of-classes-requires : goal.classes_of-classes-requires
classes_of-classes-requires c =
    let x = c.args in
    let fault = c.in_default.ensures in
    let ready = settable x.carried x.work.now x.lines.now (sym fault) in
    table_bytes x.carried.disks x.lines.now (omega (arith, c.in_default-wrong_line.ensures))
    ready.counts.disks_max ready.table

pub returns-in-Some-uncovered : goal.returns-in-Some-uncovered
returns-in-Some-uncovered c =
    let x = c.args in
    let fault = c.in_default.ensures in
    λ anchor pages backups logs.
    shown_refused (set_classes x.lines.now) x.carried (world_of anchor pages backups logs x.work.now)
    (set_uncovered x.carried (world_of anchor pages backups logs x.work.now) x.lines.now fault refl
    (omega (arith, c.in_default-wrong_line.ensures)) (omega (arith, c.in-Some-uncovered.ensures)))
    (rw c.in-Some-uncovered.ensures.0 at c.refused_at-in-Some-uncovered.ensures)

pub returns-in-Some-twice : goal.returns-in-Some-twice
returns-in-Some-twice c =
    let x = c.args in
    let fault = c.in_default.ensures in
    λ anchor pages backups logs.
    shown_refused (set_classes x.lines.now) x.carried (world_of anchor pages backups logs x.work.now)
    (set_twice x.carried (world_of anchor pages backups logs x.work.now) x.lines.now fault refl
    (omega (arith, c.in_default-wrong_line.ensures))
    (omega (arith, c.in_default-uncovered.ensures)) (omega (arith, c.in-Some-twice.ensures)))
    (rw c.in-Some-twice.ensures.0 at c.refused_at-in-Some-twice.ensures)

pub returns : goal.returns
returns c =
    let x = c.args in
    let fault = c.in_default.ensures in
    let none = refl in
    λ anchor pages backups logs.
    set_serves x.carried (world_of anchor pages backups logs x.work.now) x.lines.now (settable x.carried x.work.now x.lines.now (sym fault))
    (set_accepted x.carried (world_of anchor pages backups logs x.work.now) x.lines.now fault none
    (omega (arith, c.in_default-wrong_line.ensures))
    (omega (arith, c.in_default-uncovered.ensures)) (omega (arith, c.in_default-twice.ensures)))
    (rw c.classes_of-classes.ensures at c.finished.ensures)
