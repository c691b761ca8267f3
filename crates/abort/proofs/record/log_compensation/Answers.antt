-- `abort::record::log_compensation` meets its contract: an append of the record, and where the log ends after it. Assumes nothing.
use mathlib.Core.Path.{refl}
use native.Mathlib.Omega.{arith}
use Rattle.model.specs.World.{world_of}
use Rattle.frame.proofs.Homes.{lent_there, disk_there}
use Rattle.abort.proofs.Tips.{tip_home}
use Rattle.abort.proofs.Disks.{small, home_asked, home_lies, encodable, appended, or_none}
use Rattle.abort.proofs.record.log_compensation.Goals as goal

pub home_at-home-requires : goal.home_at-home-requires
home_at-home-requires c = home_asked c.requires.serving

pub page_copy-requires : goal.page_copy-requires
page_copy-requires c =
    let pre = c.requires in
    let b = small pre.serving in
    (b.disks, omega (arith, b.pages, pre.in_slot.page_in), b.copies)

pub append_change-requires : goal.append_change-requires
append_change-requires c =
    let x = c.args in
    let pre = c.requires in
    (home_lies pre.serving (tip_home x.disk x.tip (small pre.serving).below c.home_at-home.ensures x.sizes refl), encodable pre.serving pre.in_slot _ _)

pub returns : goal.returns
returns c =
    let x = c.args in
    let home = tip_home x.disk x.tip (small c.requires.serving).below c.home_at-home.ensures x.sizes refl in
    λ anchor pages backups.
    let w = world_of anchor pages backups x.logs.now x.work.now in
    rw (← c.page_copy.ensures x.sizes refl)
    (appended x.tip (grind (arith, or_none)) (rw (disk_there _ _ _ home) at (c.append_change.ensures.appends _ _ w (lent_there _ _ _ home w refl refl))))
