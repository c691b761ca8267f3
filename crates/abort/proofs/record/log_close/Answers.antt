-- `abort::record::log_close` meets its contract: an append of the record, and where the log ends after it. Assumes nothing.
use mathlib.Core.Path.{refl}
use native.Mathlib.Omega.{arith}
use Rattle.model.specs.World.{world_of}
use Rattle.frame.proofs.Homes.{lent_there, disk_there}
use Rattle.abort.proofs.Tips.{tip_home}
use Rattle.abort.proofs.Disks.{small, home_asked, home_lies, appended, or_none}
use Rattle.abort.proofs.record.log_close.Goals as goal

pub home_at-home-requires : goal.home_at-home-requires
home_at-home-requires c = home_asked c.requires

pub append_close-requires : goal.append_close-requires
append_close-requires c =
    let x = c.args in
    home_lies c.requires (tip_home x.disk x.tip (small c.requires).below c.home_at-home.ensures x.sizes refl)

pub returns : goal.returns
returns c =
    let x = c.args in
    let home = tip_home x.disk x.tip (small c.requires).below c.home_at-home.ensures x.sizes refl in
    let append-close = c.append_close in
    λ anchor pages backups.
    let w = world_of anchor pages backups x.logs.now x.work.now in
    appended x.tip (grind (arith, or_none)) (rw (disk_there _ _ _ home) at (append-close.ensures.appends _ _ w (lent_there _ _ _ home w refl refl)))
