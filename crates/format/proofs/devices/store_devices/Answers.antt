-- `format::devices::store_devices` meets its contract: each part is stored once the one before it is. Assumes nothing.
use Rattle.format.proofs.Joined.{anchor_cut, tails_cut, stores_whole}
use Rattle.format.proofs.devices.store_devices.Goals as goal

pub returns-then-not-store_anchor : goal.returns-then-not-store_anchor
returns-then-not-store_anchor c =
    let pre = c.requires in
    let x = c.args in
    λ memory work.
    anchor_cut x.sizes pre.1 (c.store_anchor.ensures memory x.backups.now x.logs.now work) (c.if-not-store_anchor.true)

pub returns-then-not-store_tails : goal.returns-then-not-store_tails
returns-then-not-store_tails c =
    let pre = c.requires in
    let x = c.args in
    λ memory work.
    tails_cut x.sizes pre.1 (c.store_anchor.ensures memory x.backups.now x.logs.now work) (c.if-not-store_anchor.false)
    (c.store_tails.ensures _ memory x.backups.now work) (c.if-not-store_tails.true)

pub returns : goal.returns
returns c =
    let pre = c.requires in
    let x = c.args in
    λ memory work.
    stores_whole x.sizes pre.1 (c.store_anchor.ensures memory x.backups.now x.logs.now work) (c.if-not-store_anchor.false)
    (c.store_tails.ensures _ memory x.backups.now work) (c.if-not-store_tails.false) pre.2
    (c.store_last.ensures memory _ work)
