-- `listing::call::list_on` meets its contract: the tests in the order of the rows. Assumes nothing.
use mathlib.Core.Path.{refl}
use native.Mathlib.Omega.{arith}
use Rattle.std.proofs.lemmas.Result.{err_from_is_err_and}
use Rattle.model.proofs.Bounds.{bounded}
use Rattle.listing.proofs.Calling.{logs_refused, logs_right, lines_past, lines_laid}
use Rattle.listing.proofs.call.list_on.Goals as goal

pub current_starts-starts-requires : goal.current_starts-starts-requires
current_starts-starts-requires c = let pre = c.requires in ((bounded _ pre.1).disks_max, pre.2)

pub tails_on-tails-requires : goal.tails_on-tails-requires
tails_on-tails-requires c =
    let pre = c.requires in
    let b = bounded _ pre.1 in
    (b.disks_max, b.ring_max, omega (arith, pre.3))

pub returns-in_err-check_logs : goal.returns-in_err-check_logs
returns-in_err-check_logs c =
    let a = c.args in
    let p = err_from_is_err_and c.from_residual.result c.from_residual.ensures.1 in
    rw (p.1, p.2)
    (logs_refused a.anchor.now a.logs.now a.first a.sizes c.requires.0 (bounded _ c.requires.1).disks_max
    (c.current_starts-starts.ensures a.sizes refl) c.in_err-check_logs.ensures a.out.now _ refl)

pub lay_disks-lines-requires : goal.lay_disks-lines-requires
lay_disks-lines-requires c =
    let a = c.args in (
      c.requires.1,
      c.requires.3,
      logs_right a.anchor.now a.logs.now a.first a.sizes c.requires.0 (bounded _ c.requires.1).disks_max
          (c.current_starts-starts.ensures a.sizes refl) c.in_ok-check_logs.ensures a.out.now refl,
    )

pub returns-then-lines-first : goal.returns-then-lines-first
returns-then-lines-first c =
    let a = c.args in
    rw c.from.ensures
    (lines_past a.anchor.now a.logs.now a.first a.sizes c.requires.0 (bounded _ c.requires.1).disks_max
    (c.current_starts-starts.ensures a.sizes refl) c.in_ok-check_logs.ensures a.out.now refl
    c.lay_disks-lines.ensures c.if-lines-first.true)

pub returns : goal.returns
returns c =
    let a = c.args in
    lines_laid a.anchor.now a.logs.now a.first a.sizes c.requires.0 (bounded _ c.requires.1).disks_max
    (c.current_starts-starts.ensures a.sizes refl) c.in_ok-check_logs.ensures a.out.now refl
    c.lay_disks-lines.ensures c.if-lines-first.false
