-- `disk_log::scan::fate_from` meets its contract. The loop's invariant: the fate from p on is the fate from the start on. The measure is
-- what is left of the log.
use mathlib.Core.Path.{refl, ◌∙◌}
use native.Mathlib.Omega.{arith}
use Rattle.disk_log.proofs.Scanning.{got_change, got_close, fate_end, fate_change, fate_other, fate_close, fate_bad}
use Rattle.disk_log.proofs.scan.fate_from.Goals as goal

pub loop-p-init : goal.loop-p-init
loop-p-init c = λ s disk of lies. refl

pub loop-p-smaller-in-Change : goal.loop-p-smaller-in-Change
loop-p-smaller-in-Change c =
    let at = c.requires.3 in
    let f = got_change _ _ _ (c.decode_at.ensures at.sizes at.of_disk_lem.disk at.paged at.of_disk_lem.lies) c.in-Change.is in
    omega arith

pub loop-p-preserved-in-Change : goal.loop-p-preserved-in-Change
loop-p-preserved-in-Change c =
    λ s disk of lies.
    fate_change _ _ _ (c.decode_at.ensures s disk of lies) c.loop-p-test.true _ c.in-Change.is
    ∙ c.loop-p.invariant s disk of lies

pub loop-p-smaller : goal.loop-p-smaller
loop-p-smaller c =
    let at = c.requires.3 in
    let f = got_close _ _ _ (c.decode_at.ensures at.sizes at.of_disk_lem.disk at.paged at.of_disk_lem.lies) c.in-Close.is in
    omega arith

pub loop-p-preserved : goal.loop-p-preserved
loop-p-preserved c =
    λ s disk of lies.
    fate_other _ _ _ (c.decode_at.ensures s disk of lies) c.loop-p-test.true _ c.in-Close.is c.if-n-number.false
    ∙ c.loop-p.invariant s disk of lies

pub returns : goal.returns
returns c = λ s disk of lies. fate_end _ _ _ _ _ c.loop-p-test.false ∙ c.loop-p.invariant s disk of lies

pub returns-then-n-number : goal.returns-then-n-number
returns-then-n-number c =
    λ s disk of lies.
    fate_close _ _ _ (c.decode_at.ensures s disk of lies) c.loop-p-test.true _ c.in-Close.is c.if-n-number.true
    ∙ c.loop-p.invariant s disk of lies

pub returns-in-Malformed : goal.returns-in-Malformed
returns-in-Malformed c =
    λ s disk of lies.
    fate_bad _ _ _ (c.decode_at.ensures s disk of lies) c.loop-p-test.true _ c.in-Malformed.is
    ∙ c.loop-p.invariant s disk of lies
