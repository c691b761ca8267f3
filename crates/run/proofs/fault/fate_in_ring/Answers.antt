-- `run::fault::fate_in_ring` meets its contract. The loop's invariant: the fate from p on is the fate from the start on, and `at` is the
-- index of p. The measure is what is left of the log.
use mathlib.Core.Path.{refl, ◌∙◌}
use native.Mathlib.Omega.{arith}
use Rattle.disk_log.proofs.Rings.{entries_long, within, stepped, change_short, close_short}
use Rattle.disk_log.proofs.Scanning.{got_change, got_close, fate_end, fate_change, fate_other, fate_close, fate_bad}
use Rattle.run.proofs.fault.fate_in_ring.Goals as goal

pub nonzero_rem-at : goal.nonzero_rem-at
nonzero_rem-at c = omega (arith, c.requires.1.ring_min)

pub loop-p-init : goal.loop-p-init
loop-p-init c = (refl, λ s e. refl)

pub decode_ring-requires : goal.decode_ring-requires
decode_ring-requires c =
    let long = entries_long c.requires.0 in
    (long.0, long.1, c.requires.1, record { before_tail = c.loop-p-test.true; at_is = c.loop-p.invariant.0 })

pub overflow_sub-next : goal.overflow_sub-next
overflow_sub-next c =
    let e = c.requires.0.are in
    let f = change_short _ e.bounds (got_change _ _ _ (c.decode_ring.ensures _ e) c.in-Change.is) in
    omega (arith, f.0)

pub advance-at-requires : goal.advance-at-requires
advance-at-requires c =
    let e = c.requires.0.are in
    let f = change_short _ e.bounds (got_change _ _ _ (c.decode_ring.ensures _ e) c.in-Change.is) in
    (within c.requires.1 c.loop-p.p c.loop-p.invariant.0, omega (arith, f.1, c.requires.1.ring_min), c.requires.1.ring_max)

pub loop-p-smaller-in-Change : goal.loop-p-smaller-in-Change
loop-p-smaller-in-Change c =
    let e = c.requires.0.are in
    let f = change_short _ e.bounds (got_change _ _ _ (c.decode_ring.ensures _ e) c.in-Change.is) in
    omega (arith, f.0, f.2)

pub loop-p-preserved-in-Change : goal.loop-p-preserved-in-Change
loop-p-preserved-in-Change c =
    let e = c.requires.0.are in
    let f = change_short _ e.bounds (got_change _ _ _ (c.decode_ring.ensures _ e) c.in-Change.is) in
    let inv = c.loop-p.invariant in (
      stepped _ _ _ _ (omega (arith, f.0)) (c.advance-at.ensures.1 _ inv.0),
      λ s u. fate_change _ _ _ (c.decode_ring.ensures s u) c.loop-p-test.true _ c.in-Change.is ∙ inv.1 s u,
    )

pub overflow_sub-next-in-Close : goal.overflow_sub-next-in-Close
overflow_sub-next-in-Close c =
    let f = close_short (got_close _ _ _ (c.decode_ring.ensures _ c.requires.0.are) c.in-Close.is) in
    omega (arith, f.0)

pub advance-at-requires-in-Close : goal.advance-at-requires-in-Close
advance-at-requires-in-Close c =
    let f = close_short (got_close _ _ _ (c.decode_ring.ensures _ c.requires.0.are) c.in-Close.is) in
    (within c.requires.1 c.loop-p.p c.loop-p.invariant.0, omega (arith, f.1, c.requires.1.ring_min), c.requires.1.ring_max)

pub loop-p-smaller : goal.loop-p-smaller
loop-p-smaller c =
    let f = close_short (got_close _ _ _ (c.decode_ring.ensures _ c.requires.0.are) c.in-Close.is) in
    omega (arith, f.0, f.2)

pub loop-p-preserved : goal.loop-p-preserved
loop-p-preserved c =
    let f = close_short (got_close _ _ _ (c.decode_ring.ensures _ c.requires.0.are) c.in-Close.is) in
    let inv = c.loop-p.invariant in (
      stepped _ _ _ _ (omega (arith, f.0)) (c.advance-at-in-Close.ensures.1 _ inv.0),
      λ s u. fate_other _ _ _ (c.decode_ring.ensures s u) c.loop-p-test.true _ c.in-Close.is c.if-n-number.false ∙ inv.1 s u,
    )

pub returns : goal.returns
returns c = λ s e. fate_end _ _ _ _ _ c.loop-p-test.false ∙ c.loop-p.invariant.1 s e

pub returns-then-n-number : goal.returns-then-n-number
returns-then-n-number c =
    λ s e.
    fate_close _ _ _ (c.decode_ring.ensures s e) c.loop-p-test.true _ c.in-Close.is c.if-n-number.true
    ∙ c.loop-p.invariant.1 s e

pub returns-in-Malformed : goal.returns-in-Malformed
returns-in-Malformed c =
    λ s e.
    fate_bad _ _ _ (c.decode_ring.ensures s e) c.loop-p-test.true _ c.in-Malformed.is
    ∙ c.loop-p.invariant.1 s e
