-- `run::ahead::search_ahead` meets its contract. The loop keeps: of all numbers met, what is known up to p with what is found from p on is
-- the fate from the start on, and `at` is the index of p. The measure is what is left of the log.
use mathlib.Core.Path.{◌≡◌, refl, sym, ◌∙◌}
use native.Mathlib.Omega.{arith}
use lib.ListN.{length}
use borrow.Author.Rules.{rules}
use Rattle.disk_log.proofs.Rings.{entries_long, within, stepped, change_short, close_short}
use Rattle.disk_log.proofs.Scanning.{got_change, got_close, fate_end, fate_change, fate_other, fate_close, fate_bad}
use Rattle.run.proofs.Searching.{search_begun, search_on, search_all, search_end}
use Rattle.run.proofs.ahead.search_ahead.Goals as goal

pub nonzero_rem-at : goal.nonzero_rem-at
nonzero_rem-at c = omega (arith, c.requires.2.ring_min)

pub decode_ring-requires : goal.decode_ring-requires
decode_ring-requires c =
    let pre = c.requires in
    let long = entries_long pre.1 in
    (long.0, long.1, pre.2, record { before_tail = c.loop-p-test.true; at_is = c.loop-p.invariant.0 })

pub overflow_sub-next : goal.overflow_sub-next
overflow_sub-next c =
    let e = c.requires.1.are in
    omega (arith, (change_short _ e.bounds (got_change _ _ _ (c.decode_ring.ensures _ e) c.in-Change.is)).0)

pub advance-at-requires : goal.advance-at-requires
advance-at-requires c =
    let pre = c.requires in
    let e = pre.1.are in
    let f = change_short _ e.bounds (got_change _ _ _ (c.decode_ring.ensures _ e) c.in-Change.is) in
    (within pre.2 c.loop-p.p c.loop-p.invariant.0, omega (arith, f.1, pre.2.ring_min), pre.2.ring_max)

pub loop-p-smaller-in-Change : goal.loop-p-smaller-in-Change
loop-p-smaller-in-Change c =
    let e = c.requires.1.are in
    let f = change_short _ e.bounds (got_change _ _ _ (c.decode_ring.ensures _ e) c.in-Change.is) in
    omega (arith, f.0, f.2)

pub loop-p-preserved-in-Change : goal.loop-p-preserved-in-Change
loop-p-preserved-in-Change c =
    let e = c.requires.1.are in
    let f = change_short _ e.bounds (got_change _ _ _ (c.decode_ring.ensures _ e) c.in-Change.is) in
    let inv = c.loop-p.invariant in
    let met = c.meet.ensures in (
      stepped _ _ _ _ (omega (arith, f.0)) (c.advance-at.ensures.1 _ inv.0),
      omega (arith, inv.1, met.0),
      λ s u m.
          search_on (met.1 _ _ _ inv.1 (inv.2 s u m))
          (λ n. fate_change _ _ _ (c.decode_ring.ensures s u) c.loop-p-test.true n c.in-Change.is),
    )

pub returns-then-all_closed : goal.returns-then-all_closed
returns-then-all_closed c =
    let pre = c.requires in
    let inv = c.loop-p.invariant in
    let shut = c.close.ensures in
    let old = c.args.fates.now in
    let long : length old.numbers ≡ 16 = search rules in
    let wide : length old.closed ≡ 16 = search rules in
    λ s u absent m.
    let dec = c.decode_ring.ensures s u in
    search_all
    (shut.1 _ _ _ _ _ inv.1 (sym (fate_close _ _ _ dec c.loop-p-test.true _ c.in-Close.is refl))
    (λ n ne. fate_other _ _ _ dec c.loop-p-test.true n c.in-Close.is (λ x. ne (sym x)))
    (inv.2 s u (search_begun _ absent m long wide pre.0 c.used-first.ensures c.put.ensures.put)))
    (omega (arith, inv.1, shut.0)) (c.all_closed.ensures c.if-all_closed.true)

pub overflow_sub-next-in-Close : goal.overflow_sub-next-in-Close
overflow_sub-next-in-Close c = omega (arith, (close_short (got_close _ _ _ (c.decode_ring.ensures _ c.requires.1.are) c.in-Close.is)).0)

pub advance-at-requires-in-Close : goal.advance-at-requires-in-Close
advance-at-requires-in-Close c =
    let pre = c.requires in
    let f = close_short (got_close _ _ _ (c.decode_ring.ensures _ pre.1.are) c.in-Close.is) in
    (within pre.2 c.loop-p.p c.loop-p.invariant.0, omega (arith, f.1, pre.2.ring_min), pre.2.ring_max)

pub loop-p-smaller : goal.loop-p-smaller
loop-p-smaller c =
    let f = close_short (got_close _ _ _ (c.decode_ring.ensures _ c.requires.1.are) c.in-Close.is) in
    omega (arith, f.0, f.2)

pub loop-p-preserved : goal.loop-p-preserved
loop-p-preserved c =
    let f = close_short (got_close _ _ _ (c.decode_ring.ensures _ c.requires.1.are) c.in-Close.is) in
    let inv = c.loop-p.invariant in
    let shut = c.close.ensures in (
      stepped _ _ _ _ (omega (arith, f.0)) (c.advance-at-in-Close.ensures.1 _ inv.0),
      omega (arith, inv.1, shut.0),
      λ s u m.
          let dec = c.decode_ring.ensures s u in
          shut.1 _ _ _ _ _ inv.1 (sym (fate_close _ _ _ dec c.loop-p-test.true _ c.in-Close.is refl))
          (λ n ne. fate_other _ _ _ dec c.loop-p-test.true n c.in-Close.is (λ x. ne (sym x))) (inv.2 s u m),
    )

pub returns-in-Malformed : goal.returns-in-Malformed
returns-in-Malformed c =
    let pre = c.requires in
    let inv = c.loop-p.invariant in
    let old = c.args.fates.now in
    let long : length old.numbers ≡ 16 = search rules in
    let wide : length old.closed ≡ 16 = search rules in
    λ s u absent m.
    c.cut_short.ensures _ _ _ (fate_bad _ _ _ (c.decode_ring.ensures s u) c.loop-p-test.true _ c.in-Malformed.is)
    (inv.2 s u (search_begun _ absent m long wide pre.0 c.used-first.ensures c.put.ensures.put))

pub returns : goal.returns
returns c =
    let pre = c.requires in
    let inv = c.loop-p.invariant in
    let old = c.args.fates.now in
    let long : length old.numbers ≡ 16 = search rules in
    let wide : length old.closed ≡ 16 = search rules in
    λ s u absent m.
    let told = search_end (inv.2 s u (search_begun _ absent m long wide pre.0 c.used-first.ensures c.put.ensures.put)) inv.1 (λ n. fate_end _ _ _ n _ c.loop-p-test.false) in
    (c.fate_at.ensures ∙ told.0, told.1)
