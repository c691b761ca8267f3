-- `listing::pages::lay_disk` meets its contract. The loop keeps: what comes of the records from p on is what comes of all from the
-- start, and at most as many lines as words were passed. The measure is the words left.
use mathlib.Core.Path.{◌≡◌, refl, sym, ap, ◌∙◌}
use mathlib.Core.List.{List}
use native.Mathlib.Omega.{arith}
use borrow.Author.Rules.{rules}
use Rattle.model.specs.Listing.{Listed}
use Rattle.disk_log.specs.Ring.{read_ring}
use Rattle.disk_log.proofs.Rings.{entries_long}
use Rattle.listing.specs.Sheets.{finished}
use Rattle.listing.proofs.Sheets.{Next, next_far, listed_end, listed_bad, listed_next}
use Rattle.listing.proofs.pages.lay_disk.Goals as goal
use Rattle.listing.proofs.pages.lay_disk.Goals.{in-Change, in-Change-2}

pub loop-p-init : goal.loop-p-init
loop-p-init c = (omega arith, omega arith, omega arith, refl, λ s more e. refl)

pub nonzero_rem-at : goal.nonzero_rem-at
nonzero_rem-at c = omega (arith, c.requires.1.ring_min)

pub decode_ring-here-requires : goal.decode_ring-here-requires
decode_ring-here-requires c =
    let pre = c.requires in
    let long = entries_long pre.0 in
    (long.0, long.1, pre.1, record { before_tail = c.loop-p-test.true; at_is = refl })

pub returns-in_default : goal.returns-in_default
returns-in_default c =
    let inv = c.loop-p.invariant in
    record {
      out_after = λ s more e.
          ap (λ (l : List Listed). finished _ _ l _)
          (sym (listed_bad s _ _ _ _ more (c.decode_ring-here.ensures s e) c.loop-p-test.true c.in_default.is))
          ∙ inv.4 s more e;
      line_bound = omega (arith, inv);
    }

pub lay_next-now-requires : goal.lay_next-now-requires
lay_next-now-requires c =
    let got : (c.match-here.here ≡ c.decode_ring-here.result) × Next c.decode_ring-here.result c.match-here.next =
    elim c.match-here.branch [ in-Change w ↦ (cc (w.here-is, w.in-Change.here-1-is), rw w.in-Change.here-1-is w.next-is) | in-Change-2 w ↦ (cc (w.here-is, w.in-Change.here-in-Close-1-is), rw w.in-Change.here-in-Close-1-is w.next-is) ] in
    let inv = c.loop-p.invariant in
    let pre = c.requires in
    let far = next_far pre.0.sizes pre.0.are.bounds _ _ _ c.match-here.next (c.decode_ring-here.ensures pre.0.sizes pre.0.are) got.1 in
    (pre.2, rw got.0 far.fits, omega (arith, inv.0, inv.2, pre.3, pre.4, c.loop-p-test.true))

pub loop-p-smaller : goal.loop-p-smaller
loop-p-smaller c =
    let got : (c.match-here.here ≡ c.decode_ring-here.result) × Next c.decode_ring-here.result c.match-here.next =
    elim c.match-here.branch [ in-Change w ↦ (cc (w.here-is, w.in-Change.here-1-is), rw w.in-Change.here-1-is w.next-is) | in-Change-2 w ↦ (cc (w.here-is, w.in-Change.here-in-Close-1-is), rw w.in-Change.here-in-Close-1-is w.next-is) ] in
    let pre = c.requires in
    let far = next_far pre.0.sizes pre.0.are.bounds _ _ _ c.match-here.next (c.decode_ring-here.ensures pre.0.sizes pre.0.are) got.1 in
    omega (arith, far.far, c.loop-p-test.true)

pub loop-p-preserved : goal.loop-p-preserved
loop-p-preserved c =
    let got : (c.match-here.here ≡ c.decode_ring-here.result) × Next c.decode_ring-here.result c.match-here.next =
    elim c.match-here.branch [ in-Change w ↦ (cc (w.here-is, w.in-Change.here-1-is), rw w.in-Change.here-1-is w.next-is) | in-Change-2 w ↦ (cc (w.here-is, w.in-Change.here-in-Close-1-is), rw w.in-Change.here-in-Close-1-is w.next-is) ] in
    let inv = c.loop-p.invariant in
    let a = c.args in
    let pre = c.requires in
    let far = next_far pre.0.sizes pre.0.are.bounds _ _ _ c.match-here.next (c.decode_ring-here.ensures pre.0.sizes pre.0.are) got.1 in
    let step = c.lay_next-now.ensures in
    let next : Next c.match-here.here c.match-here.next = rw got.0 got.1 in (
      omega (arith, inv.0, far.far),
      omega (arith, inv.0, far.far, far.within),
      omega (arith, inv.0, inv.2, far.far, step.line_bound),
      search (rules, inv.3),
      λ s more e.
          step.out_after _
          ∙ ap (λ (l : List Listed). finished a.first c.loop-p.now l c.loop-p.out)
          (listed_next s (read_ring a.ring.now) a.tail c.loop-p.p a.disk more (got.0 ∙ c.decode_ring-here.ensures s e) c.loop-p-test.true c.match-here.next next)
          ∙ inv.4 s more e,
    )

pub returns : goal.returns
returns c =
    let inv = c.loop-p.invariant in
    record {
      out_after = λ s more e. ap (λ (l : List Listed). finished _ _ l _) (sym (listed_end s _ _ _ _ more c.loop-p-test.false)) ∙ inv.4 s more e;
      line_bound = omega (arith, inv);
    }
