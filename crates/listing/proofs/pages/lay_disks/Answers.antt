-- `listing::pages::lay_disks` meets its contract. The loop keeps: what comes of the disks from d on is what comes of all of them.
use Prim.Native.Nat.{ℕ}
use mathlib.Core.Path.{◌≡◌, refl, ap, ◌∙◌}
use mathlib.Core.Bool.{true}
use mathlib.Core.List.{List, [], ◌++◌}
use native.Mathlib.Omega.{arith}
use lib.ListN.{get_or}
use Rattle.model.specs.declared.Sizes.{Sizes}
use Rattle.model.specs.Below.{join_below}
use Rattle.model.specs.Sizes.{sizes_in_bounds}
use Rattle.model.specs.Listing.{Listed}
use Rattle.model.proofs.Bounds.{bounded}
use Rattle.disk_log.specs.Ring.{Ring, EntriesOf}
use Rattle.disk_log.proofs.Rings.{ring_is, disk_fits, disk_ring}
use Rattle.listing.specs.Sheets.{finished}
use Rattle.listing.proofs.Disks.{all_checkable, tail_near, disk_listed, join_more, all_laid}
use Rattle.listing.proofs.pages.lay_disks.Invariants.{on}
use Rattle.listing.proofs.pages.lay_disks.Goals as goal

own : (s : Sizes) → sizes_in_bounds s ≡ true → EntriesOf s s.slots s.widths
own s ok = record { bounds = ok; same_slots = refl; same_widths = refl }

pub loop-d-init : goal.loop-d-init
unfolding join_below
loop-d-init c = (omega arith, λ more. refl)

pub disk_at-place-requires : goal.disk_at-place-requires
disk_at-place-requires c =
    let b = bounded _ c.requires.0 in
    (omega (arith, b.disks_max, c.loop-d-test.true), b.ring_max)

pub ring_words-ring-requires : goal.ring_words-ring-requires
ring_words-ring-requires c =
    let a = c.args in
    let ok = all_checkable a.sizes c.requires.0 _ _ c.requires.1 c.requires.2 in
    omega (arith, disk_fits a.sizes _ ok c.loop-d.d c.loop-d-test.true, c.disk_at-place.ensures.0 a.sizes refl, c.ring_of.ensures)

pub offset_bounds-logs-place : goal.offset_bounds-logs-place
offset_bounds-logs-place c = omega (arith, c.disk_at-place.ensures.1)

pub bounds-logs-place : goal.bounds-logs-place
bounds-logs-place c =
    let a = c.args in
    let ok = all_checkable a.sizes c.requires.0 _ _ c.requires.1 c.requires.2 in
    omega (arith, disk_fits a.sizes _ ok c.loop-d.d c.loop-d-test.true, c.disk_at-place.ensures.0 a.sizes refl)

pub offset_bounds-starts-d : goal.offset_bounds-starts-d
offset_bounds-starts-d c =
    omega (arith, (bounded _ c.requires.0).disks_max, c.loop-d-test.true)

pub bounds-starts-d : goal.bounds-starts-d
bounds-starts-d c =
    omega (arith, (bounded _ c.requires.0).disks_max, c.loop-d-test.true)

pub lay_disk-sheet-requires : goal.lay_disk-sheet-requires
lay_disk-sheet-requires c =
    let a = c.args in
    let d = c.loop-d.d in
    let h = c.loop-d-test.true in
    let b = bounded a.sizes c.requires.0 in
    let ok = all_checkable a.sizes c.requires.0 _ _ c.requires.1 c.requires.2 in
    let at = c.disk_at-place.ensures.0 a.sizes refl in
    let ring : Ring c.ring_words-ring.result.now (get_or a.logs.now c.disk_at-place.result 0) =
    rw (ring_is a.sizes a.logs.now d at c.ring_of.ensures c.ring_words-ring.ensures, at) (disk_ring a.sizes a.logs.now ok d h) in (
      record { sizes = a.sizes; are = own a.sizes c.requires.0 },
      ring,
      omega (arith, b.disks_max, h),
      rw at (tail_near a.sizes c.requires.0 _ _ c.requires.1 c.requires.2 d h),
      omega (arith, b.disks_max, h, c.loop-d.invariant.0),
    )

pub loop-d-preserved : goal.loop-d-preserved
loop-d-preserved c =
    let a = c.args in
    let d = c.loop-d.d in
    let h = c.loop-d-test.true in
    let inv = c.loop-d.invariant in
    let at = c.disk_at-place.ensures.0 a.sizes refl in
    let words = ring_is a.sizes a.logs.now d at c.ring_of.ensures c.ring_words-ring.ensures in
    let tail = ap (λ (i : ℕ). get_or a.logs.now i 0) at in
    let near = tail_near a.sizes c.requires.0 _ _ c.requires.1 c.requires.2 d h in (
      omega (arith, inv.0, c.lay_disk-sheet.ensures.line_bound, tail, near),
      λ more.
          c.lay_disk-sheet.ensures.out_after a.sizes more (own a.sizes c.requires.0)
          ∙ ap (λ (l : List Listed). finished a.first c.loop-d.sheet (l ++ more) c.loop-d.out)
          (disk_listed a.sizes c.requires.0 (λ e. get_or a.starts e 0) a.logs.now c.requires.1 c.requires.2 d h words tail)
          ∙ inv.1 (on a.sizes a.starts a.logs.now d ++ more)
          ∙ ap (λ (l : List Listed). finished a.first (record { line = 0; left = 0 }) l a.out.now) (join_more (on a.sizes a.starts a.logs.now) d more),
    )

pub returns : goal.returns
returns c =
    let a = c.args in
    let inv = c.loop-d.invariant in
    let done : c.loop-d.d ≡ a.sizes.disks = omega arith in
    all_laid a.first c.loop-d.sheet _ a.out.now c.loop-d.out (rw done at (inv.1 []))
