-- `disk_log::scan::check_disks` meets its contract. Both loops keep: nothing malformed was met, and what is found from here on is what
-- is found from disk 0 on. The measures are the disks and the words left.
use Prim.Native.Nat.{ℕ}
use mathlib.Core.Path.{◌≡◌, refl, sym, ap, ◌∙◌}
use mathlib.Core.Bool.{true}
use native.Mathlib.Omega.{arith}
use native.Mathlib.Nat.{sub-zero}
use lib.ListN.{length, get_or}
use Rattle.model.specs.declared.Sizes.{Sizes}
use Rattle.model.specs.Sizes.{sizes_in_bounds}
use Rattle.model.proofs.Bounds.{bounded}
use Rattle.disk_log.specs.Ring.{Ring, EntriesOf}
use Rattle.disk_log.proofs.Rings.{ring_is, disk_fits, disk_ring, disk_begins}
use Rattle.disk_log.proofs.Scanning.{got_change, got_close, fault_end, fault_change, fault_close, fault_bad, faults_done}
use Rattle.disk_log.proofs.scan.check_disks.Goals as goal

-- the sizes' own arrays
own : (s : Sizes) → sizes_in_bounds s ≡ true → EntriesOf s s.slots s.widths
own s ok = record { bounds = ok; same_slots = refl; same_widths = refl }

pub loop-d-init : goal.loop-d-init
loop-d-init c = simp sub-zero

pub disk_at-place-requires : goal.disk_at-place-requires
disk_at-place-requires c =
    let b = bounded _ c.requires.bounds in
    (omega (arith, b.disks_max, c.loop-d-test.true), b.ring_max)

pub ring_words-ring-requires : goal.ring_words-ring-requires
ring_words-ring-requires c =
    let a = c.args in
    omega (arith, disk_fits a.sizes _ c.requires c.loop-d.d c.loop-d-test.true, c.disk_at-place.ensures.0 a.sizes refl, c.ring_of.ensures)

pub offset_bounds-logs-place : goal.offset_bounds-logs-place
offset_bounds-logs-place c = omega (arith, c.disk_at-place.ensures.1)

pub bounds-logs-place : goal.bounds-logs-place
bounds-logs-place c =
    let a = c.args in
    omega (arith, disk_fits a.sizes _ c.requires c.loop-d.d c.loop-d-test.true, c.disk_at-place.ensures.0 a.sizes refl)

pub offset_bounds-starts-d : goal.offset_bounds-starts-d
offset_bounds-starts-d c = omega (arith, (bounded _ c.requires.bounds).disks_max, c.loop-d-test.true)

pub bounds-starts-d : goal.bounds-starts-d
bounds-starts-d c = omega (arith, (bounded _ c.requires.bounds).disks_max, c.loop-d-test.true)

pub loop-p-init : goal.loop-p-init
loop-p-init c =
    let a = c.args in
    let at = c.disk_at-place.ensures.0 a.sizes refl in
    rw (ring_is a.sizes a.logs.now c.loop-d.d at c.ring_of.ensures c.ring_words-ring.ensures)
    (disk_begins a.sizes a.logs.now c.requires c.loop-d.d c.loop-d-test.true (λ e. get_or a.starts e 0) (ap (λ (i : ℕ). get_or a.logs.now i 0) at)
    ∙ c.loop-d.invariant)

pub nonzero_rem-at : goal.nonzero_rem-at
nonzero_rem-at c =
    let a = c.args in
    let ring = disk_ring a.sizes _ c.requires c.loop-d.d c.loop-d-test.true in
    omega (arith, ap length (ring_is a.sizes _ c.loop-d.d (c.disk_at-place.ensures.0 a.sizes refl) c.ring_of.ensures c.ring_words-ring.ensures), ring.ring_min)

pub decode_ring-here-requires : goal.decode_ring-here-requires
decode_ring-here-requires c =
    let a = c.args in
    let b = bounded a.sizes c.requires.bounds in
    let at = c.disk_at-place.ensures.0 a.sizes refl in
    let ring : Ring c.ring_words-ring.result.now (get_or a.logs.now c.disk_at-place.result 0) =
    rw (ring_is a.sizes a.logs.now c.loop-d.d at c.ring_of.ensures c.ring_words-ring.ensures, at)
    (disk_ring a.sizes a.logs.now c.requires c.loop-d.d c.loop-d-test.true) in
    (b.slots_length, b.widths_length, ring, record { before_tail = c.loop-p-test.true; at_is = refl })

pub loop-p-smaller-in-Change : goal.loop-p-smaller-in-Change
loop-p-smaller-in-Change c =
    let f = got_change _ _ _ (c.decode_ring-here.ensures _ (own _ c.requires.bounds)) c.in-Change.here-1-is in
    omega (arith, f.next_eq, f.next_le)

pub loop-p-preserved-in-Change : goal.loop-p-preserved-in-Change
loop-p-preserved-in-Change c =
    fault_change _ _ _ (c.decode_ring-here.ensures _ (own _ c.requires.bounds)) c.loop-p-test.true _ _ c.in-Change.here-1-is ∙ c.loop-p.invariant

pub loop-p-smaller : goal.loop-p-smaller
loop-p-smaller c =
    let f = got_close _ _ _ (c.decode_ring-here.ensures _ (own _ c.requires.bounds)) c.in-Change.here-in-Close-1-is in
    omega (arith, f.next_eq, f.next_le)

pub loop-p-preserved : goal.loop-p-preserved
loop-p-preserved c =
    fault_close _ _ _ (c.decode_ring-here.ensures _ (own _ c.requires.bounds)) c.loop-p-test.true _ _ c.in-Change.here-in-Close-1-is ∙ c.loop-p.invariant

pub loop-d-preserved : goal.loop-d-preserved
loop-d-preserved c = sym (fault_end _ _ _ _ _ _ c.loop-p-test.false) ∙ c.loop-p.invariant

pub returns : goal.returns
returns c =
    let a = c.args in
    sym (faults_done a.sizes (λ e. get_or a.starts e 0) a.logs.now a.sizes.disks _ c.loop-d-test.false) ∙ c.loop-d.invariant

pub returns-in_default : goal.returns-in_default
returns-in_default c =
    fault_bad _ _ _ (c.decode_ring-here.ensures _ (own _ c.requires.bounds)) c.loop-p-test.true _ _ c.in_default.is
    ∙ c.loop-p.invariant
