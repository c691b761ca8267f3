-- What a replaying state gives a run.
use mathlib.Core.Path.{◌≡◌, refl}
use mathlib.Core.List.{List}
use mathlib.Core.Bool.{true}
use Prim.Native.Nat.{ℕ, ◌+◌, ◌*◌, ◌≤◌, ◌<◌}
use native.Mathlib.Omega.{arith}
use lib.ListN.{length, get_or}
use Rattle.model.specs.declared.Core.{Core}
use Rattle.model.specs.declared.Sizes.{Sizes}
use Rattle.model.specs.Word.{part}
use Rattle.model.specs.Sizes.{ring_of, disk_at, page_base, slot_base, total, sizes_in_bounds}
use Rattle.model.specs.World.{World}
use Rattle.model.specs.State.{tail_of}
use Rattle.model.specs.Causes.{when_replaying}
use Rattle.model.proofs.Bounds.{bounded, total_max}
use Rattle.model.proofs.Decode.{ChangeAt}
use Rattle.model.proofs.Geometry.{slot_end_total}
use Rattle.model.proofs.Ring.{disk_within}
use Rattle.frame.proofs.Verdicts.{Passed}
use Rattle.disk_log.specs.Ring.{ring_at, Ring, EntriesOf}
use Rattle.disk_log.proofs.Rings.{ring_is, ring_size}
use Rattle.replay.specs.Step.{Replays, OnLog}
use Rattle.replay.proofs.Facts.{replays, replaying, sizes_bounded, tail_low}
use Rattle.run.specs.Run.{Passes, LaidOf, DiskRing}

pub passes : {c : Core} {w : World} → Passed when_replaying c w → Passes c w
passes p = record { replays = replays p; anchor = p.anchor; lengths = p.lengths }

-- A log, read by ring index.
module _ {c : Core} {disk : ℕ} {pages logs : List ℕ} (on : OnLog c disk pages logs) where
  pub disk_ring : {place : ℕ} {ring : List ℕ} → ((s : Sizes) → s.ring ≡ c.sizes.ring → place ≡ disk_at s disk) → ring ≡ part (place + 1) c.sizes.ring logs
      → DiskRing c.sizes logs disk ring
  unfolding ring_of
  disk_ring at is =
      record {
        same = ring_is c.sizes logs disk (at c.sizes refl) refl is;
        inside = omega (arith, on.log_words_lem, disk_within c.sizes disk on.disk_in);
        some = omega (arith, (sizes_bounded c on.replays).ring_min);
      }

  pub log_ring : {ring : List ℕ} → DiskRing c.sizes logs disk ring → Ring ring (tail_of c.logs disk)
  unfolding ring_of
  log_ring d =
      let b = sizes_bounded c on.replays in
      let size : length (ring_at c.sizes logs disk) ≡ c.sizes.ring = ring_size c.sizes logs disk (tail_of c.logs disk) d.inside d.some in
      rw d.same
      (record { ring_min = omega (arith, size, b.ring_min); ring_max = omega (arith, size, b.ring_max); tail_low = omega (arith, tail_low on) })

-- what a run knows of the sizes and the pages
module _ {c : Core} (on : Replays c) where
  pub entries_of_lem : EntriesOf c.sizes c.sizes.slots c.sizes.widths
  entries_of_lem = record { bounds = (replaying c on).bounds; same_slots = refl; same_widths = refl }

  pub laid_of : {bases pages : List ℕ} → ((page : ℕ) → page < 64 → get_or bases page 0 ≡ page_base c.sizes page) → length pages ≡ total c.sizes
      → LaidOf c.sizes c.sizes.slots c.sizes.widths bases pages
  laid_of base words = record { entries = entries_of_lem; base = base; words = words }

-- the slot of a change, from where its page begins
pub slot_sum : (s : Sizes) → sizes_in_bounds s ≡ true → {stop p kind page slot number width next base : ℕ} → ChangeAt s stop p kind page slot number width next
    → base ≡ page_base s page
    → (slot * width ≤ 8192) × (base + slot * width ≡ slot_base s page slot) × (slot_base s page slot + width ≤ total s) × (total s ≤ 8192)
unfolding slot_base
slot_sum s ok {page = page} {slot = slot} f e =
    let max = total_max s (bounded s ok) in
    let ends = slot_end_total s page slot f.page_in f.slot_in in
    rw (f.width_eq, e) (omega (arith, ends, max), refl, ends, omega (arith, max))
