-- The next record of a log, read by the words of the head.
use mathlib.Core.Path.{◌≡◌, refl, sym, ap, ◌∙◌}
use mathlib.Core.List.{List, []}
use mathlib.Core.Bool.{Bool, true, cond}
use Prim.Native.Nat.{ℕ, ◌+◌, ◌*◌, ◌≤◌, ◌<◌}
use native.Mathlib.Omega.{arith}
use lib.ListN.{get_or}
use Rattle.model.specs.declared.Core.{Core}
use Rattle.model.specs.declared.Sizes.{Sizes}
use Rattle.model.specs.declared.Carried.{Carried}
use Rattle.model.specs.declared.Fate.{Fate}
use Rattle.model.specs.declared.Fate.TheVariants.{Unreadable}
use Rattle.model.specs.declared.Decoded.{Decoded}
use Rattle.model.specs.declared.Decoded.TheVariants.{Change, Close, Malformed}
use Rattle.model.specs.Word.{part}
use Rattle.model.specs.Sizes.{slot_base, ring_of, disk_at}
use Rattle.model.specs.World.{World, world_of}
use Rattle.model.specs.Decode.{read_log, decode_at, span}
use Rattle.model.specs.Image.{xor_at}
use Rattle.model.specs.Scan.{scan, fate_in}
use Rattle.model.specs.State.{tail_of, base_of, slot_place}
use Rattle.model.specs.Restart.{position_of, replays, read_disk, fate_from, next_record}
use Rattle.model.specs.View.{head_bases, head_positions, own_work, core_of}
use Rattle.model.specs.Fields.{bases, positions}
use Rattle.model.proofs.KeptBases.{place_kept}
use Rattle.model.proofs.View.Head.{own_view}
use Rattle.model.proofs.View.Fields.{field_read}
use Rattle.disk_log.specs.declared.read.Extent.{Extent}
use Rattle.disk_log.specs.Reading.{PagesOf, LiesAt, extent_of, OfLog}
use Rattle.disk_log.proofs.Ready.{lies_there, disk_there, tail_there}
use Rattle.layout.proofs.Laws.{product_max}
use Rattle.replay.specs.Step.{StepsOn}
use Rattle.replay.proofs.Facts.{replaying, sizes_bounded}
use Rattle.replay.proofs.Stepping.{step_malformed, step_close, step_unreadable, step_change}
use Rattle.std.specs.Prelude.{Ok, Err}
use Rattle.restart.specs.Step.{OnDisk, taken_by}
use Rattle.restart.proofs.Extents.{decoded_there, fate_there, found}

-- P, slots and widths are words of the head
pub paged : (h : Carried) (work : List ℕ) → own_work h work ≡ true → PagesOf (core_of h work).sizes h.pages (part 0 64 work) (part 64 64 work)
unfolding core_of
paged h work own =
    record {
      same_pages = refl;
      same_slots = ap (λ (c : Core). c.sizes.slots) (own_view h work own);
      same_widths = ap (λ (c : Core). c.sizes.widths) (own_view h work own);
    }

-- so is a position
pub position_here : (h : Carried) (work : List ℕ) → own_work h work ≡ true → (disk : ℕ) → disk < 8
    → position_of (core_of h work) disk ≡ get_or work (head_positions + disk) 0
unfolding position_of
position_here h work own disk low = field_read h work own positions disk low

-- the extent of a log, by what is carried
pub extent_is : (h : Carried) (work : List ℕ) (disk : ℕ) {place : ℕ} → place ≡ disk_at (core_of h work).sizes disk
    → record { place = place; ring = h.ring; tail = tail_of (core_of h work).logs disk; end = tail_of (core_of h work).logs disk }
    ≡ extent_of (core_of h work).sizes disk (tail_of (core_of h work).logs disk) (tail_of (core_of h work).logs disk)
unfolding extent_of ring_of core_of
extent_is h work disk e = rw e refl

module _ {h : Carried} {disk : ℕ} {pages logs work : List ℕ} (on : OnDisk h disk pages logs work) where
  abbrev c : Core
  c = core_of h work

  abbrev tail : ℕ
  tail = tail_of (core_of h work).logs disk

  module _ {e : Extent} (is : e ≡ extent_of (core_of h work).sizes disk (tail_of (core_of h work).logs disk) (tail_of (core_of h work).logs disk)) where
    pub of_log : OfLog h.pages (part 0 64 work) (part 64 64 work) e
    of_log = record { sizes = c.sizes; paged = paged h work on.own; of_disk_lem = disk_there _ _ _ _ is }

    pub next_is : (anchor before backups body : List ℕ) {position : ℕ} → position_of c disk ≡ position → {r : Decoded}
        → ((s : Sizes) (d : ℕ) → PagesOf s h.pages (part 0 64 work) (part 64 64 work) → LiesAt s d e.place e.ring
        → r ≡ decode_at s (read_log s logs d e.tail []) e.end position)
        → next_record c (world_of anchor before backups logs body) disk ≡ r
    unfolding next_record read_disk
    next_is anchor before backups body {position} same got =
        rw same (sym (decoded_there on.on is position (λ d lies. got c.sizes d (paged h work on.own) lies)))

    pub fate_is : (anchor before backups body : List ℕ) (number p : ℕ) {r : Fate}
        → ((s : Sizes) (d : ℕ) → PagesOf s h.pages (part 0 64 work) (part 64 64 work) → LiesAt s d e.place e.ring
        → r ≡ fate_in number (scan s (read_log s logs d e.tail []) e.end p))
        → fate_from c (world_of anchor before backups logs body) disk number p ≡ r
    unfolding fate_from read_disk
    fate_is anchor before backups body number p got =
        sym (fate_there on.on is p number (λ d lies. got c.sizes d (paged h work on.own) lies))

    -- by what is decoded, and by the transaction's fate
    module _ {position : ℕ} (same : position_of (core_of h work) disk ≡ position) (low : position < tail_of (core_of h work).logs disk)
        (anchor backups body : List ℕ) {r : Decoded}
        (got : (s : Sizes) (d : ℕ) → PagesOf s h.pages (part 0 64 work) (part 64 64 work) → LiesAt s d e.place e.ring
        → r ≡ decode_at s (read_log s logs d e.tail []) e.end position)
      where
        abbrev w : World
        w = world_of anchor pages backups logs body

        below : position_of c disk < tail
        below = omega (arith, same, low)

        pub taken_malformed : r ≡ Malformed → StepsOn c (world_of anchor pages backups logs body) disk (taken_by c disk (Err position)) (world_of anchor pages backups logs body)
        taken_malformed told = rw same at (step_malformed c w disk on.on.disk_in below (next_is anchor pages backups body same got ∙ told))

        pub taken_close : {kind number next : ℕ} → r ≡ Close kind number next
            → StepsOn c (world_of anchor pages backups logs body) disk (taken_by c disk (Ok next)) (world_of anchor pages backups logs body)
        taken_close told = step_close c w disk on.on.disk_in below (next_is anchor pages backups body same got ∙ told)

        module _ {kind page slot number copy width next : ℕ} (told : r ≡ Change kind page slot number copy width next) where
          pub changed : next_record c (world_of anchor pages backups logs body) disk ≡ Change kind page slot number copy width next
          changed = next_is anchor pages backups body same got ∙ told

          -- its slot begins by its page's kept base
          pub slot_at : get_or work (head_bases + page) 0 + slot * width ≡ slot_base c.sizes page slot
          unfolding slot_place base_of
          slot_at =
              rw ((found on.on w changed).width_eq, ← field_read h work on.own bases page (found on.on w changed).page_lt)
              (place_kept c (replaying c on.on.replays).bases page slot (found on.on w changed).page_lt)

          pub slot_small : slot * width ≤ 128 * 32
          slot_small =
              let s = found on.on w changed in
              product_max slot width 128 32 (omega (arith, s.slot_lt)) (omega (arith, s.width_eq, ((sizes_bounded c on.on.replays).used page s.page_in).width_max))

          module _ {f : Fate}
              (fated : (s : Sizes) (d : ℕ) → PagesOf s h.pages (part 0 64 work) (part 64 64 work) → LiesAt s d e.place e.ring
              → f ≡ fate_in number (scan s (read_log s logs d e.tail []) e.end next))
            where
              pub taken_unreadable : {p : ℕ} → f ≡ Unreadable p
                  → StepsOn c (world_of anchor pages backups logs body) disk (taken_by c disk (Err p)) (world_of anchor pages backups logs body)
              taken_unreadable bad = step_unreadable c w disk on.on.disk_in below changed (fate_is anchor pages backups body number next fated ∙ bad)

              pub taken_change : ((p : ℕ) → f ≡ Unreadable p → ⊥) → {b : Bool} → b ≡ replays c.epoch f copy → (at : ℕ) → at ≡ slot_base c.sizes page slot → {after : List ℕ}
                  → ((s : Sizes) (d : ℕ) → LiesAt s d e.place e.ring
                  → after ≡ cond b (xor_at at (span (read_log s logs d e.tail []) (position + 3) width) pages) pages)
                  → StepsOn c (world_of anchor pages backups logs body) disk (taken_by c disk (Ok next)) (world_of anchor after backups logs body)
              unfolding read_disk
              taken_change unmet is_replayed at place {after} did =
                  step_change c w disk on.on.disk_in below changed (fate_is anchor pages backups body number next fated) unmet is_replayed
                  (rw (place, tail_there _ _ _ _ is, ← same) at (did c.sizes disk (lies_there _ _ _ _ is)))
