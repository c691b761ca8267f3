-- A run of a log, a record at a time, read by ring index.
use Rattle.std.specs.Prelude.{Option}
use mathlib.Core.Path.{◌≡◌, refl, sym, ap, ◌∙◌}
use mathlib.Core.List.{List, []}
use mathlib.Core.Bool.{Bool, cond}
use Prim.Native.Nat.{ℕ, ◌+◌, ◌-◌, ◌≤◌, ◌<◌}
use native.Mathlib.Omega.{arith}
use native.Mathlib.Decide.{ℕ_discrete}
use lib.ListN.{length, get_or, set}
use lib.Seq.{set-get_or, set-set, get_or-set_same, get_or-set_other}
use Rattle.model.specs.declared.Core.{Core}
use Rattle.model.specs.declared.Decoded.{Decoded}
use Rattle.model.specs.declared.Decoded.TheVariants.{Change, Close, Malformed}
use Rattle.model.specs.declared.BadRecord.{BadRecord}
use Rattle.model.specs.declared.Fate.{Fate}
use Rattle.model.specs.declared.Fate.TheVariants.{Closed, Unclosed, Unreadable}
use Rattle.model.specs.Sizes.{slot_base}
use Rattle.model.specs.Decode.{read_log, span, decode_at}
use Rattle.model.specs.Scan.{scan, fate_in}
use Rattle.model.specs.Image.{xor_at}
use Rattle.model.specs.World.{World}
use Rattle.model.specs.Memory.{lengths_right}
use Rattle.model.specs.State.{with_replay, tail_of}
use Rattle.model.specs.Restart.{position_of, replays, read_disk, fate_from, next_record, fate_fault, record_fault, step_fault, moved_to}
use Rattle.model.proofs.KeptBases.{bases_carried}
use Rattle.model.proofs.Sound.Test.{ReplaySound, replay_sound_lem, replaying_test}
use Rattle.model.proofs.Decode.{found_change, found_close}
use Rattle.model.proofs.Restart.Words.{with_pages}
use Rattle.disk_log.specs.Ring.{read_ring, ring_at}
use Rattle.disk_log.proofs.Rings.{ring_decode, ring_scan, ring_span}
use Rattle.run.specs.Run.{Passes, RanOn, Onward, fault_at, DiskRing, TakesChange, Takes}
use Rattle.replay.proofs.Stepping.{fault_here, step_none, step_malformed, step_close, step_unreadable, step_change}
use Rattle.run.proofs.Onward.{onward_none, onward_step, onward_most, onward_stop}

not_closed : (q : ℕ) → Closed ≡ Unreadable q → ⊥
not_closed q e = let z : ◌≡◌ {A = ℕ} 0 1 = cc in omega arith

not_unclosed : (q : ℕ) → Unclosed ≡ Unreadable q → ⊥
not_unclosed q e = let z : ◌≡◌ {A = ℕ} 0 1 = cc in omega arith

module _ (c : Core) (w : World) (disk : ℕ) (h : disk < c.sizes.disks) (long : disk < length c.replay.positions) (ring : List ℕ)
    (lies : DiskRing c.sizes w.logs disk ring) where
  -- the disk's ring
  abbrev word : ℕ → ℕ
  word = read_ring ring

  word_is : word ≡ read_ring (ring_at c.sizes w.logs disk)
  word_is = ap read_ring lies.same

  abbrev tail : ℕ
  tail = tail_of c.logs disk

  -- a log's next position, set
  pub moved_same : moved_to c disk (position_of c disk) ≡ c
  unfolding moved_to with_replay position_of
  moved_same = rw (set-get_or c.replay.positions disk 0)

  moved_position : (p : ℕ) → position_of (moved_to c disk p) disk ≡ p
  unfolding moved_to with_replay position_of
  moved_position p = get_or-set_same c.replay.positions disk p 0 long

  moved_moved : (p q : ℕ) → moved_to (moved_to c disk p) disk q ≡ moved_to c disk q
  unfolding moved_to with_replay
  moved_moved p q = rw (set-set c.replay.positions disk p q)

  inside : (p : ℕ) → disk < (moved_to c disk p).sizes.disks
  unfolding moved_to with_replay
  inside p = h

  moved_sound : ReplaySound c → (p : ℕ) → p ≤ tail → ReplaySound (moved_to c disk p)
  unfolding moved_to with_replay
  moved_sound k p near =
      record { bounds = k.bounds; bases = bases_carried c (moved_to c disk p) refl refl k.bases; epoch = k.epoch; page = k.page; tails = k.tails; positions = λ d l. go d l (ℕ_discrete d disk) }
    where
      go : (d : ℕ) → d < c.sizes.disks → Dec (d ≡ disk) → get_or (set c.replay.positions disk p) d 0 ≤ tail_of c.logs d
      go d l (yes same) = rw (same, get_or-set_same c.replay.positions disk p 0 long) near
      go d l (no ne) = rw (get_or-set_other c.replay.positions disk d p 0 ne) (k.positions d l)

  moved_passes : Passes c w → (p : ℕ) → p ≤ tail → (pages : List ℕ) → length pages ≡ length w.pages → Passes (moved_to c disk p) (with_pages w pages)
  unfolding moved_to with_replay lengths_right
  moved_passes pass p near pages same =
      let stage = pass.replays.stage in
      record {
        replays =
            record {
              stage = stage;
              state = replaying_test (moved_to c disk p) stage (moved_sound (replay_sound_lem c stage pass.replays.state) p near);
            };
        anchor = pass.anchor;
        lengths = rw same pass.lengths;
      }

  -- what is read by ring index is what the step reads
  fates : (number next : ℕ) → fate_in number (scan c.sizes word tail next) ≡ fate_in number (scan c.sizes (read_log c.sizes w.logs disk tail []) tail next)
  fates number next =
      ap (λ (read : ℕ → ℕ). fate_in number (scan c.sizes read tail next)) word_is
      ∙ ap (fate_in number) (ring_scan c.sizes w.logs disk tail lies.inside lies.some next)

  -- row 7 of the next step
  pub fault_at_lem : {r : Option BadRecord} → position_of c disk < tail
      → r ≡ fault_at c.sizes word tail disk (position_of c disk) (decode_at c.sizes word tail (position_of c disk)) → step_fault c w disk ≡ r
  unfolding next_record read_disk fate_from
  fault_at_lem l is =
      fault_here c w disk h l
      (sym (ap (λ (read : ℕ → ℕ). decode_at c.sizes read tail (position_of c disk)) word_is ∙ ring_decode c.sizes w.logs disk tail lies.inside lies.some (position_of c disk) l))
      ∙ go (decode_at c.sizes word tail (position_of c disk))
      ∙ sym is
    where
      go : (d : Decoded) → record_fault c w disk d ≡ fault_at c.sizes word tail disk (position_of c disk) d
      go (Change kind page slot number copy width next) = ap (fate_fault disk) (sym (fates number next))
      go (Close kind number next) = refl
      go Malformed = refl

  module _ (p : ℕ) (pages : List ℕ) where
    next_at : {r : Decoded} → p < tail → r ≡ decode_at c.sizes word tail p → next_record (moved_to c disk p) (with_pages w pages) disk ≡ r
    unfolding next_record read_disk moved_to with_replay
    next_at l is =
        ap (decode_at c.sizes (read_disk c w disk) tail) (moved_position p) ∙ sym (is ∙ ap (λ (read : ℕ → ℕ). decode_at c.sizes read tail p) word_is ∙ ring_decode c.sizes w.logs disk tail lies.inside lies.some p l)

    fate_at : {f : Fate} (number next : ℕ) → f ≡ fate_in number (scan c.sizes word tail next)
        → fate_from (moved_to c disk p) (with_pages w pages) disk number next ≡ f
    unfolding fate_from read_disk moved_to with_replay
    fate_at number next is = sym (is ∙ fates number next)

    span_at : (width : ℕ) → p + 3 + width ≤ tail
        → span word (p + 3) width ≡ span (read_disk (moved_to c disk p) (with_pages w pages) disk) (position_of (moved_to c disk p) disk + 3) width
    unfolding read_disk moved_to with_replay
    span_at width fits =
        ap (λ (read : ℕ → ℕ). span read (p + 3) width) word_is
        ∙ ring_span c.sizes w.logs disk tail lies.inside lies.some (p + 3) width fits
        ∙ ap (λ (q : ℕ). span (read_disk c w disk) (q + 3) width) (sym (moved_position p))

  -- the start of a run
  pub run_start : (most : ℕ) → Onward disk most c w 0 (most - 0) (moved_to c disk (position_of c disk)) w
  run_start most =
      let all : most - 0 ≡ most = omega arith in
      rw (moved_same, all) (onward_none disk most c w)

  module _ (pass : Passes c w) {most made p : ℕ} {pages : List ℕ} (near : p ≤ tail) (same : length pages ≡ length w.pages)
      (o : Onward disk most c w made (most - made) (moved_to c disk p) (with_pages w pages)) where
    passes : Passes (moved_to c disk p) (with_pages w pages)
    passes = moved_passes pass p near pages same

    pub run_most : most ≤ made → RanOn disk most c w made (moved_to c disk p) (with_pages w pages)
    run_most l = onward_most disk most c w (omega arith) o

    pub run_end : tail ≤ p → RanOn disk most c w made (moved_to c disk p) (with_pages w pages)
    unfolding moved_to with_replay
    run_end l =
        onward_stop disk most c w _ _ _ o passes
        (step_none (moved_to c disk p) (with_pages w pages) disk h (omega (arith, moved_position p)))

    module _ (l : p < tail) {r : Decoded} (is : r ≡ decode_at c.sizes word tail p) where
      here : {d : Decoded} → r ≡ d → next_record (moved_to c disk p) (with_pages w pages) disk ≡ d
      here e = next_at p pages l is ∙ e

      before : position_of (moved_to c disk p) disk < tail_of (moved_to c disk p).logs disk
      unfolding moved_to with_replay
      before = omega (arith, moved_position p, l)

      run_bad : r ≡ Malformed → RanOn disk most c w made (moved_to c disk p) (with_pages w pages)
      run_bad e =
          onward_stop disk most c w _ _ _ o passes
          (step_malformed (moved_to c disk p) (with_pages w pages) disk (inside p) before (here e))

      run_close : {kind number next : ℕ} → made < most → r ≡ Close kind number next
          → Onward disk most c w (made + 1) (most - (made + 1)) (moved_to c disk next) (with_pages w pages)
      run_close {next} some e =
          onward_step disk most c w (omega arith) o passes
          (rw (moved_moved p next) at (step_close (moved_to c disk p) (with_pages w pages) disk (inside p) before (here e)))

      module _ {kind page slot number copy width next : ℕ} (e : r ≡ Change kind page slot number copy width next) {f : Fate}
          (fate : f ≡ fate_in number (scan c.sizes word tail next)) where
        run_unreadable : {q : ℕ} → f ≡ Unreadable q → RanOn disk most c w made (moved_to c disk p) (with_pages w pages)
        run_unreadable u =
            onward_stop disk most c w _ _ _ o passes
            (step_unreadable (moved_to c disk p) (with_pages w pages) disk (inside p) before (here e) (fate_at p pages number next fate ∙ u))

        run_change : {b : Bool} {after : List ℕ} → made < most → ((q : ℕ) → f ≡ Unreadable q → ⊥) → b ≡ replays c.epoch f copy
            → p + 3 + width ≤ tail
            → after ≡ cond b (xor_at (slot_base c.sizes page slot) (span word (p + 3) width) pages) pages
            → Onward disk most c w (made + 1) (most - (made + 1)) (moved_to c disk next) (with_pages w after)
        unfolding moved_to with_replay
        run_change {b} {after} some unmet chosen fits did =
            onward_step disk most c w (omega arith) o passes
            (rw (moved_moved p next) at
            (step_change (moved_to c disk p) (with_pages w pages) disk h before (here e) (fate_at p pages number next fate) unmet chosen
            (did ∙ ap (λ (d : List ℕ). cond b (xor_at (slot_base c.sizes page slot) d pages) pages) (span_at p pages width fits))))

      -- the record that stands at p, by what it comes to
      pub run_record : {after : List ℕ} {next : ℕ} → made < most → Takes c.sizes c.epoch tail word p pages after next r
          → (next ≡ p → RanOn disk most c w made (moved_to c disk p) (with_pages w after))
          × ((next ≡ p → ⊥) → Onward disk most c w (made + 1) (most - (made + 1)) (moved_to c disk next) (with_pages w after))
      run_record {after} {next} some takes = go r refl takes
        where
          fate_of_lem : ℕ → ℕ → Fate
          fate_of_lem number to = fate_in number (scan c.sizes word tail to)

          xored : (page slot width : ℕ) → List ℕ
          xored page slot width = xor_at (slot_base c.sizes page slot) (span word (p + 3) width) pages

          taken : (kind page slot number copy width to : ℕ) → r ≡ Change kind page slot number copy width to → (f : Fate) → f ≡ fate_of_lem number to
              → ((q : ℕ) → f ≡ Unreadable q → ⊥) → (next ≡ to) × (after ≡ cond (replays c.epoch f copy) (xored page slot width) pages)
              → (next ≡ p → RanOn disk most c w made (moved_to c disk p) (with_pages w after))
              × ((next ≡ p → ⊥) → Onward disk most c w (made + 1) (most - (made + 1)) (moved_to c disk next) (with_pages w after))
          taken kind page slot number copy width to e f fate unmet t =
              let got = found_change c.sizes word tail (sym is ∙ e) in
              (λ x. absurd (omega (arith, t.0, x, got.next_eq)), λ _. rw t.0 (run_change e fate some unmet refl (omega (arith, got.next_eq, got.next_le)) t.1))

          change : (kind page slot number copy width to : ℕ) → r ≡ Change kind page slot number copy width to → (f : Fate) → f ≡ fate_of_lem number to
              → TakesChange c.epoch copy p to (xored page slot width) pages after next f
              → (next ≡ p → RanOn disk most c w made (moved_to c disk p) (with_pages w after))
              × ((next ≡ p → ⊥) → Onward disk most c w (made + 1) (most - (made + 1)) (moved_to c disk next) (with_pages w after))
          change kind page slot number copy width to e (Unreadable q) fate t =
              (λ _. rw t.1 (run_unreadable e fate refl), λ on. absurd (on t.0))
          change kind page slot number copy width to e Closed fate t = taken kind page slot number copy width to e Closed fate not_closed t
          change kind page slot number copy width to e Unclosed fate t = taken kind page slot number copy width to e Unclosed fate not_unclosed t

          go : (d : Decoded) → r ≡ d → Takes c.sizes c.epoch tail word p pages after next d
              → (next ≡ p → RanOn disk most c w made (moved_to c disk p) (with_pages w after))
              × ((next ≡ p → ⊥) → Onward disk most c w (made + 1) (most - (made + 1)) (moved_to c disk next) (with_pages w after))
          go (Change kind page slot number copy width to) e t = change kind page slot number copy width to e (fate_of_lem number to) refl t
          go (Close kind number to) e t = (λ x. absurd (omega (arith, t.0, x, (found_close c.sizes word tail (sym is ∙ e)).next_eq)), λ _. rw (t.0, t.1) (run_close some e))
          go Malformed e t = (λ _. rw t.1 (run_bad e), λ on. absurd (on t.0))
