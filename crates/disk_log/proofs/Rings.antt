-- A ring read by index: the next index, the word there, and the sizes' two arrays against what the decoder asks of them.
use Prim.Native.Nat.{ℕ, ◌+◌, ◌-◌, ◌%◌, ◌≤◌, ◌<◌}
use mathlib.Core.Path.{◌≡◌, refl, sym, ap, ◌∙◌}
use mathlib.Core.List.{List, [], ◌++◌}
use mathlib.Core.Bool.{Bool, true, false, not, ◌||◌}
use native.Mathlib.Omega.{arith}
use native.Mathlib.Nat.{mod-lt, mod-add-mod, mod-eq_of_lt, mod-eq-sub-mod}
use lib.Dec.{leb, eqb}
use lib.ListN.{length, get_or, length-append}
use borrow.Author.Tests.{le-leb, leb-true}
use Rattle.model.specs.declared.Sizes.{Sizes}
use Rattle.model.specs.Sizes.{slots_in, width_in, ring_of, disk_at, tail_word, ring_word, sizes_in_bounds}
use Rattle.model.specs.Word.{part}
use Rattle.model.specs.Decode.{read_log, span, page_field, slot_field, width_field, misplaced, decode_at}
use Rattle.model.specs.Scan.{Scan, scan, fault_in}
use Rattle.model.specs.Causes.{tail_in, fault_from}
use Rattle.model.proofs.Bounds.{bounded}
use Rattle.model.proofs.Decode.{ChangeAt, CloseAt, decode_cong}
use Rattle.model.proofs.Ring.{disk_within}
use Rattle.model.proofs.Scan.{scan_cong}
use Rattle.model.proofs.Parts.{length_part, get_or_part}
use Rattle.model.proofs.Reader.{Holds, holds_from, append_holds, span_holds, span_cong, read_ring_lem}
use Rattle.disk_log.proofs.Scanning.{faults_step}
use Rattle.disk_log.specs.Reading.{Checkable}
use Rattle.disk_log.specs.Ring.{read_ring, ring_at, Ring, InRing, EntriesOf, Entries}

-- n words further on
module _ (ring at n : ℕ) (h : at < ring) (few : n ≤ ring) where
  pub step_on : at + n < ring → (p : ℕ) → at ≡ p % ring → at + n ≡ (p + n) % ring
  step_on l p is = sym (mod-eq_of_lt l) ∙ ap (λ (x : ℕ). (x + n) % ring) is ∙ mod-add-mod p ring n

  pub step_round : ring ≤ at + n → (p : ℕ) → at ≡ p % ring → at + n - ring ≡ (p + n) % ring
  step_round l p is =
      let low : at + n - ring < ring = omega arith in
      sym (mod-eq_of_lt low) ∙ sym (mod-eq-sub-mod l) ∙ ap (λ (x : ℕ). (x + n) % ring) is ∙ mod-add-mod p ring n

-- an index lies in its ring
pub within : {ring : List ℕ} {tail at : ℕ} → Ring ring tail → (p : ℕ) → at ≡ p % length ring → at < length ring
within {ring} r p e =
    let some : 0 < length ring = omega (arith, r.ring_min) in
    omega (arith, mod-lt p some, e)

pub index_lt : {ring : List ℕ} {tail p at : ℕ} → Ring ring tail → InRing ring tail p at → at < length ring
index_lt {p} r i = within r p i.at_is

pub entries_long : {slots widths : List ℕ} → Entries slots widths → (length slots ≡ 64) × (length widths ≡ 64)
entries_long e =
    let b = bounded e.sizes e.are.bounds in
    (rw (← e.are.same_slots) b.slots_length, rw (← e.are.same_widths) b.widths_length)

-- the index of the next record
pub stepped : (p next ring at : ℕ) → p ≤ next → at ≡ (p + (next - p)) % ring → at ≡ next % ring
stepped p next ring at h e =
    let back : p + (next - p) ≡ next = omega arith in
    e ∙ ap (λ (x : ℕ). x % ring) back

-- no record is longer than 35 words
pub change_short : (s : Sizes) → sizes_in_bounds s ≡ true → {stop p kind page slot number width next : ℕ}
    → ChangeAt s stop p kind page slot number width next → (p < next) × (next - p ≤ 35) × (next ≤ stop)
change_short s ok {page} f =
    let width = ((bounded s ok).used page f.page_in).width_max in
    (omega (arith, f.next_eq), omega (arith, f.next_eq, f.width_eq, width), f.next_le)

pub close_short : {stop p kind number next : ℕ} → CloseAt stop p kind number next → (p < next) × (next - p ≤ 35) × (next ≤ stop)
close_short f = (omega (arith, f.next_eq), omega (arith, f.next_eq), f.next_le)

-- a disk's ring by where it lies
pub ring_is : (s : Sizes) (logs : List ℕ) (disk : ℕ) {place size : ℕ} {ring : List ℕ} → place ≡ disk_at s disk → size ≡ ring_of s disk
    → ring ≡ part (place + 1) size logs → ring ≡ ring_at s logs disk
unfolding ring_at
ring_is s logs disk at e is = is ∙ rw (at, e) refl

-- a disk's ring, read below its tail
module _ (s : Sizes) (logs : List ℕ) (disk tail : ℕ) (fits : disk_at s disk + ring_of s disk + 1 ≤ length logs) (some : 0 < ring_of s disk) where
  pub ring_size : length (ring_at s logs disk) ≡ ring_of s disk
  unfolding ring_at
  ring_size = length_part (disk_at s disk + 1) (ring_of s disk) logs (omega arith)

  ring_read : (p : ℕ) → p < tail → read_ring (ring_at s logs disk) p ≡ read_log s logs disk tail [] p
  unfolding read_ring ring_at ring_word
  ring_read p h =
      rw ring_size (get_or_part (disk_at s disk + 1) (ring_of s disk) logs (p % ring_of s disk) (mod-lt p some)) ∙ sym (read_ring_lem s logs disk tail [] p h)

  pub ring_decode : (p : ℕ) → p < tail
      → decode_at s (read_ring (ring_at s logs disk)) tail p ≡ decode_at s (read_log s logs disk tail []) tail p
  ring_decode p h = decode_cong s _ _ tail p h (λ q l m. ring_read q m)

  pub ring_scan : (p : ℕ)
      → scan s (read_ring (ring_at s logs disk)) tail p ≡ scan s (read_log s logs disk tail []) tail p
  ring_scan p = scan_cong s _ _ tail p (λ q l m. ring_read q m)

  pub ring_span : (p n : ℕ) → p + n ≤ tail
      → span (read_ring (ring_at s logs disk)) p n ≡ span (read_log s logs disk tail []) p n
  ring_span p n h = span_cong _ _ p n (λ q l m. ring_read q (omega arith))

-- the words of positions that lie on in the ring, up to its end, are a part of it
module _ (ring : List ℕ) where
  pub run_holds : (p at n : ℕ) → at ≡ p % length ring → at + n ≤ length ring → Holds (read_ring ring) p (part at n ring)
  unfolding read_ring
  run_holds p at n is h =
      let long : length (part at n ring) ≡ n = length_part at n ring h in
      holds_from (read_ring ring) p (part at n ring) (λ q l m. word q l (omega (arith, long, m)))
    where
      word : (q : ℕ) → p ≤ q → q < p + n → get_or ring (q % length ring) 0 ≡ get_or (part at n ring) (q - p) 0
      word q l m =
          let on : at + (q - p) ≡ q % length ring =
          stepped p q (length ring) (at + (q - p)) l (step_on (length ring) at (q - p) (omega arith) (omega arith) (omega arith) p is) in
          ap (λ (i : ℕ). get_or ring i 0) (sym on) ∙ sym (get_or_part at n ring (q - p) (omega arith))

  pub span_run : (p at n : ℕ) → at ≡ p % length ring → at + n ≤ length ring → span (read_ring ring) p n ≡ part at n ring
  span_run p at n is h =
      let long : length (part at n ring) ≡ n = length_part at n ring h in
      ap (span (read_ring ring) p) (sym long) ∙ span_holds _ p _ (run_holds p at n is h)

  -- past the ring's end they go on at its first word
  pub span_round : (p at n : ℕ) → at ≡ p % length ring → at < length ring → length ring ≤ at + n → n ≤ length ring
      → span (read_ring ring) p n ≡ part at (length ring - at) ring ++ part 0 (n - (length ring - at)) ring
  span_round p at n is low past few =
      ap (span (read_ring ring) p) (sym whole) ∙ span_holds _ p _ (append_holds _ p first _ (run_holds p at (length ring - at) is (omega arith)) next)
    where
      first : List ℕ
      first = part at (length ring - at) ring

      second : List ℕ
      second = part 0 (n - (length ring - at)) ring

      one : length first ≡ length ring - at
      one = length_part at (length ring - at) ring (omega arith)

      whole : length (first ++ second) ≡ n
      whole = rw (length-append, one, length_part 0 (n - (length ring - at)) ring (omega arith)) (omega arith)

      next : Holds (read_ring ring) (p + length first) second
      next =
          let zero : at + (length ring - at) - length ring ≡ (p + (length ring - at)) % length ring =
          step_round (length ring) at (length ring - at) low (omega arith) (omega arith) p is in
          let start : 0 ≡ (p + (length ring - at)) % length ring = omega (arith, zero) in
          rw one (run_holds (p + (length ring - at)) 0 (n - (length ring - at)) start (omega arith))

-- entries from P on are 0, so a page with a slot is one of the pages
module _ (s : Sizes) {slots widths : List ℕ} (e : EntriesOf s slots widths) (w : ℕ) where
  pub outside : (leb (get_or slots (page_field w) 0) (slot_field w) || not (eqb (width_field w) (get_or widths (page_field w) 0))) ≡ misplaced s w
  unfolding misplaced slots_in width_in
  outside = rw (e.same_slots, e.same_widths) (go (leb s.pages (page_field w)) refl)
    where
      go : (b : Bool) → leb s.pages (page_field w) ≡ b
          → (leb (get_or slots (page_field w) 0) (slot_field w) || not (eqb (width_field w) (get_or widths (page_field w) 0)))
          ≡ (b || leb (get_or slots (page_field w) 0) (slot_field w) || not (eqb (width_field w) (get_or widths (page_field w) 0)))
      go false t = refl
      go true t =
          let none = ((bounded s e.bounds).unused (page_field w) (leb-true s.pages (page_field w) t) (omega arith)).0 in
          rw (le-leb (get_or slots (page_field w) 0) (slot_field w) (omega (arith, rw e.same_slots at none))) refl

-- a disk's ring in logs that can be checked
module _ (s : Sizes) (logs : List ℕ) (ok : Checkable s logs) (d : ℕ) (h : d < s.disks) where
  pub disk_fits : disk_at s d + ring_of s d + 1 ≤ length logs
  disk_fits = omega (arith, disk_within s d h, ok.logs_length)

  ring_some : 0 < ring_of s d
  unfolding ring_of
  ring_some = omega (arith, (bounded s ok.bounds).ring_min)

  pub disk_ring : Ring (ring_at s logs d) (get_or logs (disk_at s d) 0)
  unfolding ring_of
  disk_ring =
      let b = bounded s ok.bounds in
      let size = ring_size s logs d (get_or logs (disk_at s d) 0) disk_fits ring_some in
      record { ring_min = omega (arith, size, b.ring_min); ring_max = omega (arith, size, b.ring_max); tail_low = ok.tails_low d h }

  -- read by index it is the disk's log: the check of all disks goes on with it
  pub disk_begins : (start : ℕ → ℕ) {tail : ℕ} → tail ≡ get_or logs (disk_at s d) 0
      → fault_in d (scan s (read_ring (ring_at s logs d)) tail (start d)) (fault_from s start logs (s.disks - (d + 1)) (d + 1))
      ≡ fault_from s start logs (s.disks - d) d
  unfolding tail_in tail_word
  disk_begins start to =
      rw to
      (ap (λ (x : Scan). fault_in d x (fault_from s start logs (s.disks - (d + 1)) (d + 1))) (ring_scan s logs d (get_or logs (disk_at s d) 0) disk_fits ring_some (start d))
      ∙ sym (faults_step s start logs s.disks d h))
