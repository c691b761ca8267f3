-- What the bounds on the sizes say, taken apart once.
use mathlib.Core.Path.{◌≡◌, refl}
use mathlib.Core.Bool.{Bool, true, false, cond, ◌&&◌}
use Prim.Native.Nat.{ℕ, zero, suc, ◌*◌, ◌≤◌, ◌<◌}
use native.Mathlib.Omega.{arith}
use native.Mathlib.Nat.{suc-mul}
use lib.Dec.{leb, ltb, eqb}
use lib.ListN.{length}
use borrow.Author.Tests.{lt-ltb, le-ltb, ltb-true, ltb-false, leb-true, le-leb, eqb-true, eq-eqb}
use Rattle.model.specs.declared.Sizes.{Sizes}
use Rattle.model.specs.Below.{within, sum_below, all_below}
use Rattle.model.specs.Sizes.{slots_in, width_in, page_words, page_base, total, used_entry, unused_entry, entry_in_bounds, counts_in_bounds, sizes_in_bounds}
use Rattle.model.proofs.Below.{all_each, each_all}
use Rattle.model.proofs.Booleans.{both, in_range}

-- What the bounds say of a page that is used.
pub record BoundedPage (s : Sizes) (page : ℕ) : Type 0 where
  pub slots_min : 1 ≤ slots_in s page
  pub slots_max : slots_in s page ≤ 128
  pub width_min : 1 ≤ width_in s page
  pub width_max : width_in s page ≤ 32
  pub words_max : page_words s page ≤ 128

-- What the bounds say, taken apart.
pub record Bounded (s : Sizes) : Type 0 where
  pub pages_min : 1 ≤ s.pages
  pub pages_max : s.pages ≤ 64
  pub disks_min : 1 ≤ s.disks
  pub disks_max : s.disks ≤ 8
  pub ring_min : 128 ≤ s.ring
  pub ring_max : s.ring ≤ 65536
  pub slots_length : length s.slots ≡ 64
  pub widths_length : length s.widths ≡ 64
  pub used : (page : ℕ) → page < s.pages → BoundedPage s page
  pub unused : (page : ℕ) → s.pages ≤ page → page < 64 → (slots_in s page ≡ 0) × (width_in s page ≡ 0)

bounded_page : (s : Sizes) (page : ℕ) → used_entry s page ≡ true → BoundedPage s page
unfolding used_entry
bounded_page s page e =
    let words = both (within 1 128 (slots_in s page) && within 1 32 (width_in s page)) (leb (page_words s page) 128) e in
    let ranges = both (within 1 128 (slots_in s page)) (within 1 32 (width_in s page)) words.0 in
    let slots = in_range 1 128 (slots_in s page) ranges.0 in
    let width = in_range 1 32 (width_in s page) ranges.1 in
    record {
      slots_min = slots.0;
      slots_max = slots.1;
      width_min = width.0;
      width_max = width.1;
      words_max = leb-true (page_words s page) 128 words.1;
    }

unused_page : (s : Sizes) (page : ℕ) → unused_entry s page ≡ true → (slots_in s page ≡ 0) × (width_in s page ≡ 0)
unfolding unused_entry
unused_page s page e =
    let zeros = both (eqb (slots_in s page) 0) (eqb (width_in s page) 0) e in
    (eqb-true (slots_in s page) 0 zeros.0, eqb-true (width_in s page) 0 zeros.1)

entries : (s : Sizes) → all_below (entry_in_bounds s) 64 ≡ true → (page : ℕ) → page < 64
    → cond (ltb page s.pages) (used_entry s page) (unused_entry s page) ≡ true
unfolding entry_in_bounds
entries s e page h = all_each (entry_in_bounds s) 64 e page h

pub bounded : (s : Sizes) → sizes_in_bounds s ≡ true → Bounded s
unfolding sizes_in_bounds counts_in_bounds
bounded s e =
    let pages = within 1 64 s.pages in
    let disks = within 1 8 s.disks in
    let ring = within 128 65536 s.ring in
    let slots = eqb (length s.slots) 64 in
    let widths = eqb (length s.widths) 64 in
    let t5 = both (pages && disks && ring && slots && widths) (all_below (entry_in_bounds s) 64) e in
    let t4 = both (pages && disks && ring && slots) widths t5.0 in
    let t3 = both (pages && disks && ring) slots t4.0 in
    let t2 = both (pages && disks) ring t3.0 in
    let t1 = both pages disks t2.0 in
    let p = in_range 1 64 s.pages t1.0 in
    let d = in_range 1 8 s.disks t1.1 in
    let r = in_range 128 65536 s.ring t2.1 in
    record {
      pages_min = p.0;
      pages_max = p.1;
      disks_min = d.0;
      disks_max = d.1;
      ring_min = r.0;
      ring_max = r.1;
      slots_length = eqb-true (length s.slots) 64 t3.1;
      widths_length = eqb-true (length s.widths) 64 t4.1;
      used = λ page h. bounded_page s page (rw (lt-ltb page s.pages h) at (entries s t5.1 page (omega arith)));
      unused = λ page h k. unused_page s page (rw (le-ltb page s.pages h) at (entries s t5.1 page k));
    }

-- and back
pub used_right_lem : (s : Sizes) → Bounded s → (page : ℕ) → page < s.pages → used_entry s page ≡ true
unfolding used_entry within
used_right_lem s b page h =
    let u = b.used page h in
    rw (le-leb _ _ u.slots_min, le-leb _ _ u.slots_max, le-leb _ _ u.width_min, le-leb _ _ u.width_max, le-leb _ _ u.words_max)

entry_in : (s : Sizes) → Bounded s → (page : ℕ) → page < 64 → entry_in_bounds s page ≡ true
unfolding entry_in_bounds unused_entry
entry_in s b page h = go (ltb page s.pages) refl
  where
    go : (c : Bool) → ltb page s.pages ≡ c → cond c (used_entry s page) (unused_entry s page) ≡ true
    go true e = used_right_lem s b page (ltb-true page s.pages e)
    go false e =
        let z = b.unused page (ltb-false page s.pages e) h in
        rw (eq-eqb _ _ z.0, eq-eqb _ _ z.1)

pub in_bounds : (s : Sizes) → Bounded s → sizes_in_bounds s ≡ true
unfolding sizes_in_bounds counts_in_bounds within
in_bounds s b =
    rw (
      le-leb _ _ b.pages_min,
      le-leb _ _ b.pages_max,
      le-leb _ _ b.disks_min,
      le-leb _ _ b.disks_max,
      le-leb _ _ b.ring_min,
      le-leb _ _ b.ring_max,
      eq-eqb _ _ b.slots_length,
      eq-eqb _ _ b.widths_length,
    ) (each_all (entry_in_bounds s) 64 (entry_in s b))

-- n numbers of at most m
sum_max : (f : ℕ → ℕ) (m n : ℕ) → ((i : ℕ) → i < n → f i ≤ m) → sum_below f n ≤ n * m
unfolding sum_below
sum_max f m zero h = omega arith
sum_max f m (suc n) h = rw suc-mul (omega (arith, sum_max f m n (λ i l. h i (omega arith)), h n (omega arith)))

-- at most 64 pages of at most 128 words
pub total_max : (s : Sizes) → Bounded s → total s ≤ 64 * 128
unfolding total page_base
total_max s b =
    omega (arith, sum_max (page_words s) 128 s.pages (λ page h. (b.used page h).words_max))
