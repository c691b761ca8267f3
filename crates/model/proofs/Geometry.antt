-- The geometry of the page memory: where pages and slots begin and end, and which page and slot a word lies in.
use mathlib.Core.Path.{◌≡◌, refl, sym, ap, ◌∙◌}
use mathlib.Core.Bool.{false, true≢false}
use Prim.Native.Nat.{ℕ, zero, suc, ◌+◌, ◌≤◌, ◌<◌}
use native.Mathlib.Omega.{arith}
use native.Mathlib.Numerals.{add-one}
use native.Mathlib.Nat.{zero-mul, suc-mul, mul-le-mul_right}
use lib.Dec.{ltb}
use borrow.Author.Tests.{ltb-true, ltb-false, lt-ltb, le-ltb, le-leb}
use Rattle.model.specs.declared.Sizes.{Sizes}
use Rattle.model.specs.Below.{sum_below, first_below}
use Rattle.model.specs.Sizes.{slots_in, width_in, page_words, page_base, slot_base, total}
use Rattle.model.proofs.Below.{first_le, first_passes, first_before, first_unique, sum_step, sum_term, sum_mono}
use Rattle.model.proofs.Bounds.{Bounded}
use Rattle.model.proofs.Ledger.Entry.{spanning}

-- Bases: where pages and slots begin and end.
module _ (s : Sizes) where
  pub page_base_step : (page : ℕ) → page_base s (page + 1) ≡ page_base s page + page_words s page
  unfolding page_base
  page_base_step page = sum_step (page_words s) page

  -- the first page begins at word 0
  page_base_zero : (w : ℕ) → page_base s 0 ≤ w
  unfolding page_base sum_below
  page_base_zero w = omega arith

  pub page_base_mono : (p q : ℕ) → p ≤ q → page_base s p ≤ page_base s q
  unfolding page_base
  page_base_mono p q h = sum_mono (page_words s) p q h

  -- a page, and a slot of it, ends within the page memory
  pub page_end : (page : ℕ) → page < s.pages → page_base s page + page_words s page ≤ total s
  unfolding page_base total
  page_end page h = sum_term (page_words s) s.pages page h

  pub slot_base_step : (page slot : ℕ) → slot_base s page (slot + 1) ≡ slot_base s page slot + width_in s page
  unfolding slot_base
  slot_base_step page slot = rw (add-one, suc-mul) (omega arith)

  pub slot_base_mono : (page i j : ℕ) → i ≤ j → slot_base s page i ≤ slot_base s page j
  unfolding slot_base
  slot_base_mono page i j h = omega (arith, mul-le-mul_right (width_in s page) h)

  -- the first slot begins with its page, and the last ends with it
  slot_base_first : (page : ℕ) → slot_base s page 0 ≡ page_base s page
  unfolding slot_base
  slot_base_first page = rw zero-mul (omega arith)

  slot_base_last : (page : ℕ) → slot_base s page (slots_in s page) ≡ page_base s page + page_words s page
  unfolding slot_base page_words
  slot_base_last page = refl

  pub slot_base_ge : (page slot : ℕ) → page_base s page ≤ slot_base s page slot
  slot_base_ge page slot = omega (arith, slot_base_first page, slot_base_mono page 0 slot (omega arith))

  pub slot_end : (page slot : ℕ) → slot < slots_in s page → slot_base s page slot + width_in s page ≤ page_base s page + page_words s page
  slot_end page slot h =
      omega (arith, slot_base_step page slot, slot_base_last page, slot_base_mono page (slot + 1) (slots_in s page) (omega arith))

  pub slot_end_total : (page slot : ℕ) → page < s.pages → slot < slots_in s page → slot_base s page slot + width_in s page ≤ total s
  slot_end_total page slot h k = omega (arith, slot_end page slot k, page_end page h)

-- The least i below n whose successor's base lies past w: where bases grow, the place that w lies in.
module _ (base : ℕ → ℕ) (w : ℕ) where
  abbrev place_below : ℕ → ℕ
  place_below n = first_below (λ i. ltb w (base (i + 1))) n

  place_is : ((i j : ℕ) → i ≤ j → base i ≤ base j) → (n i : ℕ) → i < n → base i ≤ w → w < base (i + 1) → place_below n ≡ i
  place_is mono n i h from end =
      first_unique (λ i. ltb w (base (i + 1))) n i h (lt-ltb w (base (i + 1)) end)
      (λ j l. le-ltb w (base (j + 1)) (omega (arith, mono (j + 1) i (omega arith))))

  -- nothing up to the place found lies past w
  place_from : (n k : ℕ) → base 0 ≤ w → k ≤ place_below n → base k ≤ w
  place_from n zero from h = from
  place_from n (suc k) from h =
      rw add-one at (ltb-false w (base (k + 1)) (first_before (λ i. ltb w (base (i + 1))) n k h))

  -- where w lies between the first base and the last, its place is below n
  place_in : (n : ℕ) → base 0 ≤ w → w < base n → (place_below n < n) × (base (place_below n) ≤ w) × (w < base (place_below n + 1))
  place_in n from end =
      let low : place_below n < n = omega (arith, first_le (λ i. ltb w (base (i + 1))) n, not_last) in
      (low, place_from n (place_below n) from (omega arith), ltb-true w (base (place_below n + 1)) (first_passes (λ i. ltb w (base (i + 1))) n low))
    where
      not_last : n ≤ place_below n → ⊥
      not_last h = omega (arith, place_from n n from h)

-- the page that word w lies in
unfoldable pub page_of : Sizes → ℕ → ℕ
page_of s w = first_below (λ p. ltb w (page_base s (p + 1))) s.pages

-- the slot of `page` that it lies in
unfoldable pub slot_of : Sizes → ℕ → ℕ → ℕ
slot_of s page w = first_below (λ i. ltb w (slot_base s page (i + 1))) (slots_in s page)

-- the first word of its slot
unfoldable pub slot_start : Sizes → ℕ → ℕ
slot_start s w = slot_base s (page_of s w) (slot_of s (page_of s w) w)

-- A word of the page memory lies within its slot.
pub record InSlot (s : Sizes) (w : ℕ) : Type 0 where
  pub slot_lt : slot_of s (page_of s w) w < slots_in s (page_of s w)
  pub start_le : slot_start s w ≤ w
  pub start_end : w < slot_start s w + width_in s (page_of s w)
  pub start_lt : slot_start s w < total s

module _ (s : Sizes) where
  -- every word of a page has that page
  pub page_of_lem : (page w : ℕ) → page < s.pages → page_base s page ≤ w → w < page_base s page + page_words s page → page_of s w ≡ page
  unfolding page_of
  page_of_lem page w h from end =
      place_is (page_base s) w (page_base_mono s) s.pages page h from (rw (page_base_step s) end)

  -- a word of the page memory lies within its page
  pub page_in : (w : ℕ) → w < total s
      → (page_of s w < s.pages) × (page_base s (page_of s w) ≤ w) × (w < page_base s (page_of s w) + page_words s (page_of s w))
  unfolding page_of total
  page_in w h =
      rw (page_base_step s) at (place_in (page_base s) w s.pages (page_base_zero s w) h)

  slot_of_lem : (page slot w : ℕ) → slot < slots_in s page → slot_base s page slot ≤ w → w < slot_base s page slot + width_in s page
      → slot_of s page w ≡ slot
  unfolding slot_of
  slot_of_lem page slot w h from end =
      place_is (slot_base s page) w (slot_base_mono s page) (slots_in s page) slot h from (rw (slot_base_step s) end)

  -- every word of a slot has that slot's start
  pub slot_start_lem : (page slot w : ℕ) → page < s.pages → slot < slots_in s page
      → slot_base s page slot ≤ w → w < slot_base s page slot + width_in s page
      → (slot_start s w ≡ slot_base s page slot) × (page_of s w ≡ page)
  unfolding slot_start
  slot_start_lem page slot w h k from end =
      let here : page_of s w ≡ page =
      page_of_lem page w h (omega (arith, slot_base_ge s page slot)) (omega (arith, slot_end s page slot k)) in
      (rw (here, slot_of_lem page slot w k from end), here)

  pub slot_in : (w : ℕ) → w < total s → InSlot s w
  unfolding slot_start slot_of
  slot_in w h =
      let at = page_in w h in
      let page : ℕ = page_of s w in
      let found = place_in (slot_base s page) w (slots_in s page) (rw (slot_base_first s) at.1) (rw (slot_base_last s) at.2) in
      record {
        slot_lt = found.0;
        start_le = found.1;
        start_end = rw (slot_base_step s) at found.2;
        start_lt = omega arith;
      }

  -- the start of a word's slot is its own start, in the same page
  pub start_of_start : (w : ℕ) → w < total s → (slot_start s (slot_start s w) ≡ slot_start s w) × (page_of s (slot_start s w) ≡ page_of s w)
  unfolding slot_start
  start_of_start w h =
      let in_slot = slot_in w h in
      slot_start_lem (page_of s w) (slot_of s (page_of s w) w) (slot_start s w) (page_in w h).0 in_slot.slot_lt (omega arith) (omega arith)

  -- words outside a slot have another start
  pub slot_apart : (page slot w : ℕ) → Bounded s → page < s.pages → slot < slots_in s page → w < total s
      → spanning (slot_base s page slot) (width_in s page) w ≡ false → slot_start s w ≡ slot_base s page slot → ⊥
  unfolding spanning
  slot_apart page slot w b h k l outside same =
      let of_page = b.used page h in
      let in_slot = slot_in w l in
      let there : page_of s (slot_base s page slot) ≡ page = (slot_start_lem page slot (slot_base s page slot) h k (omega arith) (omega arith)).1 in
      let width : width_in s (page_of s w) ≡ width_in s page =
      ap (width_in s) (sym (start_of_start w l).1 ∙ ap (page_of s) same ∙ there) in
      true≢false (sym (rw (le-leb (slot_base s page slot) w (omega arith), lt-ltb w (slot_base s page slot + width_in s page) (omega arith))) ∙ outside)
