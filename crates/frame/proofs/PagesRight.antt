-- The pages by the words of the head: one page after the other in the loops, and all of them against the bounds on the sizes and
-- `bases_right`.
use mathlib.Core.Path.{◌≡◌, refl, sym, ap, ◌∙◌}
use mathlib.Core.List.{List}
use mathlib.Core.Bool.{Bool, true, false, cond, ◌&&◌, ◌||◌, and-false}
use Prim.Native.Nat.{ℕ, ◌+◌, ◌*◌, ◌≤◌, ◌<◌}
use native.Mathlib.Omega.{arith}
use lib.Dec.{ltb, eqb}
use lib.ListN.{length, get_or}
use borrow.Author.Tests.{ltb-true, ltb-false, lt-ltb, le-ltb, lt-leb, eqb-true, eq-eqb, ne_eqb}
use Rattle.model.specs.declared.Core.{Core}
use Rattle.model.specs.declared.Sizes.{Sizes}
use Rattle.model.specs.declared.Carried.{Carried}
use Rattle.model.specs.Below.{within, sum_below, all_below}
use Rattle.model.specs.Sizes.{slots_in, width_in, page_words, page_base, total, used_entry, unused_entry, entry_in_bounds, counts_in_bounds, sizes_in_bounds}
use Rattle.model.specs.State.{base_of, bases_right}
use Rattle.model.specs.View.{head_slots, head_widths, head_bases, own_work, core_of}
use Rattle.model.specs.Fields.{slots, widths, bases}
use Rattle.model.proofs.Booleans.{both, both_ways}
use Rattle.model.proofs.Below.{all_each, each_all, all_stop, sum_cong}
use Rattle.model.proofs.Geometry.{page_base_mono}
use Rattle.model.proofs.KeptBases.{total_kept, base_kept, bases_test}
use Rattle.model.proofs.View.Head.{HeadSized, view_sized, carried_back}
use Rattle.model.proofs.View.Fields.{field_read}
use Rattle.layout.proofs.Faults.{no_words, too_many, too_wide, all_right}
use Rattle.layout.proofs.Pages.{all_pages}
use Rattle.frame.specs.Pages.{entry_right, words_at, used_at, used_right, unused_at, unused_right}

-- An entry by its numbers.
module _ (slots width base sum : ℕ) where
  pub many_slots : 128 < slots → entry_right slots width base sum ≡ false
  unfolding entry_right within
  many_slots h = rw (lt-leb slots 128 h, and-false) refl

  pub wide : 32 < width → entry_right slots width base sum ≡ false
  unfolding entry_right
  wide h = rw (too_wide slots width h) refl

  pub wordless : slots * width ≡ 0 → entry_right slots width base sum ≡ false
  unfolding entry_right
  wordless e = rw (no_words slots width e) refl

  pub many_words : 128 < slots * width → entry_right slots width base sum ≡ false
  unfolding entry_right
  many_words h = rw (too_many slots width h) refl

  pub elsewhere : (base ≡ sum → ⊥) → entry_right slots width base sum ≡ false
  unfolding entry_right
  elsewhere ne = rw (ne_eqb base sum ne, and-false) refl

  pub page_passes : (slots * width ≡ 0 → ⊥) → slots * width ≤ 128 → width ≤ 32 → base ≡ sum → entry_right slots width base sum ≡ true
  unfolding entry_right
  page_passes some few narrow e = rw (all_right slots width some few narrow) (eq-eqb base sum e)

module _ (work : List ℕ) (end t i : ℕ) where
  pub used_wrong : i < end → used_at work i ≡ false → false ≡ used_right work end t
  unfolding used_right
  used_wrong low e = rw (← all_stop (used_at work) end i low e) refl

  pub used_done : i ≡ end → {sum : ℕ} → sum ≡ sum_below (words_at work) i → all_below (used_at work) i ≡ true → eqb sum t ≡ used_right work end t
  unfolding used_right
  used_done last e all = rw (← last, all, e) refl

module _ (work : List ℕ) (from t i : ℕ) where
  pub unused_wrong : i < 64 → unused_at work from t i ≡ false → false ≡ unused_right work from t
  unfolding unused_right
  unused_wrong low e = all_stop (unused_at work from t) 64 i low e

  pub unused_done : i ≡ 64 → all_below (unused_at work from t) i ≡ true → true ≡ unused_right work from t
  unfolding unused_right
  unused_done last all = sym (rw last at all)

-- the entries below `from` pass
pub unused_begins : (work : List ℕ) (from t : ℕ) → all_below (unused_at work from t) from ≡ true
unused_begins work from t = each_all (unused_at work from t) from (λ i low. rw (lt-ltb i from low) refl)

-- All of them, against the view of which the work memory is the own one.
module _ (h : Carried) (work : List ℕ) (own : own_work h work ≡ true) {pages t : ℕ} (same_pages : h.pages ≡ pages) (same_total : h.total ≡ t)
    (counts : counts_in_bounds (core_of h work).sizes ≡ true) (few : pages ≤ 64) where
  abbrev c : Core
  c = core_of h work

  abbrev s : Sizes
  s = (core_of h work).sizes

  pages_here : s.pages ≡ pages
  pages_here = ap (λ (x : Carried). x.pages) (carried_back h work) ∙ same_pages

  total_here : c.bases.total ≡ t
  total_here = ap (λ (x : Carried). x.total) (carried_back h work) ∙ same_total

  slots_here : (i : ℕ) → i < 64 → slots_in s i ≡ get_or work (head_slots + i) 0
  unfolding slots_in
  slots_here i low = field_read h work own slots i low

  width_here : (i : ℕ) → i < 64 → width_in s i ≡ get_or work (head_widths + i) 0
  unfolding width_in
  width_here i low = field_read h work own widths i low

  base_here : (i : ℕ) → i < 64 → base_of c i ≡ get_or work (head_bases + i) 0
  unfolding base_of
  base_here i low = field_read h work own bases i low

  sum_here : (i : ℕ) → i ≤ 64 → page_base s i ≡ sum_below (words_at work) i
  unfolding page_base page_words
  sum_here i few = sum_cong (page_words s) (words_at work) i (λ j low. rw (slots_here j (omega arith), width_here j (omega arith)) refl)

  used_here : (i : ℕ) → i < 64 → (used_entry s i && eqb (base_of c i) (page_base s i)) ≡ used_at work i
  unfolding used_entry page_words entry_right
  used_here i low = rw (slots_here i low, width_here i low, base_here i low, sum_here i (omega arith)) refl

  unused_here : (i : ℕ) → i < 64 → (unused_entry s i && eqb (base_of c i) t) ≡ (eqb (get_or work (head_slots + i) 0) 0 && eqb (get_or work (head_widths + i) 0) 0 && eqb (get_or work (head_bases + i) 0) t)
  unfolding unused_entry
  unused_here i low = rw (slots_here i low, width_here i low, base_here i low) refl

  module _ (used : used_right work pages t ≡ true) (unused : unused_right work pages t ≡ true) where
    each_used : (i : ℕ) → i < pages → (used_entry s i ≡ true) × (base_of c i ≡ page_base s i)
    unfolding used_right
    each_used i low =
        let all = (both (all_below (used_at work) pages) (eqb (sum_below (words_at work) pages) t) used).0 in
        let two = both (used_entry s i) (eqb (base_of c i) (page_base s i)) (used_here i (omega arith) ∙ all_each (used_at work) pages all i low) in
        (two.0, eqb-true _ _ two.1)

    each_unused : (i : ℕ) → pages ≤ i → i < 64 → (unused_entry s i ≡ true) × (base_of c i ≡ t)
    unfolding unused_right
    each_unused i high low =
        let here = all_each (unused_at work pages t) 64 unused i low in
        let two = both (unused_entry s i) (eqb (base_of c i) t) (unused_here i low ∙ (rw (le-ltb i pages high) at here)) in
        (two.0, eqb-true _ _ two.1)

    each_entry : (i : ℕ) → i < 64 → entry_in_bounds s i ≡ true
    unfolding entry_in_bounds
    each_entry i low = go (ltb i s.pages) refl
      where
        go : (b : Bool) → ltb i s.pages ≡ b → cond b (used_entry s i) (unused_entry s i) ≡ true
        go true e = (each_used i (omega (arith, ltb-true i s.pages e, pages_here))).0
        go false e = (each_unused i (omega (arith, ltb-false i s.pages e, pages_here)) low).0

    sized : sizes_in_bounds s ≡ true
    unfolding sizes_in_bounds HeadSized
    sized =
        rw (
          counts,
          eq-eqb (length s.slots) 64 (ap (λ (ls : List ℕ). get_or ls 0 0) (view_sized h work)),
          eq-eqb (length s.widths) 64 (ap (λ (ls : List ℕ). get_or ls 1 0) (view_sized h work)),
        ) (each_all (entry_in_bounds s) 64 each_entry)

    sum_total : total s ≡ t
    unfolding total used_right
    sum_total =
        let sum = (both (all_below (used_at work) pages) (eqb (sum_below (words_at work) pages) t) used).1 in
        rw pages_here (sum_here pages few ∙ eqb-true _ _ sum)

    each_base : (i : ℕ) → i < 64 → base_of c i ≡ page_base s i
    unfolding total
    each_base i low = go (ltb i pages) refl
      where
        go : (b : Bool) → ltb i pages ≡ b → base_of c i ≡ page_base s i
        go true e = (each_used i (ltb-true i pages e)).1
        go false e =
            let high = ltb-false i pages e in
            let above = page_base_mono s s.pages i (omega (arith, high, pages_here)) in
            let below = page_base_mono s i 64 (omega (arith, low)) in
            omega (arith, (each_unused i high low).1, sum_total, above, below, all_pages s sized)

    passes : sizes_in_bounds s && bases_right c ≡ true
    passes = rw sized (bases_test c (total_here ∙ sym sum_total) each_base)

  module _ (ok : sizes_in_bounds s && bases_right c ≡ true) where
    sizes : sizes_in_bounds s ≡ true
    sizes = (both (sizes_in_bounds s) (bases_right c) ok).0

    right : bases_right c ≡ true
    right = (both (sizes_in_bounds s) (bases_right c) ok).1

    entry : (i : ℕ) → i < 64 → entry_in_bounds s i ≡ true
    unfolding sizes_in_bounds
    entry i low =
        all_each (entry_in_bounds s) 64
        (both (counts_in_bounds s && eqb (length s.slots) 64 && eqb (length s.widths) 64) (all_below (entry_in_bounds s) 64) sizes).1 i low

    used_passes : used_right work pages t ≡ true
    unfolding used_right entry_in_bounds total
    used_passes =
        let each = each_all (used_at work) pages (λ i low.
        let below : ltb i s.pages ≡ true = lt-ltb i s.pages (omega (arith, low, pages_here)) in
        sym (used_here i (omega (arith, low, few))) ∙ rw ((rw below at (entry i (omega (arith, low, few)))), eq-eqb _ _ (base_kept c right i (omega (arith, low, few)))) refl) in
        let last : sum_below (words_at work) pages ≡ t = sym (sum_here pages few) ∙ ap (page_base s) (sym pages_here) ∙ sym (total_kept c right) ∙ total_here in
        rw (each, eq-eqb _ _ last) refl

    unused_passes : unused_right work pages t ≡ true
    unfolding unused_right entry_in_bounds total
    unused_passes = each_all (unused_at work pages t) 64 (λ i low. go i low (ltb i pages) refl)
      where
        go : (i : ℕ) → i < 64 → (b : Bool) → ltb i pages ≡ b
            → b || eqb (get_or work (head_slots + i) 0) 0 && eqb (get_or work (head_widths + i) 0) 0 && eqb (get_or work (head_bases + i) 0) t ≡ true
        go i low true e = refl
        go i low false e =
            let high = ltb-false i pages e in
            let above : ltb i s.pages ≡ false = le-ltb i s.pages (omega (arith, high, pages_here)) in
            let over = page_base_mono s s.pages i (omega (arith, high, pages_here)) in
            let under = page_base_mono s i 64 (omega (arith, low)) in
            let base : base_of c i ≡ t = omega (arith, base_kept c right i low, total_kept c right, total_here, over, under, all_pages s sizes) in
            sym (unused_here i low) ∙ rw ((rw above at (entry i low)), eq-eqb _ _ base) refl

  pub pages_tested : used_right work pages t && unused_right work pages t ≡ (sizes_in_bounds s && bases_right c)
  pages_tested =
      both_ways (used_right work pages t && unused_right work pages t) (sizes_in_bounds s && bases_right c)
      (λ e. let two = both (used_right work pages t) (unused_right work pages t) e in passes two.0 two.1)
      (λ ok. rw (used_passes ok, unused_passes ok) refl)
