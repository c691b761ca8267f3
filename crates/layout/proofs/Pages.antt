-- A page lies within the page memory, and its copy within a backup; the entries of pages that are not there add no words. The bases of
-- the pages, filled and tested in one loop.
use mathlib.Core.Path.{◌≡◌, refl, sym, ap, ◌∙◌}
use mathlib.Core.Bool.{Bool, true, false, ◌&&◌, and-true, and-false}
use mathlib.Core.List.{List}
use Prim.Native.Nat.{ℕ, zero, suc, ◌+◌, ◌-◌, ◌*◌, ◌≤◌, ◌<◌}
use native.Mathlib.Omega.{arith}
use native.Mathlib.Decide.{ℕ_discrete}
use lib.Dec.{ltb, eqb}
use lib.ListN.{length, get_or, set}
use lib.Seq.{take_all, get_or-set_same, get_or-set_other}
use borrow.Author.Tests.{ltb-true, ltb-false, eq-eqb, ne_eqb}
use Rattle.model.specs.declared.Sizes.{Sizes}
use Rattle.model.specs.Sizes.{page_base, page_words, total, sizes_in_bounds}
use Rattle.model.specs.Below.{sum_below, all_below, list_below}
use Rattle.model.specs.State.{bases_of}
use Rattle.model.proofs.Below.{list_cong, all_more, all_stop}
use Rattle.model.proofs.Parts.{take_list}
use Rattle.model.proofs.Bounds.{bounded}
use Rattle.model.proofs.Geometry.{page_base_step, page_end}

module _ (s : Sizes) (page : ℕ) {base n : ℕ} (h : page < s.pages) (b : base ≡ page_base s page) (e : n ≡ page_words s page) where
  pub page_fits : {words : ℕ} → words ≡ total s → base + n ≤ words
  page_fits k = omega (arith, page_end s page h)

  pub copy_fits : (at : ℕ) {words : ℕ} → at + total s ≤ 2 * total s → words ≡ 2 * total s → at + base + n ≤ words
  copy_fits at k m = omega (arith, page_end s page h)

module _ (s : Sizes) (ok : sizes_in_bounds s ≡ true) where
  no_words : (page : ℕ) → s.pages ≤ page → page < 64 → page_words s page ≡ 0
  unfolding page_words
  no_words page h k = rw ((bounded s ok).unused page h k).0 (omega arith)

  pub page_small : (page : ℕ) → page < 64 → page_words s page ≤ 128
  page_small page h = go (ltb page s.pages) refl
    where
      go : (b : Bool) → ltb page s.pages ≡ b → page_words s page ≤ 128
      go true e = ((bounded s ok).used page (ltb-true page s.pages e)).words_max
      go false e = omega (arith, no_words page (ltb-false page s.pages e) h)

  past_pages : (k : ℕ) → s.pages + k ≤ 64 → page_base s (s.pages + k) ≡ total s
  unfolding total
  past_pages zero h = ap (page_base s) (omega arith)
  past_pages (suc k) h =
      let next : s.pages + suc k ≡ s.pages + k + 1 = omega arith in
      rw next (page_base_step s (s.pages + k) ∙ rw (no_words (s.pages + k) (omega arith) (omega (arith, h))) (omega (arith, past_pages k (omega (arith, h)))))

  pub all_pages : page_base s 64 ≡ total s
  all_pages =
      let whole : s.pages + (64 - s.pages) ≡ 64 = omega (arith, (bounded s ok).pages_max) in
      rw whole at (past_pages (64 - s.pages) (omega (arith, (bounded s ok).pages_max)))

-- sums set one after the other
pub sums_more : (f : ℕ → ℕ) (l : List ℕ) (i sum : ℕ) → i < length l → sum ≡ sum_below f i
    → ((j : ℕ) → j < i → get_or l j 0 ≡ sum_below f j) → (j : ℕ) → j < i + 1 → get_or (set l i sum) j 0 ≡ sum_below f j
sums_more f l i sum fits e done j h = go (ℕ_discrete j i)
  where
    go : Dec (j ≡ i) → get_or (set l i sum) j 0 ≡ sum_below f j
    go (yes same) = rw (same, get_or-set_same l i sum 0 fits) e
    go (no ne) = get_or-set_other l i j sum 0 ne ∙ done j (omega (arith, ne))

module _ (s : Sizes) (ok : sizes_in_bounds s ≡ true) {sum : ℕ} (all : sum ≡ page_base s 64) where
  pub bases_filled : (pages : List ℕ) → length pages ≡ 64 → ((page : ℕ) → page < 64 → get_or pages page 0 ≡ page_base s page)
      → record { pages = pages; total = sum } ≡ bases_of s
  unfolding bases_of
  bases_filled pages long same =
      let each : pages ≡ list_below (page_base s) 64 =
      sym (take_all 64 pages (omega (arith, long))) ∙ take_list 64 pages (omega (arith, long)) ∙ list_cong _ _ 64 same in
      rw (each, all, all_pages s ok)

  -- the last test, when every page has passed
  pub bases_tested : (words : ℕ) (pages : Bool) → true ≡ pages → eqb words sum ≡ (eqb words (total s) && pages)
  bases_tested words pages e = rw (← e, and-true, all, all_pages s ok) refl

-- one page more in the test, and a page that begins elsewhere
module _ (pages : List ℕ) (base : ℕ → ℕ) (i : ℕ) {sum : ℕ} (e : sum ≡ base i) where
  pub base_more : all_below (λ page. eqb (get_or pages page 0) (base page)) i ≡ true → get_or pages i 0 ≡ sum
      → all_below (λ page. eqb (get_or pages page 0) (base page)) (i + 1) ≡ true
  base_more all same = all_more _ i all (eq-eqb (get_or pages i 0) (base i) (same ∙ e))

  pub base_wrong : (whole : Bool) → i < 64 → (get_or pages i 0 ≡ sum → ⊥)
      → false ≡ (whole && all_below (λ page. eqb (get_or pages page 0) (base page)) 64)
  base_wrong whole h other =
      rw (← all_stop (λ page. eqb (get_or pages page 0) (base page)) 64 i h (ne_eqb (get_or pages i 0) (base i) (λ same. other (same ∙ sym e))))
      (sym (and-false whole))
