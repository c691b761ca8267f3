-- What a state keeps of its sizes, the page bases and T: where it is right, it is what the sizes give.
use mathlib.Core.Path.{◌≡◌, sym, ap, subst, ◌∙◌}
use mathlib.Core.Bool.{Bool, true, not, ◌&&◌}
use Prim.Native.Nat.{ℕ, zero, suc, ◌+◌, ◌*◌, ◌<◌}
use native.Mathlib.Omega.{arith}
use lib.Dec.{eqb}
use lib.ListN.{get_or}
use borrow.Author.Tests.{eqb-true, eq-eqb}
use Rattle.model.specs.declared.Bases.{Bases}
use Rattle.model.specs.declared.Core.{Core}
use Rattle.model.specs.Below.{sum_below, all_below}
use Rattle.model.specs.Word.{part}
use Rattle.model.specs.Sizes.{width_in, page_words, page_base, slot_base, total}
use Rattle.model.specs.State.{in_table, bases_of, base_of, slot_place, bases_right}
use Rattle.model.specs.World.{World}
use Rattle.model.specs.Memory.{owner_of}
use Rattle.model.specs.Causes.{locked}
use Rattle.model.specs.Transaction.{slot_words}
use Rattle.model.proofs.Below.{all_each, each_all, get_or_list}
use Rattle.model.proofs.Booleans.{both, both_ways}
use Rattle.model.proofs.Geometry.{page_base_step}

-- a page's base and its words give the next page's base
follows : Core → ℕ → Bool
follows c page = eqb (base_of c (page + 1)) (base_of c page + page_words c.sizes page)

module _ (c : Core) (right : bases_right c ≡ true) where
  kept_parts : (c.bases.total ≡ total c.sizes) × (base_of c 0 ≡ 0) × (all_below (follows c) 63 ≡ true)
  unfolding bases_right follows
  kept_parts =
      let t = both (eqb c.bases.total (total c.sizes) && eqb (base_of c 0) 0) (all_below (follows c) 63) right in
      let head = both (eqb c.bases.total (total c.sizes)) (eqb (base_of c 0) 0) t.0 in
      (eqb-true _ _ head.0, eqb-true _ _ head.1, t.1)

  pub total_kept : c.bases.total ≡ total c.sizes
  total_kept = kept_parts.0

  pub base_kept : (page : ℕ) → page < 64 → base_of c page ≡ page_base c.sizes page
  unfolding page_base sum_below follows
  base_kept zero h = kept_parts.1
  base_kept (suc page) h =
      let next : base_of c (page + 1) ≡ base_of c page + page_words c.sizes page = eqb-true _ _ (all_each (follows c) 63 kept_parts.2 page (omega arith)) in
      let one : page + 1 ≡ suc page = omega arith in
      subst (λ (n : ℕ). base_of c n ≡ page_base c.sizes n) one
      (next ∙ ap (λ (base : ℕ). base + page_words c.sizes page) (base_kept page (omega arith)) ∙ sym (page_base_step c.sizes page))

  pub place_kept : (page slot : ℕ) → page < 64 → slot_place c page slot ≡ slot_base c.sizes page slot
  unfolding slot_place slot_base
  place_kept page slot h = ap (λ (base : ℕ). base + slot * width_in c.sizes page) (base_kept page h)

  -- a slot's words, and whether it is locked
  module _ (w : World) (page slot : ℕ) (h : page < 64) where
    pub slot_words_lem : slot_words c w page slot ≡ part (slot_base c.sizes page slot) (width_in c.sizes page) w.pages
    unfolding slot_words
    slot_words_lem = ap (λ (at : ℕ). part at (width_in c.sizes page) w.pages) (place_kept page slot h)

    pub lock_of : (number : ℕ) → locked c w number page slot
        ≡ (in_table c.table (owner_of c.sizes w.work (slot_base c.sizes page slot))
        && not (eqb (owner_of c.sizes w.work (slot_base c.sizes page slot)) number))
    unfolding locked
    lock_of number =
        ap (λ (at : ℕ). in_table c.table (owner_of c.sizes w.work at) && not (eqb (owner_of c.sizes w.work at) number))
        (place_kept page slot h)

-- Conversely, what the sizes give is right.
pub bases_test : (c : Core) → c.bases.total ≡ total c.sizes → ((page : ℕ) → page < 64 → base_of c page ≡ page_base c.sizes page) → bases_right c ≡ true
unfolding bases_right follows page_base sum_below
bases_test c total base =
    rw (
      eq-eqb _ _ total,
      eq-eqb (base_of c 0) 0 (base 0 (omega arith)),
      each_all (follows c) 63 (λ page h. eq-eqb _ _
          (base (page + 1) (omega arith) ∙ page_base_step c.sizes page ∙ ap (λ (n : ℕ). n + page_words c.sizes page) (sym (base page (omega arith))))),
    )

-- the same test, page by page
pub bases_by_page : (c : Core)
    → bases_right c ≡ (eqb c.bases.total (total c.sizes) && all_below (λ page. eqb (base_of c page) (page_base c.sizes page)) 64)
bases_by_page c =
    both_ways (bases_right c) (eqb c.bases.total (total c.sizes) && all_below same 64)
    (λ right. rw (eq-eqb _ _ (total_kept c right)) (each_all same 64 (λ page h. eq-eqb _ _ (base_kept c right page h))))
    (λ e.
    let t = both (eqb c.bases.total (total c.sizes)) (all_below same 64) e in
    bases_test c (eqb-true _ _ t.0) (λ page h. eqb-true _ _ (all_each same 64 t.1 page h)))
  where
    same : ℕ → Bool
    same page = eqb (base_of c page) (page_base c.sizes page)

-- as format and restart begin make it
pub bases_made : (c : Core) → c.bases ≡ bases_of c.sizes → bases_right c ≡ true
unfolding bases_of base_of
bases_made c e =
    bases_test c (ap (λ (b : Bases). b.total) e)
    (λ page h. ap (λ (b : Bases). get_or b.pages page 0) e ∙ get_or_list (page_base c.sizes) 64 page 0 h)

-- and as every other call hands it on
pub bases_carried : (c e : Core) → e.bases ≡ c.bases → e.sizes ≡ c.sizes → bases_right c ≡ true → bases_right e ≡ true
unfolding bases_right base_of
bases_carried c e bases sizes right = rw (bases, sizes) right
