-- A slot by the words of the head: the tests of the code are those of the rows.
use mathlib.Core.Path.{◌≡◌, refl, sym, subst, ap, ◌∙◌}
use mathlib.Core.List.{List}
use mathlib.Core.Bool.{Bool, true, false, and-false, cond, not, ◌&&◌}
use Prim.Native.Nat.{ℕ, ◌+◌, ◌*◌, ◌≤◌, ◌<◌}
use native.Mathlib.Omega.{arith}
use lib.Dec.{leb, eqb}
use lib.ListN.{get_or, drop}
use lib.Seq.{get_or-drop}
use borrow.Author.Tests.{leb-true, le-leb, lt-leb, eq-eqb, ne_eqb}
use Rattle.model.specs.declared.Sizes.{Sizes}
use Rattle.model.specs.declared.Core.{Core}
use Rattle.model.specs.declared.Carried.{Carried}
use Rattle.model.specs.Below.{within}
use Rattle.model.specs.Sizes.{slots_in, width_in}
use Rattle.model.specs.Memory.{buffer_at, copy_at, owner_at, owner_of}
use Rattle.model.specs.State.{in_table, is_open, base_of, slot_place}
use Rattle.model.specs.Causes.{slot_missing}
use Rattle.model.specs.Reads.{slot_fits}
use Rattle.model.specs.View.{head_slots, head_widths, head_bases, head_words, own_work, core_of}
use Rattle.model.specs.Fields.{slots, widths, bases}
use Rattle.model.proofs.Booleans.{all_four, in_range}
use Rattle.model.proofs.View.Head.{carried_back}
use Rattle.model.proofs.View.Fields.{field_read}
use Rattle.layout.proofs.Laws.{product_max}
use Rattle.frame.specs.Fits.{page_within}
use Rattle.frame.specs.declared.refusal.Refusal.{Refusal}
use Rattle.frame.specs.declared.refusal.Refusal.TheVariants.{Stage, OutOfRange}
use Rattle.frame.specs.Refusal.{number_of}
use Rattle.frame.proofs.Refusals.{ok_same}
use Rattle.std.specs.Prelude.{Ok, Err}
use Rattle.frame.proofs.Fitting.{slot_here}
use Rattle.access.specs.declared.slots.Slot.{Slot}
use Rattle.access.specs.Slots.{SlotOf, Finds}

-- A page of any numbers.
module _ (a b base t : ℕ) where
  pub page_out : within 1 128 a && within 1 32 b && leb (a * b) 128 ≡ false → false ≡ page_within a b base t
  unfolding page_within
  page_out e = rw e refl

  pub many_slots : 128 < a → within 1 128 a && within 1 32 b && leb (a * b) 128 ≡ false
  unfolding within
  many_slots h = rw (le-leb 1 a (omega (arith, h)), lt-leb a 128 h) refl

  pub base_out : t < base → false ≡ page_within a b base t
  unfolding page_within
  base_out h =
      rw (lt-leb (base + a * b) t (omega (arith, h))) (sym (and-false (within 1 128 a && within 1 32 b && leb (a * b) 128)))

  pub page_in : within 1 128 a && within 1 32 b && leb (a * b) 128 ≡ true → leb (base + a * b) t ≡ page_within a b base t
  unfolding page_within
  page_in e = rw e refl

  -- what keeps the place of a slot of it small
  pub page_bounds : {slot : ℕ} → slot < a → page_within a b base t ≡ true → (slot * b ≤ 4096) × (b ≤ 32) × (base + slot * b ≤ t)
  unfolding page_within
  page_bounds {slot} below e =
      let four = all_four (within 1 128 a) (within 1 32 b) (leb (a * b) 128) (leb (base + a * b) t) e in
      let few = (in_range 1 128 a four.0).1 in
      let narrow = (in_range 1 32 b four.1).1 in
      let less = product_max slot b a b (omega (arith, below)) (omega arith) in
      (omega (arith, product_max slot b 128 32 (omega (arith, below, few)) narrow), narrow, omega (arith, less, leb-true (base + a * b) t four.3))

-- a slot that is refused
refused_slot : {c : Core} {page slot : ℕ} (r : Refusal)
    → number_of r ≡ cond (slot_missing c.sizes page slot) 8 (cond (slot_fits page slot c) 0 1) → Finds c page slot (Err r)
refused_slot r e = record { refusal = e; ready = λ s is. cc }

-- A slot of the state that a work memory is the own one of.
module _ (h : Carried) (work : List ℕ) (own : own_work h work ≡ true) {pages total : ℕ} (page slot : ℕ) (same_pages : h.pages ≡ pages)
    (same_total : h.total ≡ total) where
  abbrev c : Core
  c = core_of h work

  pages_here : c.sizes.pages ≡ pages
  pages_here = ap (λ (x : Carried). x.pages) (carried_back h work) ∙ same_pages

  total_here : c.bases.total ≡ total
  total_here = ap (λ (x : Carried). x.total) (carried_back h work) ∙ same_total

  pub slot_beyond : pages ≤ page → Finds c page slot (Err OutOfRange)
  unfolding slot_missing
  slot_beyond high = refused_slot OutOfRange (rw (pages_here, le-leb pages page high) refl)

  -- whose page there is, with the page's words in the head
  module _ (low : page < pages) (few : pages ≤ 64) where
    abbrev slots_word : ℕ
    slots_word = get_or work (head_slots + page) 0

    abbrev width_word : ℕ
    width_word = get_or work (head_widths + page) 0

    abbrev base_word : ℕ
    base_word = get_or work (head_bases + page) 0

    slots_here : slots_in c.sizes page ≡ slots_word
    unfolding slots_in
    slots_here = field_read h work own slots page (omega (arith, low, few))

    width_here : width_in c.sizes page ≡ width_word
    unfolding width_in
    width_here = field_read h work own widths page (omega (arith, low, few))

    base_here : base_of c page ≡ base_word
    unfolding base_of
    base_here = field_read h work own bases page (omega (arith, low, few))

    pub slot_high : slots_word ≤ slot → Finds c page slot (Err OutOfRange)
    unfolding slot_missing
    slot_high high =
        refused_slot OutOfRange (rw (pages_here, lt-leb pages page low, slots_here, le-leb slots_word slot high) refl)

    module _ (there : slot < slots_word) where
      found : slot_missing c.sizes page slot ≡ false
      unfolding slot_missing
      found = rw (pages_here, lt-leb pages page low, slots_here, lt-leb slots_word slot there) refl

      fits_here : slot_fits page slot c ≡ page_within slots_word width_word base_word total
      fits_here = sym (slot_here c page slot found) ∙ rw (slots_here, width_here, base_here, total_here) refl

      pub page_unfit : {b : Bool} → b ≡ page_within slots_word width_word base_word total → b ≡ false → Finds c page slot (Err Stage)
      page_unfit test fails = refused_slot Stage (rw (found, fits_here, ← test, fails) refl)

      pub slot_found : {b : Bool} → b ≡ page_within slots_word width_word base_word total → b ≡ true
          → Finds c page slot (Ok (record { at = base_word + slot * width_word; width = width_word }))
      unfolding slot_place
      slot_found test passes =
          record {
            refusal = rw (found, fits_here, ← test, passes) refl;
            ready =
                λ s is.
                subst (λ (s : Slot). SlotOf c page slot s) (ok_same is)
                (record { place = rw (base_here, width_here) refl; width = sym width_here });
          }

-- The owner of a slot, behind the head and the copy numbers.
pub owner_at_lem : (s : Sizes) (at : ℕ) {place : ℕ} → place ≡ owner_at s at → place ≡ buffer_at s.disks + 64 + at
unfolding owner_at copy_at
owner_at_lem s at e = e

pub copy_at_lem : (s : Sizes) (page : ℕ) {place : ℕ} → place ≡ copy_at s page → place ≡ buffer_at s.disks + page
unfolding copy_at
copy_at_lem s page e = e

module _ (h : Carried) (work : List ℕ) (at number : ℕ) {place : ℕ}
    (there : place ≡ owner_at (core_of h work).sizes at) where
  abbrev owner : ℕ
  owner = owner_of (core_of h work).sizes (drop head_words work) at

  owner_here : owner ≡ get_or work (head_words + place) 0
  unfolding owner_of
  owner_here = get_or-drop head_words work (owner_at (core_of h work).sizes at) 0 ∙ rw there refl

  pub own_slot : get_or work (head_words + place) 0 ≡ number → false ≡ (in_table (core_of h work).table owner && not (eqb owner number))
  own_slot e =
      rw (owner_here, eq-eqb _ _ e) (sym (and-false (in_table (core_of h work).table (get_or work (head_words + place) 0))))

  pub others_slot : (get_or work (head_words + place) 0 ≡ number → ⊥) → {b : Bool}
      → b ≡ is_open (core_of h work).table (get_or work (head_words + place) 0)
      → b ≡ (in_table (core_of h work).table owner && not (eqb owner number))
  unfolding is_open
  others_slot other {b} e = rw (owner_here, ne_eqb _ _ other, ← e) (and_same b)
    where
      and_same : (b : Bool) → b ≡ (b && true)
      and_same true = refl
      and_same false = refl
