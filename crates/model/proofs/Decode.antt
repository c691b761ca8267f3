-- What is known of a decoded record, and which words it depends on.
use Rattle.std.specs.Prelude.{Some, None, Option}
use Prim.Native.Nat.{ℕ, ◌+◌, ◌/◌, ◌≤◌, ◌<◌}
use mathlib.Core.Path.{◌≡◌, refl, subst}
use mathlib.Core.Bool.{false}
use native.Mathlib.Omega.{arith}
use lib.Dec.{ltb, eqb}
use borrow.Author.Tests.{ltb-true, ltb-false, leb-false, eqb-true, eqb-false, not-false}
use Rattle.model.specs.declared.Sizes.{Sizes}
use Rattle.model.specs.declared.Decoded.{Decoded}
use Rattle.model.specs.declared.Decoded.TheVariants.{Change, Close, Malformed}
use Rattle.model.specs.Sizes.{slots_in, width_in}
use Rattle.model.specs.Record.{record_size}
use Rattle.model.specs.Decode.{kind_field, page_field, slot_field, width_field, misplaced, decode_sized, decode_words, decode_at}
use Rattle.model.proofs.Booleans.{or_none, cond_all, cond_cong}
use Rattle.model.proofs.RecordSizes.{has_size}

-- A change decoded at p: its fields are the page's, and it ends at or before the stop.
pub record ChangeAt (s : Sizes) (stop p kind page slot number width next : ℕ) : Type 0 where
  pub kind_lt : kind < 2
  pub page_in : page < s.pages
  pub page_lt : page < 64
  pub slot_in : slot < slots_in s page
  pub slot_lt : slot < 128
  pub number_pos : 1 ≤ number
  pub width_eq : width ≡ width_in s page
  pub next_eq : next ≡ p + (3 + width)
  pub next_le : next ≤ stop

pub record CloseAt (stop p kind number next : ℕ) : Type 0 where
  pub kind_ge : 2 ≤ kind
  pub kind_lt : kind < 4
  pub number_pos : 1 ≤ number
  pub next_eq : next ≡ p + 2
  pub next_le : next ≤ stop

abbrev pub Found : Sizes → ℕ → ℕ → Decoded → Type 0
Found s stop p (Change kind page slot number copy width next) = ChangeAt s stop p kind page slot number width next
Found s stop p (Close kind number next) = CloseAt stop p kind number next
Found s stop p Malformed = Unit {0}

-- a first word whose fields are the page's
record InPlace (s : Sizes) (w : ℕ) : Type 0 where
  page_in : page_field w < s.pages
  slot_in : slot_field w < slots_in s (page_field w)
  width_eq : width_field w ≡ width_in s (page_field w)

in_place : (s : Sizes) (w : ℕ) → misplaced s w ≡ false → InPlace s w
unfolding misplaced
in_place s w e =
    let both = or_none _ _ e in
    let left = or_none _ _ both.0 in
    record {
      page_in = leb-false _ _ left.0;
      slot_in = leb-false _ _ left.1;
      width_eq = eqb-true _ _ (not-false _ both.1);
    }

-- what is asked of a change and of a closing record alike
pub record Formed (stop p number size : ℕ) : Type 0 where
  pub fits : p + size ≤ stop
  pub numbered : number ≡ 0 → ⊥

-- What is decoded is a change, a closing record or malformed. A property of it is shown for the three: the first two with all that the
-- tests have asked.
module _ (P : Decoded → Type 0) (s : Sizes) (stop p w number copy : ℕ) where
  pub decoded_all : P Malformed
      → (kind_field w < 2 → Formed stop p number (3 + width_field w) → misplaced s w ≡ false
      → P (Change (kind_field w) (page_field w) (slot_field w) number copy (width_field w) (p + (3 + width_field w))))
      → (2 ≤ kind_field w → kind_field w < 4 → Formed stop p number 2 → w / 8 ≡ 0 → P (Close (kind_field w) number (p + 2)))
      → P (decode_words s stop p w number copy)
  unfolding decode_words
  decoded_all none changed closed = go (record_size (kind_field w) (width_field w)) refl
    where
      go : (z : Option ℕ) → record_size (kind_field w) (width_field w) ≡ z → P (decode_sized s stop p w number copy z)
      go None e = none
      go (Some n) e =
          let is = has_size (kind_field w) (width_field w) n e in
          cond_all P (ltb stop (p + n)) (λ _. none)
          (λ l. cond_all P (eqb number 0) (λ _. none)
          (λ pos.
          let formed : Formed stop p number n = record { fits = ltb-false _ _ l; numbered = eqb-false number 0 pos } in
          cond_all P (ltb (kind_field w) 2)
          (λ k. cond_all P (misplaced s w) (λ _. none)
          (λ m. let long = is.if_change (ltb-true _ _ k) in rw long (changed (ltb-true _ _ k) (rw long at formed) m)))
          (λ k. cond_all P (eqb (w / 8) 0)
          (λ z. let short = is.if_close (ltb-false _ _ k) in rw short (closed (ltb-false _ _ k) is.kind_lt (rw short at formed) (eqb-true _ _ z)))
          (λ _. none))))

found_words : (s : Sizes) (stop p w number copy : ℕ) → Found s stop p (decode_words s stop p w number copy)
found_words s stop p w number copy =
    decoded_all (λ (d : Decoded). Found s stop p d) s stop p w number copy tt
    (λ k f m.
    let i = in_place s w m in
    record {
      kind_lt = k;
      page_in = i.page_in;
      page_lt = omega arith;
      slot_in = i.slot_in;
      slot_lt = omega arith;
      number_pos = omega (arith, f.numbered);
      width_eq = i.width_eq;
      next_eq = refl;
      next_le = f.fits;
    })
    (λ k l f z. record { kind_ge = k; kind_lt = l; number_pos = omega (arith, f.numbered); next_eq = refl; next_le = f.fits })

-- what is found at a position is a record of the sizes, and ends at or before the stop
pub found : (s : Sizes) (read : ℕ → ℕ) (stop p : ℕ) → Found s stop p (decode_at s read stop p)
unfolding decode_at
found s read stop p = found_words s stop p (read p) (read (p + 1)) (read (p + 2))

module _ (s : Sizes) (read : ℕ → ℕ) (stop : ℕ) where
  pub found_change : {p kind page slot number copy width next : ℕ}
      → decode_at s read stop p ≡ Change kind page slot number copy width next
      → ChangeAt s stop p kind page slot number width next
  found_change {p} e = subst (λ (d : Decoded). Found s stop p d) e (found s read stop p)

  pub found_close : {p kind number next : ℕ} → decode_at s read stop p ≡ Close kind number next
      → CloseAt stop p kind number next
  found_close {p} e = subst (λ (d : Decoded). Found s stop p d) e (found s read stop p)

-- a word from the stop on says nothing: the number counts only where word 1 lies before it, the copy number where word 2 does
words_cong : (s : Sizes) (stop p w m n e f : ℕ) → (p + 2 ≤ stop → m ≡ n) → (p + 3 ≤ stop → e ≡ f)
    → decode_words s stop p w m e ≡ decode_words s stop p w n f
unfolding decode_words
words_cong s stop p w m n e f number copy = go (record_size (kind_field w) (width_field w)) refl
  where
    go : (z : Option ℕ) → record_size (kind_field w) (width_field w) ≡ z → decode_sized s stop p w m e z ≡ decode_sized s stop p w n f z
    go None is = refl
    go (Some size) is =
        let known = has_size (kind_field w) (width_field w) size is in
        cond_cong (ltb stop (p + size)) (λ _. refl)
        (λ l.
        let fits : p + size ≤ stop = ltb-false _ _ l in
        let same : m ≡ n = number (omega (arith, known.least)) in
        rw same (cond_cong (eqb n 0) (λ _. refl)
        (λ _. cond_cong (ltb (kind_field w) 2)
        (λ k. let three = known.if_change (ltb-true _ _ k) in rw (copy (omega arith)))
        (λ _. refl))))

pub decode_cong : (s : Sizes) (read other : ℕ → ℕ) (stop p : ℕ) → p < stop
    → ((q : ℕ) → p ≤ q → q < stop → read q ≡ other q) → decode_at s read stop p ≡ decode_at s other stop p
unfolding decode_at
decode_cong s read other stop p h same =
    rw (same p (omega arith) h)
    (words_cong s stop p (other p) (read (p + 1)) (other (p + 1)) (read (p + 2)) (other (p + 2))
    (λ l. same (p + 1) (omega arith) (omega arith)) (λ l. same (p + 2) (omega arith) (omega arith)))
