-- Entries out of bounds, counted: none are exactly where all are in bounds.
use mathlib.Core.Path.{◌≡◌, refl, sym}
use mathlib.Core.Bool.{Bool, true, false, and-false, and-eq-true_iff, cond, ◌&&◌}
use Prim.Native.Nat.{ℕ, ◌+◌, ◌*◌, ◌≤◌, ◌<◌}
use native.Mathlib.Omega.{arith}
use native.Mathlib.Numerals.{add-one}
use lib.Dec.{leb, eqb}
use borrow.Author.Tests.{leb-true, le-leb, eqb-true, eqb-false, eq-eqb, ne_eqb}
use Rattle.model.specs.Below.{within, all_below}
use Rattle.layout.proofs.Laws.{product_max}

pub count_more : (f : ℕ → Bool) (i faults fault : ℕ) → fault ≡ cond (f i) 0 1 → eqb faults 0 ≡ all_below f i
    → eqb (faults + fault) 0 ≡ all_below f (i + 1)
unfolding all_below
count_more f i faults fault e none = rw (add-one, e) (go (f i) (all_below f i) none)
  where
    go : (b all : Bool) → eqb faults 0 ≡ all → eqb (faults + cond b 0 1) 0 ≡ (all && b)
    go true true h = eq-eqb (faults + 0) 0 (omega (arith, eqb-true faults 0 h))
    go true false h = ne_eqb (faults + 0) 0 (λ z. eqb-false faults 0 h (omega (arith, z)))
    go false true h = ne_eqb (faults + 1) 0 (λ z. omega (arith, z))
    go false false h = ne_eqb (faults + 1) 0 (λ z. omega (arith, z))

-- The test of a used entry, and what it comes to for a product.
abbrev used_test : ℕ → ℕ → Bool
used_test slots width = within 1 128 slots && within 1 32 width && leb (slots * width) 128

at_least_one : (n : ℕ) → (n ≡ 0 → ⊥) → 1 ≤ n
at_least_one n some = omega (arith, some)

refuted : (b : Bool) → (b ≡ true → ⊥) → b ≡ false
refuted true h = absurd (h refl)
refuted false h = refl

module _ (a b : ℕ) where
  used_parts : used_test a b ≡ true → (1 ≤ a) × (1 ≤ b) × (b ≤ 32) × (a * b ≤ 128)
  unfolding within
  used_parts e =
      let halves = (and-eq-true_iff (within 1 128 a && within 1 32 b) (leb (a * b) 128)).0 e in
      let ranges = (and-eq-true_iff (within 1 128 a) (within 1 32 b)).0 halves.0 in
      let first = (and-eq-true_iff (leb 1 a) (leb a 128)).0 ranges.0 in
      let second = (and-eq-true_iff (leb 1 b) (leb b 32)).0 ranges.1 in
      (leb-true 1 a first.0, leb-true 1 b second.0, leb-true b 32 second.1, leb-true (a * b) 128 halves.1)

  pub no_words : a * b ≡ 0 → used_test a b ≡ false
  no_words e =
      refuted (used_test a b)
      (λ u. omega (arith, e, product_max 1 1 a b (used_parts u).0 (used_parts u).1))

  pub too_many : 128 < a * b → used_test a b ≡ false
  too_many h = refuted (used_test a b) (λ u. omega (arith, h, (used_parts u).3))

  pub too_wide : 32 < b → used_test a b ≡ false
  too_wide h = refuted (used_test a b) (λ u. omega (arith, h, (used_parts u).2))

  pub all_right : (a * b ≡ 0 → ⊥) → a * b ≤ 128 → b ≤ 32 → used_test a b ≡ true
  unfolding within
  all_right some few narrow =
      let wide : 1 ≤ b = at_least_one b (λ z. some (rw z (omega arith))) in
      let there : 1 ≤ a = at_least_one a (λ z. some (rw z (omega arith))) in
      let most = product_max a 1 a b (omega arith) wide in
      rw (le-leb 1 a there, le-leb a 128 (omega (arith, most, few)), le-leb 1 b wide, le-leb b 32 narrow) (le-leb (a * b) 128 few)

  -- what does not fit a byte is out of bounds, used or not
  pub slots_large : (used : Bool) → 255 < a → false ≡ cond used (used_test a b) (eqb a 0 && eqb b 0)
  slots_large true h =
      sym (refuted (used_test a b) (λ u. omega (arith, h, product_max a 1 a b (omega arith) (used_parts u).1, (used_parts u).3)))
  slots_large false h = rw (ne_eqb a 0 (λ z. omega (arith, h, z)))

  pub width_large : (used : Bool) → 255 < b → false ≡ cond used (used_test a b) (eqb a 0 && eqb b 0)
  width_large true h = sym (too_wide (omega (arith, h)))
  width_large false h = rw (ne_eqb b 0 (λ z. omega (arith, h, z))) (sym (and-false (eqb a 0)))

pub no_fault : (b : Bool) (fault : ℕ) → fault ≡ cond b 0 1 → eqb fault 0 ≡ b
no_fault true fault e = eq-eqb fault 0 e
no_fault false fault e = ne_eqb fault 0 (λ z. omega (arith, e, z))
