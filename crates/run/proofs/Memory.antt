-- The memory of fates: a number found in it, one taken out.
use mathlib.Core.Path.{◌≡◌, sym, ap, ◌∙◌}
use mathlib.Core.List.{List}
use mathlib.Core.Bool.{Bool, false}
use Prim.Native.Nat.{ℕ, ◌-◌, ◌≤◌, ◌<◌}
use native.Mathlib.Omega.{arith}
use native.Mathlib.Decide.{ℕ_discrete}
use lib.Dec.{eqb}
use lib.ListN.{length, get_or, set}
use lib.Seq.{get_or-set_same, get_or-set_other}
use borrow.Author.Tests.{eqb-true, eqb-false}
use Rattle.model.specs.declared.Fate.{Fate}
use Rattle.model.specs.Below.{first_below}
use Rattle.model.proofs.Below.{first_passes, first_before}
use Rattle.run.specs.Run.{fate_of, Remembers}

module _ (numbers : List ℕ) (used number : ℕ) {i : ℕ} (is : i ≡ first_below (λ j. eqb (get_or numbers j 0) number) used) where
  pub found_here : i < used → get_or numbers i 0 ≡ number
  found_here h =
      let low : first_below (λ j. eqb (get_or numbers j 0) number) used < used = omega (arith, is) in
      ap (λ (j : ℕ). get_or numbers j 0) is ∙ eqb-true _ _ (first_passes (λ j. eqb (get_or numbers j 0) number) used low)

  pub found_nowhere : used ≤ i → (j : ℕ) → j < used → get_or numbers j 0 ≡ number → ⊥
  found_nowhere h j l = eqb-false _ _ (first_before (λ k. eqb (get_or numbers k 0) number) used j (omega (arith, is)))

module _ (numbers : List ℕ) (closed : List Bool) (used number : ℕ) {i : ℕ} (is : i ≡ first_below (λ j. eqb (get_or numbers j 0) number) used) where
  pub known : {fate : ℕ → Fate} → Remembers fate numbers closed used → i < used → fate number ≡ fate_of (get_or closed i false)
  known {fate} m h = ap fate (sym (found_here numbers used number is h)) ∙ m.right i h

  module _ {fate later : ℕ → Fate} (same : (n : ℕ) → (n ≡ number → ⊥) → later n ≡ fate n) (m : Remembers fate numbers closed used) where
    -- not remembered: nothing is taken out
    pub forgot_none : used ≤ i → Remembers later numbers closed used
    forgot_none h = record { right = λ j l. same _ (found_nowhere numbers used number is h j l) ∙ m.right j l; once = m.once }

    -- the last takes its place
    pub forgot : i < used → used ≤ length numbers → used ≤ length closed
        → Remembers later (set numbers i (get_or numbers (used - 1) 0)) (set closed i (get_or closed (used - 1) false)) (used - 1)
    forgot h long wide = record { right = λ j l. right j l (ℕ_discrete j i); once = λ j k l n e. once j k l n e (ℕ_discrete j i) (ℕ_discrete k i) }
      where
        others : (j : ℕ) → j < used → (j ≡ i → ⊥) → later (get_or numbers j 0) ≡ fate_of (get_or closed j false)
        others j l ne = same _ (λ e. ne (m.once j i l h (e ∙ sym (found_here numbers used number is h)))) ∙ m.right j l

        right : (j : ℕ) → j < used - 1 → Dec (j ≡ i)
            → later (get_or (set numbers i (get_or numbers (used - 1) 0)) j 0) ≡ fate_of (get_or (set closed i (get_or closed (used - 1) false)) j false)
        right j l (yes e) =
            rw (e, get_or-set_same numbers i (get_or numbers (used - 1) 0) 0 (omega arith), get_or-set_same closed i (get_or closed (used - 1) false) false (omega arith))
            (others (used - 1) (omega arith) (λ z. omega arith))
        right j l (no ne) =
            rw (get_or-set_other numbers i j (get_or numbers (used - 1) 0) 0 ne, get_or-set_other closed i j (get_or closed (used - 1) false) false ne)
            (others j (omega arith) ne)

        once : (j k : ℕ) → j < used - 1 → k < used - 1
            → get_or (set numbers i (get_or numbers (used - 1) 0)) j 0 ≡ get_or (set numbers i (get_or numbers (used - 1) 0)) k 0
            → Dec (j ≡ i) → Dec (k ≡ i) → j ≡ k
        once j k l n e (yes a) (yes b) = a ∙ sym b
        once j k l n e (yes a) (no b) =
            let last : used - 1 ≡ k =
            m.once (used - 1) k (omega arith) (omega arith)
            (rw (a, get_or-set_same numbers i (get_or numbers (used - 1) 0) 0 (omega arith), get_or-set_other numbers i k (get_or numbers (used - 1) 0) 0 b) at e) in
            absurd (omega arith)
        once j k l n e (no a) (yes b) =
            let last : j ≡ used - 1 =
            m.once j (used - 1) (omega arith) (omega arith)
            (rw (b, get_or-set_same numbers i (get_or numbers (used - 1) 0) 0 (omega arith), get_or-set_other numbers i j (get_or numbers (used - 1) 0) 0 a) at e) in
            absurd (omega arith)
        once j k l n e (no a) (no b) =
            m.once j k (omega arith) (omega arith)
            (rw (get_or-set_other numbers i j (get_or numbers (used - 1) 0) 0 a, get_or-set_other numbers i k (get_or numbers (used - 1) 0) 0 b) at e)

-- nothing is remembered at first
pub remembers_begun : {numbers : List ℕ} {closed : List Bool} {used : ℕ} → used ≡ 0 → (fate : ℕ → Fate) → Remembers fate numbers closed used
remembers_begun none fate = record { right = λ j l. absurd (omega (arith, none, l)); once = λ j k l n e. absurd (omega (arith, none, l)) }

-- the same fates, read from a later position
pub remembers_later : {fate later : ℕ → Fate} {numbers : List ℕ} {closed : List Bool} {used : ℕ} → ((n : ℕ) → later n ≡ fate n)
    → Remembers fate numbers closed used → Remembers later numbers closed used
remembers_later same m = record { right = λ j l. same _ ∙ m.right j l; once = m.once }

-- the first of them
pub remembers_fewer : {fate : ℕ → Fate} {numbers : List ℕ} {closed : List Bool} {used few : ℕ} → few ≤ used
    → Remembers fate numbers closed used → Remembers fate numbers closed few
remembers_fewer h m = record { right = λ j l. m.right j (omega (arith, h, l)); once = λ j k l n e. m.once j k (omega (arith, h, l)) (omega (arith, h, n)) e }
