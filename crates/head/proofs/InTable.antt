-- The search for a place of the table among the words of the head; and what words put there make of the state.
use Rattle.std.specs.Prelude.{Option, None, Some, IfSome, MatchOption, is_some}
use mathlib.Core.Path.{◌≡◌, refl, sym, ◌∙◌}
use mathlib.Core.List.{List}
use mathlib.Core.Bool.{true}
use Prim.Native.Nat.{ℕ, ◌+◌, ◌<◌}
use native.Mathlib.Omega.{arith}
use lib.Dec.{eqb, ltb}
use lib.ListN.{get_or}
use borrow.Author.Tests.{eq-eqb, ne_eqb, lt-ltb, le-ltb}
use Rattle.model.specs.declared.Core.{Core}
use Rattle.model.specs.declared.Carried.{Carried}
use Rattle.model.specs.State.{number_at, place_of, with_place, with_reserved, with_fill, serving_with}
use Rattle.model.specs.View.{head_numbers, own_work, core_of, head_lists}
use Rattle.model.specs.Fields.{numbers, entering, leaving, filling}
use Rattle.model.proofs.Below.{first_unique, first_none}
use Rattle.model.proofs.View.Laid.{set_in}
use Rattle.model.proofs.View.Fields.{field_read, put_lists}

-- no place below i holds the number
abbrev pub Absent : (work : List ℕ) → ℕ → ℕ → Type 0
Absent work n i = (k : ℕ) → k < i → get_or work (head_numbers + k) 0 ≡ n → ⊥

module _ (h : Carried) (work : List ℕ) (own : own_work h work ≡ true) (n : ℕ) where
  there : (k : ℕ) → k < 16 → get_or (core_of h work).table.numbers k 0 ≡ get_or work (head_numbers + k) 0
  there k low = field_read h work own numbers k low

  pub place_found : (i : ℕ) → i < 16 → get_or work (head_numbers + i) 0 ≡ n → Absent work n i → i ≡ place_of (core_of h work).table n
  unfolding place_of number_at
  place_found i low e before =
      sym
      (first_unique (λ k. eqb (get_or (core_of h work).table.numbers k 0) n) 16 i low (eq-eqb _ _ (there i low ∙ e))
      (λ k l. ne_eqb _ _ (λ q. before k l (sym (there k (omega arith)) ∙ q))))

  pub place_none : Absent work n 16 → 16 ≡ place_of (core_of h work).table n
  unfolding place_of number_at
  place_none none =
      sym
      (first_none (λ k. eqb (get_or (core_of h work).table.numbers k 0) n) 16
      (λ k l. ne_eqb _ _ (λ q. none k l (sym (there k l) ∙ q))))

-- a place that is found is one of the 16
pub found_low : (found : Option ℕ) (place : ℕ) → IfSome found (λ p. p < 16) → MatchOption found (place ≡ 16) (λ p. p ≡ place)
    → is_some found ≡ ltb place 16
found_low None place low same = sym (le-ltb place 16 (omega (arith, same)))
found_low (Some p) place low same = sym (lt-ltb place 16 (omega (arith, low, same)))

-- The lists of a state with a place filled, with a place freed, with another fill: for `head_put` of model's proofs/View/Fields.antt.
module _ (c : Core) (next : ℕ) where
  pub entered_lists : (place number disk first words sum : ℕ)
      → head_lists (serving_with c c.logs (with_reserved (with_place c.table place number disk first words) disk sum) next)
      ≡ put_lists (entering place number disk first words sum) (head_lists c)
  unfolding put_lists set_in with_reserved with_place
  entered_lists place number disk first words sum = refl

  pub left_lists : (place disk sum : ℕ)
      → head_lists (serving_with c c.logs (with_reserved (with_place c.table place 0 0 0 0) disk sum) next)
      ≡ put_lists (leaving place disk sum) (head_lists c)
  unfolding put_lists set_in with_reserved with_place
  left_lists place disk sum = refl

  pub filled_lists : (disk fill : ℕ)
      → head_lists (serving_with c (with_fill c.logs disk fill) c.table next) ≡ put_lists (filling disk fill) (head_lists c)
  unfolding put_lists set_in with_fill
  filled_lists disk fill = refl
