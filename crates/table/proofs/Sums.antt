-- The sums of reserved words, one for each disk: what one place adds to them.
use mathlib.Core.Path.{◌≡◌, refl, sym, ◌∙◌}
use mathlib.Core.Bool.{Bool, true, false, cond, not, ◌&&◌, and-false}
use mathlib.Core.List.{List}
use Prim.Native.Nat.{ℕ, ◌+◌, ◌≤◌, ◌<◌, min}
use native.Mathlib.Omega.{arith}
use lib.Dec.{eqb}
use lib.ListN.{length, get_or, set}
use lib.Seq.{get_or-set_same, get_or-set_other}
use borrow.Author.Tests.{eq-eqb, ne_eqb, eqb-true, eqb-false}
use Rattle.model.specs.declared.Table.{Table}
use Rattle.model.specs.State.{reserved_for}
use Rattle.table.specs.Parts.{cap, table_of}

-- the sums of a table
abbrev pub SumsOf : List ℕ → Table → Type 0
SumsOf sums t =
    (d : ℕ) → d < 8 → get_or sums d 0 ≡ min cap (reserved_for (table_of t.numbers t.disks t.reserved) d)

module _ (sums : List ℕ) (number disk words d : ℕ) where
  -- a free place adds nothing
  pub free_adds : number ≡ 0 → get_or sums d 0 ≤ cap
      → get_or sums d 0 ≡ min cap (get_or sums d 0 + cond (not (eqb number 0) && eqb disk d) words 0)
  free_adds e h = rw (eq-eqb number 0 e) (omega (arith, h))

  -- nor does one on no disk of these
  pub away_adds : d < disk → get_or sums d 0 ≤ cap
      → get_or sums d 0 ≡ min cap (get_or sums d 0 + cond (not (eqb number 0) && eqb disk d) words 0)
  away_adds l h =
      rw (ne_eqb disk d (λ e. omega (arith, l, e)), and-false (not (eqb number 0))) (omega (arith, h))

  pub place_adds : (v : ℕ) → (number ≡ 0 → ⊥) → disk < length sums → get_or sums d 0 ≤ cap → v ≡ min cap (get_or sums disk 0 + words)
      → get_or (set sums disk v) d 0 ≡ min cap (get_or sums d 0 + cond (not (eqb number 0) && eqb disk d) words 0)
  place_adds v taken l h e = rw (ne_eqb number 0 taken) (go (eqb disk d) refl)
    where
      go : (b : Bool) → eqb disk d ≡ b → get_or (set sums disk v) d 0 ≡ min cap (get_or sums d 0 + cond b words 0)
      go true q = let same : d ≡ disk = sym (eqb-true disk d q) in rw (same) (get_or-set_same sums disk v 0 l ∙ e)
      go false q = get_or-set_other sums disk d v 0 (λ z. eqb-false disk d q (sym z)) ∙ omega (arith, h)
