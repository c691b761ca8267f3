-- A table that passes the checks: what its words are, and its columns.
use mathlib.Core.Path.{◌≡◌, refl, ap}
use mathlib.Core.Bool.{Bool, true, false, cond, not, ◌||◌}
use mathlib.Core.List.{List}
use Prim.Native.Nat.{ℕ, zero, suc, ◌+◌, ◌*◌, ◌/◌, ◌%◌, ◌^◌, ◌≤◌, ◌<◌}
use native.Mathlib.Omega.{arith}
use lib.Pow.{pow_mono}
use lib.Dec.{leb, ltb, eqb}
use lib.ListN.{length, get_or, get_or-eq_default}
use borrow.Author.Tests.{ltb-true, ltb-false, leb-false, eqb-true, eqb-false, not-false}
use Rattle.model.specs.Below.{within, sum_below, list_below}
use Rattle.model.specs.Classes.{max_lines, low_at, high_at, set_at, line_count, not_a_table, line_wrong, wrong_line, classes_of}
use Rattle.model.proofs.Below.{first_before, sum_step, list_cong}
use Rattle.model.proofs.Booleans.{or_none}

-- one line more is counted where it covers the class
pub covered_more : (lines : List ℕ) (class i times : ℕ) {more : Bool}
    → times ≡ sum_below (λ j. cond (within (low_at lines j) (high_at lines j) class) 1 0) i → more ≡ within (low_at lines i) (high_at lines i) class
    → times + cond more 1 0 ≡ sum_below (λ j. cond (within (low_at lines j) (high_at lines j) class) 1 0) (i + 1)
covered_more lines class i times e m = rw (e, m, sum_step (λ j. cond (within (low_at lines j) (high_at lines j) class) 1 0) i) refl

-- the three columns of a table, as they are read
pub classes_made : (lines : List ℕ) {lows highs sets : List ℕ}
    → lows ≡ list_below (λ i. get_or lines (3 * i + 0) 0) max_lines
    → highs ≡ list_below (λ i. get_or lines (3 * i + 1) 0) max_lines
    → sets ≡ list_below (λ i. get_or lines (3 * i + 2) 0) max_lines
    → record { lows = lows; highs = highs; sets = sets } ≡ classes_of lines
unfolding classes_of low_at high_at set_at
classes_made lines l h s =
    let same : list_below (λ i. get_or lines (3 * i + 0) 0) max_lines ≡ list_below (λ i. get_or lines (3 * i) 0) max_lines =
    list_cong _ _ max_lines (λ i _. ap (λ (k : ℕ). get_or lines k 0) (omega arith)) in
    rw (l, same, h, s) refl

-- "no lines or more than 16"
pub record IsTable (lines : List ℕ) : Type 0 where
  pub whole : length lines % 3 ≡ 0
  pub some : 0 < length lines
  pub few : length lines ≤ 48

pub is_table : (lines : List ℕ) → not_a_table lines ≡ false → IsTable lines
unfolding not_a_table
is_table lines e =
    let a = or_none (not (eqb (length lines % 3) 0) || eqb (length lines) 0) (ltb 48 (length lines)) e in
    let b = or_none (not (eqb (length lines % 3) 0)) (eqb (length lines) 0) a.0 in
    record {
      whole = eqb-true (length lines % 3) 0 (not-false (eqb (length lines % 3) 0) b.0);
      some = omega (arith, eqb-false (length lines) 0 b.1);
      few = ltb-false 48 (length lines) a.1;
    }

-- A line that is right.
pub record IsLine (disks low high set : ℕ) : Type 0 where
  pub order : low ≤ high
  pub top : high ≤ 255
  pub some : 0 < set
  pub below : set < 2 ^ disks

pub is_line : (disks low high set : ℕ) → line_wrong disks low high set ≡ false → IsLine disks low high set
unfolding line_wrong
is_line disks low high set e =
    let a = or_none (ltb high low || ltb 255 high || eqb set 0) (leb (2 ^ disks) set) e in
    let b = or_none (ltb high low || ltb 255 high) (eqb set 0) a.0 in
    let d = or_none (ltb high low) (ltb 255 high) b.0 in
    record {
      order = ltb-false high low d.0;
      top = ltb-false 255 high d.1;
      some = omega (arith, eqb-false set 0 b.1);
      below = leb-false (2 ^ disks) set a.1;
    }

-- Where no line is wrong.
module _ (disks : ℕ) (lines : List ℕ) (right : line_count lines ≤ wrong_line disks lines) where
  pub right_line : (i : ℕ) → i < line_count lines → IsLine disks (low_at lines i) (high_at lines i) (set_at lines i)
  unfolding wrong_line
  right_line i h =
      is_line disks (low_at lines i) (high_at lines i) (set_at lines i)
      (first_before (λ (j : ℕ). line_wrong disks (low_at lines j) (high_at lines j) (set_at lines j)) (line_count lines) i (omega arith))

  -- every word of such a table is a byte
  pub table_bytes : disks ≤ 8 → not_a_table lines ≡ false → (i : ℕ) → get_or lines i 0 < 256
  unfolding line_count low_at high_at set_at
  table_bytes few e i = go (ltb i (length lines)) refl
    where
      line : i < length lines → IsLine disks (low_at lines (i / 3)) (high_at lines (i / 3)) (set_at lines (i / 3))
      line h = right_line (i / 3) (omega (arith, (is_table lines e).whole))

      by_word : i < length lines → (n : ℕ) → i % 3 ≡ n → get_or lines i 0 < 256
      by_word h zero w =
          let e : i ≡ 3 * (i / 3) = omega arith in
          omega (arith, ap (λ (k : ℕ). get_or lines k 0) e, (line h).order, (line h).top)
      by_word h (suc zero) w =
          let e : i ≡ 3 * (i / 3) + 1 = omega arith in
          omega (arith, ap (λ (k : ℕ). get_or lines k 0) e, (line h).top)
      by_word h (suc (suc zero)) w =
          let e : i ≡ 3 * (i / 3) + 2 = omega arith in
          let few_sets : 2 ^ disks ≤ 2 ^ 8 = pow_mono few in
          omega (arith, ap (λ (k : ℕ). get_or lines k 0) e, (line h).below, few_sets)
      by_word h (suc (suc (suc n))) w = absurd (omega arith)

      go : (b : Bool) → ltb i (length lines) ≡ b → get_or lines i 0 < 256
      go true h = by_word (ltb-true i (length lines) h) (i % 3) refl
      go false h = rw (get_or-eq_default lines 0 {n = i} (ltb-false i (length lines) h)) (omega arith)
