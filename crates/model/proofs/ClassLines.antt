-- What the rows of a table of classes come to: where none of 5, 17, 18 and 19 applies, each class has one line that covers it, the kept table
-- finds that line, and its set has a disk, and none but the store's.
use mathlib.Core.Path.{◌≡◌, refl, sym, ◌∙◌}
use mathlib.Core.List.{List}
use mathlib.Core.Bool.{Bool, true, false, not, cond, true≢false, ◌||◌}
use Prim.Native.Nat.{ℕ, zero, suc, ◌*◌, ◌/◌, ◌%◌, ◌^◌, ◌≤◌, ◌<◌}
use native.Mathlib.Omega.{arith}
use native.Mathlib.Nat.{pow-le-pow_right, div-eq_of_lt}
use lib.Dec.{leb, ltb, eqb}
use lib.ListN.{length}
use borrow.Author.Tests.{ltb-true, ltb-false, leb-false, eqb-true, eqb-false, ne_eqb, not-false}
use Rattle.model.specs.declared.Core.{Core}
use Rattle.model.specs.Below.{within, sum_below, all_below, first_below}
use Rattle.model.specs.Classes.{max_lines, class_count, in_set, low_at, high_at, set_at, line_count, not_a_table, line_wrong, wrong_line, times_covered, uncovered_class, twice_covered, classes_of, line_for, set_for}
use Rattle.model.specs.World.{World}
use Rattle.model.specs.Refusal.{verdict, accepted}
use Rattle.model.specs.SetClasses.{work_wrong, set_classes_rows}
use Rattle.model.specs.ClassPromise.{ClassLine, TableServes, EveryDisk}
use Rattle.model.proofs.Booleans.{or_none}
use Rattle.model.proofs.Below.{first_passes, first_before, first_fails, first_unique, first_cong, all_each, sum_term, get_or_list}
use Rattle.model.proofs.Verdict.{row_passed}

-- How many numbers below n pass: none where all fail, two or more where two pass.
module _ (f : ℕ → Bool) where
  abbrev count : ℕ → ℕ
  count n = sum_below (λ i. cond (f i) 1 0) n

  counts_one : (n i : ℕ) → i < n → f i ≡ true → count i < count n
  counts_one n i h e =
      let more = sum_term (λ i. cond (f i) 1 0) n i h in
      let one : ◌≡◌ {A = ℕ} (cond (f i) 1 0) 1 = rw e in
      omega arith

  counts_two : (n i j : ℕ) → i < j → j < n → f i ≡ true → f j ≡ true → 1 < count n
  counts_two n i j h l e d = omega (arith, counts_one j i h e, counts_one n j l d)

  counts_none : (n : ℕ) → ((i : ℕ) → i < n → f i ≡ false) → count n ≡ 0
  unfolding sum_below
  counts_none zero h = refl
  counts_none (suc n) h = rw (counts_none n (λ i l. h i (omega arith)), h n (omega arith)) refl

-- 5: from 1 to 16 lines
lines_few : (lines : List ℕ) → not_a_table lines ≡ false → (0 < line_count lines) × (line_count lines ≤ max_lines)
unfolding not_a_table line_count
lines_few lines e =
    let a = or_none (not (eqb (length lines % 3) 0) || eqb (length lines) 0) (ltb (3 * max_lines) (length lines)) e in
    let b = or_none (not (eqb (length lines % 3) 0)) (eqb (length lines) 0) a.0 in
    let whole = eqb-true (length lines % 3) 0 (not-false _ b.0) in
    let some = eqb-false (length lines) 0 b.1 in
    let few = ltb-false (3 * max_lines) (length lines) a.1 in
    (omega arith, omega arith)

-- 17: a line that is right
line_right : (disks low high set : ℕ) → line_wrong disks low high set ≡ false → (set ≡ 0 → ⊥) × (set < 2 ^ disks)
unfolding line_wrong
line_right disks low high set e =
    let a = or_none (ltb high low || ltb 255 high || eqb set 0) (leb (2 ^ disks) set) e in
    let b = or_none (ltb high low || ltb 255 high) (eqb set 0) a.0 in
    (eqb-false set 0 b.1, leb-false (2 ^ disks) set a.1)

-- a set below 2 ^ D has no disk but those below D
known_disks : (disks set disk : ℕ) → set < 2 ^ disks → in_set set disk ≡ true → disk < disks
unfolding in_set
known_disks disks set disk below e = go (ltb disk disks) refl
  where
    go : (b : Bool) → ltb disk disks ≡ b → disk < disks
    go true h = ltb-true disk disks h
    go false h =
        let more : 2 ^ disks ≤ 2 ^ disk = pow-le-pow_right (omega arith) (ltb-false disk disks h) in
        let none : set / 2 ^ disk ≡ 0 = div-eq_of_lt (omega arith) in
        let one = eqb-true (set / 2 ^ disk % 2) 1 e in
        absurd (omega arith)

-- What the rows say of a table that is accepted.
record Passed (disks : ℕ) (lines : List ℕ) : Type 0 where
  some : 0 < line_count lines
  few : line_count lines ≤ max_lines
  right : (i : ℕ) → i < line_count lines → line_wrong disks (low_at lines i) (high_at lines i) (set_at lines i) ≡ false
  covered : (class : ℕ) → class < class_count → eqb (times_covered lines class) 0 ≡ false
  once : (class : ℕ) → class < class_count → ltb 1 (times_covered lines class) ≡ false

rows_passed : (c : Core) (w : World) (lines : List ℕ) → verdict (set_classes_rows c w lines) ≡ accepted → Passed c.sizes.disks lines
unfolding set_classes_rows wrong_line uncovered_class twice_covered
rows_passed c w lines v =
    let one = row_passed _ _ v in
    let five = row_passed _ _ one.1 in
    let seventeen = row_passed _ _ five.1 in
    let eighteen = row_passed _ _ seventeen.1 in
    let nineteen = row_passed _ _ eighteen.1 in
    let counts = lines_few lines (or_none (work_wrong c w) (not_a_table lines) five.0).1 in
    record {
      some = counts.0;
      few = counts.1;
      right = λ i l. first_fails _ (line_count lines) seventeen.0 i l;
      covered = λ class l. first_fails _ class_count eighteen.0 class l;
      once = λ class l. first_fails _ class_count nineteen.0 class l;
    }

module _ (disks : ℕ) (lines : List ℕ) (p : Passed disks lines) (class : ℕ) (inside : class < class_count) where
  abbrev covers : ℕ → Bool
  covers i = within (low_at lines i) (high_at lines i) class

  abbrev line : ℕ
  line = first_below covers (line_count lines)

  -- a line covers the class
  line_below : line < line_count lines
  unfolding times_covered
  line_below = go (ltb line (line_count lines)) refl
    where
      go : (b : Bool) → ltb line (line_count lines) ≡ b → line < line_count lines
      go true h = ltb-true _ _ h
      go false h =
          let none = counts_none covers (line_count lines) (first_fails covers (line_count lines) h) in
          absurd (eqb-false (times_covered lines class) 0 (p.covered class inside) none)

  line_covers : covers line ≡ true
  line_covers = first_passes covers (line_count lines) line_below

  -- and no other does
  line_only : (other : ℕ) → other < line_count lines → covers other ≡ true → other ≡ line
  unfolding times_covered
  line_only other l e =
      omega (arith, before, behind)
    where
      before : other < line → ⊥
      before h = true≢false (sym e ∙ first_before covers (line_count lines) other h)

      behind : line < other → ⊥
      behind h =
          let two = counts_two covers (line_count lines) line other h l line_covers e in
          let once = ltb-false 1 (times_covered lines class) (p.once class inside) in
          absurd (omega arith)

  -- the kept table finds it
  kept_line : line_for (classes_of lines) class ≡ line
  unfolding line_for classes_of
  kept_line =
      first_cong _ covers max_lines (λ i l. rw (get_or_list (low_at lines) max_lines i 0 l, get_or_list (high_at lines) max_lines i 0 l) refl)
      ∙ first_unique covers max_lines line (omega (arith, line_below, p.few)) line_covers (first_before covers (line_count lines))

  line_serves : set_for (classes_of lines) class ≡ set_at lines line
  unfolding set_for classes_of
  line_serves =
      let first = (line_right disks _ _ (set_at lines 0) (p.right 0 p.some)).0 in
      rw (get_or_list (set_at lines) max_lines 0 0 (omega arith), ne_eqb (set_at lines 0) 0 first, kept_line)
      (get_or_list (set_at lines) max_lines line 0 (omega (arith, line_below, p.few)))

  class_line : ClassLine disks lines class
  class_line =
      let right = line_right disks _ _ (set_at lines line) (p.right line line_below) in
      record {
        line = line;
        below = line_below;
        covers = line_covers;
        only = line_only;
        serves = line_serves;
        some = right.0;
        known = λ disk. known_disks disks (set_at lines line) disk right.1;
      }

-- See specs/ClassPromise.antt.
pub table_serves : TableServes
unfolding TableServes
table_serves c w lines v = class_line c.sizes.disks lines (rows_passed c w lines v)

pub every_disk : EveryDisk
unfolding EveryDisk set_for in_set all_below
every_disk class disk h = all_each (λ disk. in_set 255 disk) 8 refl disk h
