-- The words of the anchor: what a format stores there, and which of them say the sizes.
use mathlib.Core.Path.{◌≡◌, ◌∙◌}
use mathlib.Core.List.{List}
use Prim.Native.Nat.{ℕ, ◌+◌, ◌<◌}
use native.Mathlib.Omega.{arith}
use lib.ListN.{length, get_or, set, length-set}
use lib.Seq.{sets, length-sets, get_or-set_same, get_or-set_other}
use Rattle.model.specs.Word.{part}
use Rattle.model.specs.Anchor.{epoch_word, slots_at, widths_at, rows_at, epoch_on, sizes_on}
use Rattle.model.proofs.Parts.{part_cong, get_or_sets_before, get_or_sets_inside}
use Rattle.model.proofs.Store.Puts.{first_word}

-- The anchor as a format stores it: c := 0, the three numbers, both arrays, both rows, c := 1.
unfoldable pub laid_anchor : List ℕ → List ℕ → List ℕ → List ℕ → List ℕ → List ℕ
laid_anchor a front slots widths rows =
    set (sets (sets (sets (sets (set a epoch_word 0) 0 front) slots_at slots) widths_at widths) rows_at rows) epoch_word 1

-- What each of its words is.
pub record Laid (a f l m z : List ℕ) : Type 0 where
  pub long : length a ≡ 148
  pub epoch : epoch_on a ≡ 1
  pub front : (i : ℕ) → i < 3 → get_or a i 0 ≡ get_or f i 0
  pub slots : (i : ℕ) → i < 64 → get_or a (4 + i) 0 ≡ get_or l i 0
  pub widths : (i : ℕ) → i < 64 → get_or a (68 + i) 0 ≡ get_or m i 0
  pub rows : (i : ℕ) → i < 16 → get_or a (132 + i) 0 ≡ get_or z i 0

module _ (a front slots widths rows : List ℕ) (long : length a ≡ 148) (three : length front ≡ 3) (most : length slots ≡ 64)
    (more : length widths ≡ 64) (last : length rows ≡ 16) where
  abbrev a1 : List ℕ
  a1 = set a 3 0

  abbrev a2 : List ℕ
  a2 = sets a1 0 front

  abbrev a3 : List ℕ
  a3 = sets a2 4 slots

  abbrev a4 : List ℕ
  a4 = sets a3 68 widths

  abbrev a5 : List ℕ
  a5 = sets a4 132 rows

  l1 : length a1 ≡ 148
  l1 = length-set a 3 0 ∙ long

  l2 : length a2 ≡ 148
  l2 = length-sets a1 0 front ∙ l1

  l3 : length a3 ≡ 148
  l3 = length-sets a2 4 slots ∙ l2

  l4 : length a4 ≡ 148
  l4 = length-sets a3 68 widths ∙ l3

  l5 : length a5 ≡ 148
  l5 = length-sets a4 132 rows ∙ l4

  laid_length : length (laid_anchor a front slots widths rows) ≡ 148
  unfolding laid_anchor
  laid_length = length-set a5 3 1 ∙ l5

  laid_epoch : get_or (laid_anchor a front slots widths rows) 3 0 ≡ 1
  unfolding laid_anchor
  laid_epoch = get_or-set_same a5 3 1 0 (omega (arith, l5))

  laid_front : (i : ℕ) → i < 3 → get_or (laid_anchor a front slots widths rows) i 0 ≡ get_or front i 0
  unfolding laid_anchor
  laid_front i h =
      get_or-set_other a5 3 i 1 0 (omega arith) ∙ get_or_sets_before a4 132 rows i (omega arith) ∙ get_or_sets_before a3 68 widths i (omega arith)
      ∙ get_or_sets_before a2 4 slots i (omega arith) ∙ first_word a1 front i (omega (arith, l1)) (omega arith)

  laid_slots : (i : ℕ) → i < 64 → get_or (laid_anchor a front slots widths rows) (4 + i) 0 ≡ get_or slots i 0
  unfolding laid_anchor
  laid_slots i h =
      get_or-set_other a5 3 (4 + i) 1 0 (omega arith) ∙ get_or_sets_before a4 132 rows (4 + i) (omega arith)
      ∙ get_or_sets_before a3 68 widths (4 + i) (omega arith) ∙ get_or_sets_inside a2 4 slots i (omega (arith, l2)) (omega arith)

  laid_widths : (i : ℕ) → i < 64 → get_or (laid_anchor a front slots widths rows) (68 + i) 0 ≡ get_or widths i 0
  unfolding laid_anchor
  laid_widths i h =
      get_or-set_other a5 3 (68 + i) 1 0 (omega arith) ∙ get_or_sets_before a4 132 rows (68 + i) (omega arith)
      ∙ get_or_sets_inside a3 68 widths i (omega (arith, l3)) (omega arith)

  laid_rows : (i : ℕ) → i < 16 → get_or (laid_anchor a front slots widths rows) (132 + i) 0 ≡ get_or rows i 0
  unfolding laid_anchor
  laid_rows i h =
      get_or-set_other a5 3 (132 + i) 1 0 (omega arith) ∙ get_or_sets_inside a4 132 rows i (omega (arith, l4)) (omega arith)

  pub laid_anchor_lem : Laid (laid_anchor a front slots widths rows) front slots widths rows
  unfolding epoch_on
  laid_anchor_lem =
      record {
        long = laid_length;
        epoch = laid_epoch;
        front = laid_front;
        slots = laid_slots;
        widths = laid_widths;
        rows = laid_rows;
      }

-- anchors that agree in the words of the sizes, 0 to 2 and 4 to 131
pub sizes_same : (a b : List ℕ) → length a ≡ 148 → length b ≡ 148
    → ((i : ℕ) → i < 132 → (i ≡ 3 → ⊥) → get_or a i 0 ≡ get_or b i 0) → sizes_on a ≡ sizes_on b
unfolding sizes_on
sizes_same a b long whole same =
    let slots : part 4 64 a ≡ part 4 64 b = part_cong 4 64 a b (omega arith) (omega arith) (λ i h k. same i (omega arith) (omega arith)) in
    let widths : part 68 64 a ≡ part 68 64 b =
    part_cong 68 64 a b (omega arith) (omega arith) (λ i h k. same i (omega arith) (omega arith)) in
    λ i.
    record {
      pages = same 0 (omega arith) (omega arith) i;
      disks = same 1 (omega arith) (omega arith) i;
      ring = same 2 (omega arith) (omega arith) i;
      slots = slots i;
      widths = widths i;
    }
