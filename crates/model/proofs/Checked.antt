-- The checks of an image, of the lent lists alone: what passes them, and that whatever is accepted has passed them.
use Rattle.std.specs.Prelude.{None}
use mathlib.Core.Path.{◌≡◌}
use mathlib.Core.List.{List}
use mathlib.Core.Bool.{Bool, true, false}
use Prim.Native.Nat.{ℕ, ◌+◌, ◌≤◌, ◌<◌}
use native.Mathlib.Omega.{arith}
use lib.Dec.{ltb}
use lib.ListN.{length}
use borrow.Author.Tests.{ltb-false, le-ltb, eqb-true, eqb-false, eq-eqb, ne_eqb, not-false}
use Rattle.model.specs.declared.Sizes.{Sizes}
use Rattle.model.specs.Sizes.{ring_of, sizes_in_bounds, total}
use Rattle.model.specs.Anchor.{anchor_words, epoch_on, sizes_on, start_on}
use Rattle.model.specs.Scan.{end}
use Rattle.model.specs.World.{World}
use Rattle.model.specs.Memory.{lengths_right}
use Rattle.model.specs.State.{limit}
use Rattle.model.specs.Refusal.{accepted, verdict}
use Rattle.model.specs.Causes.{anchor_wrong, unformatted, sizes_wrong, lengths_wrong, tail_in, tail_wrong, wrong_tail, retained_from, fault_from, log_rows}
use Rattle.model.specs.Restart.{image_rows}
use Rattle.model.proofs.Booleans.{or_none}
use Rattle.model.proofs.Below.{first_none, first_before, first_cong}
use Rattle.model.proofs.Reading.{ending}
use Rattle.model.proofs.Faults.{fault_none, none_fault, fault_same, no_fault}
use Rattle.model.proofs.Verdict.{row_passed}

-- Logs that can be read from these starts: each tail lies within its ring, and each log is well formed up to it.
pub record Whole (s : Sizes) (start : ℕ → ℕ) (logs : List ℕ) : Type 0 where
  pub tails : (d : ℕ) → d < s.disks
      → (start d ≤ tail_in s logs d) × (tail_in s logs d ≤ start d + ring_of s d) × (tail_in s logs d ≤ limit)
  pub clean : (d : ℕ) → d < s.disks → ending (retained_from s start logs d) ≡ end

-- Rows 6 and 7 apply to no such logs, and to all others.
module _ (s : Sizes) (start : ℕ → ℕ) (logs : List ℕ) where
  pub whole_tails : Whole s start logs → ltb (wrong_tail s start logs) s.disks ≡ false
  unfolding wrong_tail tail_wrong
  whole_tails h =
      rw (first_none (tail_wrong s start logs) s.disks (λ d l. let t = h.tails d l in rw (le-ltb _ _ t.0, le-ltb _ _ t.1, le-ltb _ _ t.2)))
      (le-ltb s.disks s.disks (omega arith))

  pub whole_records : Whole s start logs → fault_from s start logs s.disks 0 ≡ None
  whole_records h = none_fault s start logs s.disks 0 (λ d from l. h.clean d (omega arith))

  pub rows_whole : ltb (wrong_tail s start logs) s.disks ≡ false → fault_from s start logs s.disks 0 ≡ None → Whole s start logs
  unfolding wrong_tail tail_wrong
  rows_whole six seven =
      record {
        tails = λ d l.
            let none = first_before (tail_wrong s start logs) s.disks d (omega (arith, ltb-false (wrong_tail s start logs) s.disks six)) in
            let high = or_none _ _ none in
            let low = or_none _ _ high.0 in
            (ltb-false _ _ low.0, ltb-false _ _ low.1, ltb-false _ _ high.1);
        clean = λ d l. fault_none s start logs s.disks 0 seven d (omega arith) (omega arith);
      }

-- equal starts give equal rows
pub rows_same : (s : Sizes) (logs : List ℕ) (start other : ℕ → ℕ) → ((d : ℕ) → d < s.disks → other d ≡ start d)
    → log_rows s other logs ≡ log_rows s start logs
unfolding wrong_tail tail_wrong
rows_same s logs start other same =
    rw (
      first_cong (tail_wrong s other logs) (tail_wrong s start logs) s.disks (λ d l. rw (same d l)),
      fault_same s logs start other s.disks 0 (λ d from l. same d (omega arith)),
    )

-- so the logs are whole from either
pub whole_from : (s : Sizes) (logs : List ℕ) {start other : ℕ → ℕ} → ((d : ℕ) → d < s.disks → other d ≡ start d)
    → Whole s start logs → Whole s other logs
unfolding retained_from
whole_from s logs same h =
    record {
      tails = λ d l. rw (same d l) (h.tails d l);
      clean = λ d l. rw (same d l) (h.clean d l);
    }

-- An anchor and logs that an image can be made of.
pub record Checked (anchor logs : List ℕ) : Type 0 where
  pub long : length anchor ≡ anchor_words
  pub formatted : 1 ≤ epoch_on anchor
  pub bounds : sizes_in_bounds (sizes_on anchor) ≡ true
  pub whole : Whole (sizes_on anchor) (start_on anchor) logs

module _ (others : Sizes → Bool) (anchor logs : List ℕ) where
  -- with slices of the right lengths beside them they pass the rows of an image
  pub checked_rows : Checked anchor logs → others (sizes_on anchor) ≡ false → verdict (image_rows others anchor logs) ≡ accepted
  unfolding verdict image_rows anchor_wrong unformatted sizes_wrong
  checked_rows h right =
      let s : Sizes = sizes_on anchor in
      rw (
        eq-eqb (length anchor) anchor_words h.long,
        ne_eqb (epoch_on anchor) 0 (λ e. omega (arith, h.formatted)),
        h.bounds,
        right,
        whole_tails s (start_on anchor) logs h.whole,
        whole_records s (start_on anchor) logs h.whole,
      )

  -- and no others do
  pub rows_checked : verdict (image_rows others anchor logs) ≡ accepted → Checked anchor logs × (others (sizes_on anchor) ≡ false)
  unfolding image_rows anchor_wrong unformatted sizes_wrong
  rows_checked ok =
      let two = row_passed _ _ ok in
      let three = row_passed _ _ two.1 in
      let four = row_passed _ _ three.1 in
      let five = row_passed _ _ four.1 in
      let six = row_passed _ _ five.1 in
      let seven = row_passed _ _ six.1 in
      let some = eqb-false (epoch_on anchor) 0 three.0 in (
        record {
          long = eqb-true (length anchor) anchor_words (not-false _ two.0);
          formatted = omega arith;
          bounds = not-false _ four.0;
          whole = rows_whole (sizes_on anchor) (start_on anchor) logs six.0 (no_fault _ seven.0);
        },
        five.0,
      )

-- A restart finds nothing to refuse, its number aside: the slices have the anchor's lengths, and each log is well formed from its
-- start to its tail.
pub record Restartable (w : World) : Type 0 where
  pub image : Checked w.anchor w.logs
  pub lengths : lengths_right (sizes_on w.anchor) (total (sizes_on w.anchor)) w ≡ true

module _ (w : World) where
  abbrev wrong : Sizes → Bool
  wrong s = lengths_wrong s (total s) w

  pub restartable_rows : Restartable w → verdict (image_rows wrong w.anchor w.logs) ≡ accepted
  unfolding lengths_wrong
  restartable_rows h = checked_rows wrong w.anchor w.logs h.image (rw h.lengths)

  pub rows_restartable : verdict (image_rows wrong w.anchor w.logs) ≡ accepted → Restartable w
  unfolding lengths_wrong
  rows_restartable ok =
      let passed = rows_checked wrong w.anchor w.logs ok in
      record { image = passed.0; lengths = not-false _ passed.1 }
