-- Rows 6 and 7: the lowest disk whose tail is wrong, and the records once all tails are right.
use Rattle.std.specs.Prelude.{None, Option}
use mathlib.Core.Path.{◌≡◌, sym, ◌∙◌}
use mathlib.Core.Bool.{Bool, true, false, ◌||◌}
use mathlib.Core.List.{List}
use Prim.Native.Nat.{ℕ, ◌+◌, ◌-◌, ◌≤◌, ◌<◌}
use native.Mathlib.Omega.{arith}
use lib.Dec.{ltb}
use lib.ListN.{get_or}
use borrow.Author.Tests.{lt-ltb, le-ltb, ltb-false}
use Rattle.model.specs.declared.Sizes.{Sizes}
use Rattle.model.specs.declared.BadRecord.{BadRecord}
use Rattle.model.specs.Record.{bad_record}
use Rattle.model.specs.Below.{first_below}
use Rattle.model.specs.Sizes.{ring_of}
use Rattle.model.specs.State.{limit}
use Rattle.model.specs.Refusal.{accepted, rejected, verdict}
use Rattle.model.specs.Causes.{tail_in, tail_wrong, wrong_tail, fault_from, log_rows}
use Rattle.model.specs.Checkpoint.{per_disk}
use Rattle.model.proofs.Below.{first_unique, first_none, first_cong, first_before}
use Rattle.model.proofs.Booleans.{or_none}
use Rattle.model.proofs.PerDisk.{get_or_per_disk}
use Rattle.replay.specs.Parts.{tail_out}

module _ (ring start tail : ℕ) where
  pub out_below : tail < start → true ≡ tail_out ring start tail
  unfolding tail_out
  out_below h = rw (lt-ltb tail start h)

  pub out_above : start ≤ tail → ring < tail - start → true ≡ tail_out ring start tail
  unfolding tail_out
  out_above h l = rw (le-ltb tail start h, lt-ltb (start + ring) tail (omega arith))

  pub out_limit : start ≤ tail → tail - start ≤ ring → ltb limit tail ≡ tail_out ring start tail
  unfolding tail_out
  out_limit h l = rw (le-ltb tail start h, le-ltb (start + ring) tail (omega arith))

-- a search from 0 up: none passes before i
module _ (f : ℕ → Bool) (n i : ℕ) (before : (j : ℕ) → j < i → f j ≡ false) where
  pub search_found : i < n → f i ≡ true → i ≡ first_below f n
  search_found h passes = sym (first_unique f n i h passes before)

  pub search_none : i ≡ n → n ≡ first_below f n
  search_none e = sym (first_none f n (λ j h. before j (omega arith)))

-- The rows, of the tails that the code has read and the lowest disk that it has found.
module _ (s : Sizes) (few : s.disks ≤ 8) (start : ℕ → ℕ) (logs : List ℕ) {tails : List ℕ} (to : tails ≡ per_disk s (tail_in s logs)) {disk : ℕ}
    (found : disk ≡ first_below (λ d. tail_out (ring_of s d) (start d) (get_or tails d 0)) s.disks) where
  lowest : disk ≡ wrong_tail s start logs
  unfolding wrong_tail tail_wrong tail_out
  lowest =
      found
      ∙ first_cong (λ d. tail_out (ring_of s d) (start d) (get_or tails d 0)) (tail_wrong s start logs) s.disks
      (λ d h. rw (to, get_or_per_disk s (tail_in s logs) d few h))

  pub logs_tail : disk < s.disks → verdict (log_rows s start logs) ≡ rejected 6 disk 0
  unfolding verdict
  logs_tail h = rw (← lowest, lt-ltb disk s.disks h)

  module _ (h : s.disks ≤ disk) where
    pub tail_limit : (d : ℕ) → d < s.disks → tail_in s logs d ≤ limit
    unfolding wrong_tail tail_wrong
    tail_limit d l =
        let none : tail_wrong s start logs d ≡ false = first_before (tail_wrong s start logs) s.disks d (omega (arith, lowest)) in
        let low : Bool = ltb (tail_in s logs d) (start d) || ltb (start d + ring_of s d) (tail_in s logs d) in
        ltb-false limit (tail_in s logs d) (or_none low (ltb limit (tail_in s logs d)) none).1

    module _ {fault : Option BadRecord} (checked : fault ≡ fault_from s start logs s.disks 0) where
      pub logs_fault : {d p : ℕ} → fault ≡ bad_record d p → verdict (log_rows s start logs) ≡ rejected 7 d p
      unfolding verdict
      logs_fault e = rw (← lowest, le-ltb disk s.disks h, ← checked, e)

      pub logs_right : fault ≡ None → verdict (log_rows s start logs) ≡ accepted
      unfolding verdict
      logs_right e = rw (← lowest, le-ltb disk s.disks h, ← checked, e)
