-- A loop over a log: a survey of a transaction's updates, and the positions of some of them gathered.
use Rattle.std.specs.Prelude.{None, Option}
use Prim.Native.Nat.{ℕ, ◌+◌, ◌*◌, ◌/◌, ◌%◌, ◌≤◌, ◌<◌}
use mathlib.Core.Path.{◌≡◌, refl, sym, ap, ◌∙◌}
use mathlib.Core.List.{List, [], ◌∷◌, ◌++◌}
use mathlib.Core.Bool.{Bool, true, false, cond}
use native.Mathlib.Omega.{arith}
use native.Mathlib.Decide.{ℕ_discrete}
use native.Mathlib.Numerals.{add-one}
use lib.Dec.{eqb}
use lib.ListN.{length, get_or, set, take, drop, length-set, length-append}
use lib.Seq.{get_or-set_same, get_or-set_other, drop-drop, take-suc-set, append_snoc, take_at, length-take-le}
use borrow.Author.Tests.{eq-eqb, ne_eqb}
use Rattle.model.specs.declared.Sizes.{Sizes}
use Rattle.model.specs.declared.BadRecord.{BadRecord}
use Rattle.model.specs.Record.{bad_record}
use Rattle.model.specs.Scan.{Scan, end, bad, fault_in, updates_in, update_words}
use Rattle.model.proofs.Booleans.{cond_all}
use Rattle.model.proofs.Updates.{update_words_none}
use Rattle.disk_log.specs.Reading.{positions_in}
use Rattle.disk_log.specs.Front.{NotedAt, Surveyed}
use Rattle.disk_log.proofs.FrontSteps.{Step}

-- a note leaves the length as it was
pub noted_length : (notes : List ℕ) (i p : ℕ) (b : Bool) {after : List ℕ} → after ≡ cond b (set notes i p) notes → length after ≡ length notes
noted_length notes i p b is = rw is (cond_all (λ (l : List ℕ). length l ≡ length notes) b (λ _. length-set notes i p) (λ _. refl))

-- A survey: so many updates are counted and noted, and the others are found from p on.
module _ (t : ℕ) (log : ℕ → Scan) (from : ℕ) where
  abbrev on : ℕ → List ℕ
  on p = positions_in t (log p)

  pub record Surveying (p count words : ℕ) (notes : List ℕ) : Type 0 where
    pub behind : from ≤ p
    pub left : on p ≡ drop count (on from)
    pub all : count + length (on p) ≡ length (on from)
    pub sum : words + update_words (updates_in t (log p)) ≡ update_words (updates_in t (log from))
    pub faults : (disk : ℕ) (f : Option BadRecord) → fault_in disk (log p) f ≡ fault_in disk (log from) f
    pub each : (k : ℕ) → 128 * k < count → NotedAt t log from k (get_or notes k 0)

  pub surveying_start : (notes : List ℕ) → Surveying from 0 0 notes
  surveying_start notes =
      record { behind = omega arith; left = refl; all = omega arith; sum = omega arith; faults = λ disk f. refl; each = λ k h. absurd (omega arith) }

  module _ {p count words : ℕ} {notes : List ℕ} (so : Surveying p count words notes) where
    -- a record of another transaction, or one that is no update
    pub surveying_pass : {s : Sizes} {size next : ℕ} {b : Bool} → p ≤ next → Step s t (log p) p size b (log next) → b ≡ false → Surveying next count words notes
    surveying_pass {next = next} up step e =
        let same : on p ≡ on next = step.positions ∙ rw e refl in
        let none : update_words (updates_in t (log p)) ≡ update_words (updates_in t (log next)) + 0 = step.words ∙ rw e refl in
        record {
          behind = omega (arith, so.behind);
          left = sym same ∙ so.left;
          all = omega (arith, so.all, ap length same);
          sum = omega (arith, so.sum, none);
          faults = λ disk f. sym (step.faults disk f) ∙ so.faults disk f;
          each = so.each;
        }

    -- an update
    pub surveying_update : {s : Sizes} {size next : ℕ} {b : Bool} {after : List ℕ} → p ≤ next → Step s t (log p) p size b (log next) → b ≡ true
        → count < 128 * length notes → after ≡ cond (eqb (count % 128) 0) (set notes (count / 128) p) notes
        → Surveying next (count + 1) (words + size) after
    surveying_update {size = size} {next = next} {after = after} up step e room is =
        let one : on p ≡ p ∷ on next = step.positions ∙ rw e refl in
        let more : update_words (updates_in t (log p)) ≡ update_words (updates_in t (log next)) + size = step.words ∙ rw e refl in
        record {
          behind = omega (arith, so.behind);
          left = ap (λ (l : List ℕ). drop 1 l) (sym one ∙ so.left) ∙ drop-drop 1 count (on from);
          all = omega (arith, so.all, ap length one);
          sum = omega (arith, so.sum, more);
          faults = λ disk f. sym (step.faults disk f) ∙ so.faults disk f;
          each = λ k h. go k h (ℕ_discrete (128 * k) count) (ℕ_discrete (count % 128) 0);
        }
      where
        here : (k : ℕ) → 128 * k ≡ count → NotedAt t log from k p
        here k x = record { behind = so.behind; left = so.left ∙ ap (λ (i : ℕ). drop i (on from)) (sym x); faults = so.faults }

        go : (k : ℕ) → 128 * k < count + 1 → Dec (128 * k ≡ count) → Dec (count % 128 ≡ 0) → NotedAt t log from k (get_or after k 0)
        go k h (yes x) z =
            let first : count % 128 ≡ 0 = omega arith in
            let place : count / 128 ≡ k = omega arith in
            rw (is, eq-eqb (count % 128) 0 first, place, get_or-set_same notes k p 0 (omega arith)) (here k x)
        go k h (no x) (yes z) =
            rw (is, eq-eqb (count % 128) 0 z, get_or-set_other notes (count / 128) k p 0 (λ y. x (omega arith))) (so.each k (omega arith))
        go k h (no x) (no z) = rw (is, ne_eqb (count % 128) 0 z) (so.each k (omega arith))

    -- no update is left
    surveyed : (disk : ℕ) {f : Option BadRecord} → on p ≡ [] → update_words (updates_in t (log p)) ≡ 0 → fault_in disk (log p) None ≡ f
        → Surveyed disk t log from (record { fault = f; count = count; words = words }) notes
    surveyed disk none no_words found =
        record {
          fault = sym found ∙ so.faults disk None;
          words = omega (arith, so.sum, no_words);
          all = omega (arith, so.all, ap length none);
          each = so.each;
        }

    -- at the end, and at a malformed record
    pub surveyed_end : (disk : ℕ) → log p ≡ end → Surveyed disk t log from (record { fault = None; count = count; words = words }) notes
    unfolding positions_in updates_in fault_in
    surveyed_end disk e = surveyed disk (rw e refl) (rw e update_words_none) (rw e refl)

    pub surveyed_bad : (disk : ℕ) → log p ≡ bad p → Surveyed disk t log from (record { fault = bad_record disk p; count = count; words = words }) notes
    unfolding positions_in updates_in fault_in
    surveyed_bad disk e = surveyed disk (rw e refl) (rw e update_words_none) (rw e refl)

-- n updates gathered, one at a time: so many are, and the others are found from p on
module _ (n count : ℕ) (at : List ℕ) (long : length at ≡ 128) (few : count ≤ 128) (whole rest : List ℕ) (inv : whole ≡ take count at ++ rest) where
  pub gather_more : count < n → n ≤ length whole → 0 < length rest
  gather_more below many = omega (arith, ap length inv, length-append (take count at) rest, length-take-le count at (omega arith))

  pub gather_one : (p : ℕ) {more : List ℕ} → count < 128 → rest ≡ p ∷ more → whole ≡ take (count + 1) (set at count p) ++ more
  gather_one p {more} h e =
      inv ∙ ap (λ (x : List ℕ). take count at ++ x) e
      ∙ rw (add-one, take-suc-set at count p (omega arith)) (sym (append_snoc (take count at) p more))

  pub gather_done : count ≡ n → take n at ≡ take n whole
  gather_done e = rw (inv, ← e) (sym (take_at (take count at) rest count (length-take-le count at (omega arith))))
