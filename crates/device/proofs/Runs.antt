-- A run of words under a budget: what the functions store, and what that is as a list of actions.
use mathlib.Core.Path.{◌≡◌, refl, sym, ◌∙◌}
use mathlib.Core.List.{List, [], ◌∷◌}
use mathlib.Core.Bool.{Bool, true, false}
use Prim.Native.Nat.{ℕ, zero, suc, ◌+◌, ◌-◌, ◌≤◌, ◌<◌, min}
use native.Mathlib.Omega.{arith}
use lib.Dec.{leb}
use lib.ListN.{length, take, drop, set, replicate, length-replicate}
use lib.Seq.{sets, take-take, take_all}
use borrow.Author.Tests.{le-leb, leb-true, leb-false}
use Rattle.model.specs.Word.{part}
use Rattle.model.specs.World.{World, Device, cost, store, anchor, backups, logs, run, made, finishes, each}
use Rattle.model.proofs.Run.{stores_stored, covered_each, perform_anchor, perform_backups, perform_logs}
use Rattle.model.proofs.Parts.{length_part}
use Rattle.device.specs.Ran.{Ran, Stored, with_anchor, with_backups, with_slices}

take_least : (budget n : ℕ) (words : List ℕ) → take budget (take n words) ≡ take (min budget n) words
take_least budget n words = go (leb budget n) refl
  where
    go : (b : Bool) → leb budget n ≡ b → take budget (take n words) ≡ take (min budget n) words
    go true e =
        let short : budget ≤ n = leb-true budget n e in
        let least : min budget n ≡ budget = omega arith in
        rw least (take-take budget n words short)
    go false e =
        let long : n < budget = leb-false budget n e in
        let least : min budget n ≡ n = omega arith in
        rw least (take_all budget (take n words) (short_take n words long))
      where
        short_take : (n : ℕ) (words : List ℕ) → n < budget → length (take n words) ≤ budget
        short_take n words h = simp lib.ListN.length-take (omega arith)

take_same : (budget n value : ℕ) → take budget (replicate n value) ≡ replicate (min budget n) value
take_same zero n value = let least : min 0 n ≡ 0 = omega arith in rw least refl
take_same (suc budget) zero value = let least : min (suc budget) 0 ≡ 0 = omega arith in rw least refl
take_same (suc budget) (suc n) value =
    let least : min (suc budget) (suc n) ≡ suc (min budget n) = omega arith in rw (least, ← take_same budget n value) refl

-- What the functions store: of n words the lesser number of n and the budget.
pub stored_copy : (budget from n : ℕ) (source : List ℕ) {rest at m : ℕ} {before after : List ℕ} {whole : Bool} → from + n ≤ length source
    → m ≡ min budget n → rest ≡ budget - m → after ≡ sets before at (part from m source) → whole ≡ leb n budget
    → Stored budget rest at (part from n source) before after whole
unfolding part
stored_copy budget from n source fits least left same all =
    record {
      device = rw (same, least, take_least budget n (drop from source));
      left = rw (length_part from n source fits) (omega arith);
      finished = rw (length_part from n source fits) all;
    }

pub stored_fill : (budget n value : ℕ) {rest at m : ℕ} {before after : List ℕ} {whole : Bool}
    → m ≡ min budget n → rest ≡ budget - m → after ≡ sets before at (replicate m value) → whole ≡ leb n budget
    → Stored budget rest at (replicate n value) before after whole
stored_fill budget n value least left same all =
    record {
      device = rw (same, least, take_same budget n value);
      left = rw (length-replicate n value) (omega arith);
      finished = rw (length-replicate n value) all;
    }

-- one word
take_one : (budget value : ℕ) → take (suc budget) (value ∷ []) ≡ value ∷ []
take_one zero value = refl
take_one (suc budget) value = refl

pub stored_none : (at value : ℕ) (device : List ℕ) → Stored 0 0 at (value ∷ []) device device false
stored_none at value device = record { device = refl; left = refl; finished = refl }

pub stored_one : (budget at value : ℕ) (device : List ℕ) → 0 < budget
    → Stored budget (budget - 1) at (value ∷ []) device (set device at value) true
stored_one zero at value device h = absurd (omega arith)
stored_one (suc budget) at value device h =
    record { device = rw (take_one budget value) refl; left = omega arith; finished = sym (le-leb 1 (suc budget) (omega arith)) }

-- what a loop learns of a word that it stored, and of one that it could not
module _ {budget rest at value : ℕ} {before after : List ℕ} {whole : Bool} (did : Stored budget rest at (value ∷ []) before after whole) where
  pub word_made : whole ≡ true → (budget ≡ rest + 1) × (after ≡ set before at value)
  word_made e = go budget (leb-true 1 budget (sym (sym e ∙ did.finished))) did.left did.device
    where
      go : (b : ℕ) → 1 ≤ b → rest ≡ b - min b 1 → after ≡ sets before at (take b (value ∷ []))
          → (b ≡ rest + 1) × (after ≡ set before at value)
      go zero h left same = absurd (omega arith)
      go (suc b) h left same = (omega arith, same ∙ rw (take_one b value))

  pub word_cut : whole ≡ false → (budget ≡ 0) × (rest ≡ 0) × (after ≡ before)
  word_cut e =
      let none : budget ≡ 0 = omega (arith, leb-false 1 budget (sym (sym e ∙ did.finished))) in
      (none, omega (arith, did.left), rw none at did.device)

costs_one : (device : Device) (i x : ℕ) → cost (store device i x) ≡ 1
unfolding cost
costs_one device i x = refl

-- a run of words on a device, as a list of stores
pub anchor_ran : {budget rest at : ℕ} {words after : List ℕ} {whole : Bool} (w : World)
    → Stored budget rest at words w.anchor after whole
    → Ran budget rest (each (store anchor) at words) w (with_anchor w after) whole
unfolding run made finishes
anchor_ran {budget} {at} {words} w did =
    record {
      world =
          rw (did.device, covered_each (store anchor) (costs_one anchor) budget at words)
          (sym (perform_anchor at (take budget words) w));
      left = rw (stores_stored anchor at words) did.left;
      finished = rw (stores_stored anchor at words) did.finished;
    }

pub backups_ran : {budget rest at : ℕ} {words after : List ℕ} {whole : Bool} (w : World)
    → Stored budget rest at words w.backups after whole
    → Ran budget rest (each (store backups) at words) w (with_backups w after) whole
unfolding run made finishes
backups_ran {budget} {at} {words} w did =
    record {
      world =
          rw (did.device, covered_each (store backups) (costs_one backups) budget at words)
          (sym (perform_backups at (take budget words) w));
      left = rw (stores_stored backups at words) did.left;
      finished = rw (stores_stored backups at words) did.finished;
    }

pub logs_ran : {budget rest at : ℕ} {words after : List ℕ} {whole : Bool} (w : World)
    → Stored budget rest at words w.logs after whole
    → Ran budget rest (each (store logs) at words) w (with_slices w after w.work) whole
unfolding run made finishes
logs_ran {budget} {at} {words} w did =
    record {
      world =
          rw (did.device, covered_each (store logs) (costs_one logs) budget at words)
          (sym (perform_logs at (take budget words) w));
      left = rw (stores_stored logs at words) did.left;
      finished = rw (stores_stored logs at words) did.finished;
    }
