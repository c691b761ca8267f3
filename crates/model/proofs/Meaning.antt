-- What definitions in the form of code say, in document 01's words: the disk that a begin gets, and a new start.
use mathlib.Core.Path.{◌≡◌, refl, sym, ◌∙◌}
use mathlib.Core.Logic.{◌⊎◌, inl, inr}
use mathlib.Core.Bool.{Bool, true, false, true≢false, cond, ◌&&◌, ◌||◌}
use Prim.Native.Nat.{ℕ, zero, suc, ◌+◌, ◌*◌, ◌/◌, ◌≤◌, ◌<◌, min}
use native.Mathlib.Omega.{arith}
use native.Mathlib.Decide.{dec_lt}
use lib.Dec.{leb, ltb, eqb}
use lib.ListN.{get_or}
use borrow.Author.Tests.{leb-true, leb-false, lt-ltb, le-ltb, ltb-true, ltb-false, eqb-true, eqb-false}
use Rattle.model.specs.declared.Table.{Table}
use Rattle.model.specs.declared.Core.{Core}
use Rattle.model.specs.State.{places, served_by, has_update, first_at}
use Rattle.model.specs.Room.{no_disk, started_blocks, idlest_below, Idlest}
use Rattle.model.specs.Checkpoint.{least_first, new_start}
use Rattle.model.proofs.Below.{below_suc}

-- A started block: block k is counted exactly where its first word is there.
pub blocks_started : (words k : ℕ) → ltb k (started_blocks words) ≡ ltb (16 * k) words
unfolding started_blocks
blocks_started words k =
    elim (dec_lt (16 * k) words) [
      | yes h ↦ lt-ltb k ((words + 15) / 16) (omega arith) ∙ sym (lt-ltb (16 * k) words h)
      | no h ↦ le-ltb k ((words + 15) / 16) (omega arith) ∙ sym (le-ltb (16 * k) words (omega arith))
    ]

-- no disk below n is eligible, and then the answer is 8
pub record NoneEligible (eligible : ℕ → Bool) (n disk : ℕ) : Type 0 where
  pub eight : disk ≡ no_disk
  pub none : (i : ℕ) → i < n → eligible i ≡ false

abbrev pub Chosen : (ℕ → Bool) → (ℕ → ℕ) → ℕ → ℕ → Type 0
Chosen eligible load n disk = Idlest eligible load n disk ⊎ NoneEligible eligible n disk

module _ (eligible : ℕ → Bool) (load : ℕ → ℕ) where
  -- one disk more: the best so far stays, or that disk is the first or less busy
  stays : (n disk : ℕ) → Idlest eligible load n disk → (eligible n ≡ true → load disk ≤ load n) → Idlest eligible load (suc n) disk
  stays n disk d h =
      record {
        below = omega arith;
        passes = d.passes;
        least = below_suc (λ (i : ℕ). eligible i ≡ true → load disk ≤ load i) n d.least h;
        lowest = d.lowest;
      }

  first : (n disk : ℕ) → NoneEligible eligible n disk → eligible n ≡ true → Idlest eligible load (suc n) n
  first n disk d e =
      record {
        below = omega arith;
        passes = e;
        least = below_suc (λ (i : ℕ). eligible i ≡ true → load n ≤ load i) n (λ i l p. absurd (true≢false (sym p ∙ d.none i l))) (λ p. omega arith);
        lowest = λ i l p. absurd (true≢false (sym p ∙ d.none i l));
      }

  less : (n disk : ℕ) → Idlest eligible load n disk → eligible n ≡ true → load n < load disk → Idlest eligible load (suc n) n
  less n disk d e h =
      record {
        below = omega arith;
        passes = e;
        least = below_suc (λ (i : ℕ). eligible i ≡ true → load n ≤ load i) n (λ i l p. omega (arith, d.least i l p)) (λ p. omega arith);
        lowest = λ i l p. omega (arith, d.least i l p);
      }

  pub idlest_chosen : (n : ℕ) → n ≤ 8 → Chosen eligible load n (idlest_below eligible load n)
  unfolding idlest_below
  idlest_chosen zero h = inr (record { eight = refl; none = λ i l. absurd (omega arith) })
  idlest_chosen (suc n) h =
      go (eligible n) (eqb best no_disk) (ltb (load n) (load best)) refl refl refl (idlest_chosen n (omega arith))
    where
      best : ℕ
      best = idlest_below eligible load n

      go : (a b c : Bool) → eligible n ≡ a → eqb best no_disk ≡ b → ltb (load n) (load best) ≡ c → Chosen eligible load n best
          → Chosen eligible load (suc n) (cond (a && (b || c)) n best)
      go false b c ea eb ec (inl d) = inl (stays n best d (λ p. absurd (true≢false (sym p ∙ ea))))
      go false b c ea eb ec (inr d) =
          inr (record { eight = d.eight; none = below_suc (λ (i : ℕ). eligible i ≡ false) n d.none ea })
      go true true c ea eb ec (inl d) = absurd (omega (arith, d.below, eqb-true best no_disk eb))
      go true true c ea eb ec (inr d) = inl (first n best d ea)
      go true false true ea eb ec (inl d) = inl (less n best d ea (ltb-true (load n) (load best) ec))
      go true false true ea eb ec (inr d) = absurd (eqb-false best no_disk eb d.eight)
      go true false false ea eb ec (inl d) = inl (stays n best d (λ p. ltb-false (load n) (load best) ec))
      go true false false ea eb ec (inr d) = absurd (eqb-false best no_disk eb d.eight)

  pub idlest_found : (n : ℕ) → n ≤ 8 → idlest_below eligible load n < 8 → Idlest eligible load n (idlest_below eligible load n)
  idlest_found n h found = go (idlest_chosen n h)
    where
      go : Chosen eligible load n (idlest_below eligible load n) → Idlest eligible load n (idlest_below eligible load n)
      go (inl d) = d
      go (inr d) = absurd (omega (arith, d.eight))

  pub idlest_none : (n : ℕ) → n ≤ 8 → no_disk ≤ idlest_below eligible load n → (i : ℕ) → i < n → eligible i ≡ false
  idlest_none n h none = go (idlest_chosen n h)
    where
      go : Chosen eligible load n (idlest_below eligible load n) → (i : ℕ) → i < n → eligible i ≡ false
      go (inl d) = absurd (omega (arith, d.below))
      go (inr d) = d.none

  -- where none is, none is found
  pub idlest_no : (n : ℕ) → n ≤ 8 → ((i : ℕ) → i < n → eligible i ≡ false) → idlest_below eligible load n ≡ no_disk
  idlest_no n h none = go (idlest_chosen n h)
    where
      go : Chosen eligible load n (idlest_below eligible load n) → idlest_below eligible load n ≡ no_disk
      go (inl d) = absurd (true≢false (sym d.passes ∙ none _ d.below))
      go (inr d) = d.eight

-- "A start is the remembered end, or the first record of a transaction of that disk still open, if that is smaller."
abbrev pub Holds : Table → ℕ → ℕ → Type 0
Holds t disk i = (served_by t disk i ≡ true) × (has_update t i ≡ true)

-- at most the remembered end and those first records, and one of them
pub record Start (t : Table) (disk remembered n start : ℕ) : Type 0 where
  pub at_most_end : start ≤ remembered
  pub at_most_first : (i : ℕ) → i < n → Holds t disk i → start ≤ first_at t i
  pub one_of : (start ≡ remembered) ⊎ ((i : ℕ) × (i < n) × Holds t disk i × (start ≡ first_at t i))

one_place_more : (t : Table) (disk remembered n start new : ℕ) → Start t disk remembered n start → new ≤ start
    → (Holds t disk n → new ≤ first_at t n) → (new ≡ start) ⊎ (Holds t disk n × (new ≡ first_at t n))
    → Start t disk remembered (suc n) new
one_place_more t disk remembered n start new s le first which =
    record {
      at_most_end = omega arith;
      at_most_first =
          below_suc (λ (i : ℕ). Holds t disk i → new ≤ first_at t i) n (λ i l h. omega (arith, s.at_most_first i l h)) first;
      one_of = go which s.one_of;
    }
  where
    go : (new ≡ start) ⊎ (Holds t disk n × (new ≡ first_at t n))
        → (start ≡ remembered) ⊎ ((i : ℕ) × (i < n) × Holds t disk i × (start ≡ first_at t i))
        → (new ≡ remembered) ⊎ ((i : ℕ) × (i < suc n) × Holds t disk i × (new ≡ first_at t i))
    go (inl e) (inl x) = inl (e ∙ x)
    go (inl e) (inr x) = inr (x.0, omega (arith, x.1), x.2, e ∙ x.3)
    go (inr e) x = inr (n, omega arith, e.0, e.1)

pub least_first_lem : (t : Table) (disk remembered n : ℕ) → Start t disk remembered n (least_first t disk remembered n)
unfolding least_first
least_first_lem t disk remembered zero =
    record { at_most_end = omega arith; at_most_first = λ i l. absurd (omega arith); one_of = inl refl }
least_first_lem t disk remembered (suc n) = go (served_by t disk n) (has_update t n) refl refl (least_first_lem t disk remembered n)
  where
    least : ℕ
    least = least_first t disk remembered n

    go : (a b : Bool) → served_by t disk n ≡ a → has_update t n ≡ b → Start t disk remembered n least
        → Start t disk remembered (suc n) (min least (cond (a && b) (first_at t n) remembered))
    go false b ea eb s =
        one_place_more t disk remembered n least _ s (omega arith) (λ h. absurd (true≢false (sym h.0 ∙ ea))) (inl (omega arith))
    go true false ea eb s =
        one_place_more t disk remembered n least _ s (omega arith) (λ h. absurd (true≢false (sym h.1 ∙ eb))) (inl (omega arith))
    go true true ea eb s =
        one_place_more t disk remembered n least _ s (omega arith) (λ h. omega arith) (smaller (leb least (first_at t n)) refl)
      where
        smaller : (x : Bool) → leb least (first_at t n) ≡ x
            → (min least (first_at t n) ≡ least) ⊎ (Holds t disk n × (min least (first_at t n) ≡ first_at t n))
        smaller true e = inl (omega (arith, leb-true least (first_at t n) e))
        smaller false e = inr ((ea, eb), omega (arith, leb-false least (first_at t n) e))

pub new_start_lem : (c : Core) (disk : ℕ) → Start c.table disk (get_or c.checkpoint.ends disk 0) places (new_start c disk)
unfolding new_start
new_start_lem c disk = least_first_lem c.table disk (get_or c.checkpoint.ends disk 0) places
