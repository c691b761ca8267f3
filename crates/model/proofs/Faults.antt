-- Faults: "lowest disk, first position there".
use Rattle.std.specs.Prelude.{None, Some, Option}
use mathlib.Core.Path.{◌≡◌, refl, sym, ◌∙◌, ap}
use mathlib.Core.Logic.{◌⊎◌, inl, inr}
use mathlib.Core.List.{List, []}
use mathlib.Core.Bool.{Bool, true, false}
use Prim.Native.Nat.{ℕ, zero, suc, ◌+◌, ◌≤◌, ◌<◌}
use native.Mathlib.Omega.{arith}
use lib.Dec.{ltb}
use borrow.Author.Tests.{ltb-true, ltb-false}
use Rattle.model.specs.declared.Sizes.{Sizes}
use Rattle.model.specs.declared.BadRecord.{BadRecord}
use Rattle.model.specs.Record.{bad_record}
use Rattle.model.specs.Decode.{read_log}
use Rattle.model.specs.Scan.{Scan, end, bad, item, fault_in}
use Rattle.model.specs.Causes.{tail_in, retained_from, fault_from, fault_row}
use Rattle.model.proofs.Reading.{ending, either_ending, FirstBad, scan_bad}
use Rattle.model.proofs.Booleans.{true_false}

-- The fault of a scan is its malformed record, and else that of the rest.
pub fault_bad : (disk : ℕ) (sc : Scan) (rest : Option BadRecord) (p : ℕ) → ending sc ≡ bad p → fault_in disk sc rest ≡ bad_record disk p
unfolding ending fault_in
fault_bad disk end rest p e = let z : ◌≡◌ {A = ℕ} 0 1 = cc in absurd (omega arith)
fault_bad disk (bad q) rest p e = cc
fault_bad disk (item q r more) rest p e = fault_bad disk more rest p e

pub fault_end : (disk : ℕ) (sc : Scan) (rest : Option BadRecord) → ending sc ≡ end → fault_in disk sc rest ≡ rest
unfolding ending fault_in
fault_end disk end rest e = refl
fault_end disk (bad q) rest e = let z : ◌≡◌ {A = ℕ} 0 1 = cc in absurd (omega arith)
fault_end disk (item q r more) rest e = fault_end disk more rest e

-- a fault of the scan itself is the fault whatever follows
pub fault_own : (disk : ℕ) (sc : Scan) (rest : Option BadRecord) {d p : ℕ} → fault_in disk sc None ≡ bad_record d p → fault_in disk sc rest ≡ bad_record d p
unfolding fault_in
fault_own disk end rest e = let z : ◌≡◌ {A = ℕ} 0 1 = cc in absurd (omega arith)
fault_own disk (bad q) rest e = e
fault_own disk (item q r more) rest e = fault_own disk more rest e

-- Of n disks from `from` on, the lowest whose log, read from its start, has a malformed record, and the first one there.
pub record LowestFault (s : Sizes) (start : ℕ → ℕ) (logs : List ℕ) (n from disk p : ℕ) : Type 0 where
  pub above : from ≤ disk
  pub below : disk < from + n
  pub broken : ending (retained_from s start logs disk) ≡ bad p
  pub lower : (d : ℕ) → from ≤ d → d < disk → ending (retained_from s start logs d) ≡ end

-- a number from m on is m, or from m + 1 on
from_next : (P : ℕ → Type 0) (m : ℕ) → P m → ((d : ℕ) → m + 1 ≤ d → P d) → (d : ℕ) → m ≤ d → P d
from_next P m here rest d l = go (ltb m d) refl
  where
    go : (b : Bool) → ltb m d ≡ b → P d
    go true e = rest d (omega (arith, ltb-true m d e))
    go false e =
        let same : m ≡ d = omega (arith, ltb-false m d e) in
        rw same at here

module _ (s : Sizes) (start : ℕ → ℕ) (logs : List ℕ) where
  pub fault_lowest : (n from disk p : ℕ) → fault_from s start logs n from ≡ bad_record disk p → LowestFault s start logs n from disk p
  unfolding fault_from
  fault_lowest zero from disk p e = let z : ◌≡◌ {A = ℕ} 0 1 = cc in absurd (omega arith)
  fault_lowest (suc n) from disk p e = go (either_ending (retained_from s start logs from)) (fault_lowest n (from + 1) disk p)
    where
      go : (ending (retained_from s start logs from) ≡ end) ⊎ ((q : ℕ) × (ending (retained_from s start logs from) ≡ bad q))
          → (fault_from s start logs n (from + 1) ≡ bad_record disk p → LowestFault s start logs n (from + 1) disk p)
          → LowestFault s start logs (suc n) from disk p
      go (inl x) rest =
          let y = rest (sym (fault_end from (retained_from s start logs from) (fault_from s start logs n (from + 1)) x) ∙ e) in
          record {
            above = omega (arith, y.above);
            below = omega (arith, y.below);
            broken = y.broken;
            lower = from_next (λ (d : ℕ). d < disk → ending (retained_from s start logs d) ≡ end) from (λ l. x) y.lower;
          }
      go (inr x) rest =
          let f = sym (fault_bad from (retained_from s start logs from) (fault_from s start logs n (from + 1)) x.0 x.1) ∙ e in
          let here : from ≡ disk = ap (λ (z : Option BadRecord). (fault_row z).first) f in
          let there : x.0 ≡ p = ap (λ (z : Option BadRecord). (fault_row z).second) f in
          record {
            above = omega arith;
            below = omega arith;
            broken = rw (← here, ← there) x.1;
            lower = λ d l m. absurd (omega arith);
          }

  pub fault_none : (n from : ℕ) → fault_from s start logs n from ≡ None
      → (d : ℕ) → from ≤ d → d < from + n → ending (retained_from s start logs d) ≡ end
  unfolding fault_from
  fault_none zero from e = λ d l m. absurd (omega arith)
  fault_none (suc n) from e = go (either_ending (retained_from s start logs from)) (fault_none n (from + 1))
    where
      go : (ending (retained_from s start logs from) ≡ end) ⊎ ((q : ℕ) × (ending (retained_from s start logs from) ≡ bad q))
          → (fault_from s start logs n (from + 1) ≡ None → (d : ℕ) → from + 1 ≤ d → d < from + 1 + n → ending (retained_from s start logs d) ≡ end)
          → (d : ℕ) → from ≤ d → d < from + suc n → ending (retained_from s start logs d) ≡ end
      go (inl x) rest =
          from_next (λ (d : ℕ). d < from + suc n → ending (retained_from s start logs d) ≡ end) from (λ m. x)
          (λ d l m. rest (sym (fault_end from (retained_from s start logs from) (fault_from s start logs n (from + 1)) x) ∙ e) d l (omega arith))
      go (inr x) rest =
          let f = sym (fault_bad from (retained_from s start logs from) (fault_from s start logs n (from + 1)) x.0 x.1) ∙ e in
          let z : ◌≡◌ {A = ℕ} 0 1 = cc in
          absurd (omega arith)

  pub none_fault : (n from : ℕ) → ((d : ℕ) → from ≤ d → d < from + n → ending (retained_from s start logs d) ≡ end)
      → fault_from s start logs n from ≡ None
  unfolding fault_from
  none_fault zero from h = refl
  none_fault (suc n) from h =
      fault_end from (retained_from s start logs from) (fault_from s start logs n (from + 1)) (h from (omega arith) (omega arith))
      ∙ none_fault n (from + 1) (λ d l m. h d (omega arith) (omega arith))

-- the same from equal starts
pub fault_same : (s : Sizes) (logs : List ℕ) (start other : ℕ → ℕ) (n d : ℕ) → ((e : ℕ) → d ≤ e → e < d + n → other e ≡ start e)
    → fault_from s other logs n d ≡ fault_from s start logs n d
unfolding fault_from retained_from
fault_same s logs start other zero d same = refl
fault_same s logs start other (suc n) d same =
    rw (same d (omega arith) (omega arith), fault_same s logs start other n (d + 1) (λ e l m. same e (omega arith) (omega arith)))

-- so what a check returns is the first malformed position of the lowest disk that has one
pub retained_bad : (s : Sizes) (start : ℕ → ℕ) (logs : List ℕ) (disk p : ℕ) → ending (retained_from s start logs disk) ≡ bad p
    → FirstBad s (read_log s logs disk (tail_in s logs disk) []) (tail_in s logs disk) (start disk) p
unfolding retained_from
retained_bad s start logs disk p e = scan_bad s (read_log s logs disk (tail_in s logs disk) []) (tail_in s logs disk) (start disk) p e

-- row 7 applies to every fault
pub no_fault : (f : Option BadRecord) → (fault_row f).applies ≡ false → f ≡ None
no_fault None h = refl
no_fault (Some found) h = true_false refl h

-- where a log is followed by no fault, the rest has none
pub fault_rest : (disk : ℕ) (x : Scan) (rest : Option BadRecord) → fault_in disk x rest ≡ None → rest ≡ None
unfolding fault_in
fault_rest disk end rest h = h
fault_rest disk (bad p) rest h = let z : ◌≡◌ {A = ℕ} 0 1 = cc in absurd (omega arith)
fault_rest disk (item p q more) rest h = fault_rest disk more rest h
