-- The words of a log from a position on, one more at a time.
use mathlib.Core.Path.{◌≡◌, ap, ◌∙◌}
use mathlib.Core.List.{List, [], ◌∷◌, ◌++◌}
use Prim.Native.Nat.{ℕ, zero, suc, ◌+◌, ◌≤◌}
use native.Mathlib.Omega.{arith}
use native.Mathlib.Nat.{add-zero}
use native.Mathlib.Numerals.{add-one}
use lib.Count.{ones}
use lib.ListN.{length, set, take, length-take}
use lib.Seq.{sets}
use Rattle.model.specs.Below.{sum_over}
use Rattle.model.specs.Word.{ones_over, part}
use Rattle.model.specs.Decode.{span}
use Rattle.model.proofs.Below.{sum_append}
use Rattle.model.proofs.Restart.Gain.{length_span}
use Rattle.disk_log.proofs.Words.{part_set}
use Rattle.words.proofs.Laws.{sets_more}

span_more : (read : ℕ → ℕ) (p n : ℕ) → span read p (suc n) ≡ span read p n ++ read (p + n) ∷ []
unfolding span
span_more read p zero = rw add-zero
span_more read p (suc n) =
    let e : p + 1 + n ≡ p + suc n = omega arith in
    ap (λ (xs : List ℕ). read p ∷ xs) (span_more read (p + 1) n ∙ rw e)

-- one more word set behind those that are
pub set_span : (out : List ℕ) (read : ℕ → ℕ) (p n : ℕ) → set (sets out 0 (span read p n)) n (read (p + n)) ≡ sets out 0 (span read p (n + 1))
set_span out read p n =
    let e : 0 + n ≡ n = omega arith in
    rw (add-one, span_more read p n) (rw e at (sets_more out 0 (span read p n) (read (p + n)) n (length_span read p n)))

-- and its bits counted
pub ones_span : (read : ℕ → ℕ) (p n : ℕ) → ones_over (span read p n) + ones (read (p + n)) ≡ ones_over (span read p (n + 1))
unfolding ones_over sum_over
ones_span read p n = rw (add-one, span_more read p n, sum_append) (omega arith)

-- the words set at the front of a list
pub take_span : (out : List ℕ) (read : ℕ → ℕ) (p n : ℕ) → n ≤ length out → take n (sets out 0 (span read p n)) ≡ span read p n
unfolding part
take_span out read p n fits =
    let long = length_span read p n in
    rw long at (part_set out 0 (span read p n) (omega (arith, long)))

pub lent_difference : (words : List ℕ) (read : ℕ → ℕ) (p n : ℕ) → take n words ≡ span read p n → length (take n words) ≡ n
lent_difference words read p n e = ap length e ∙ length_span read p n

pub lent_fits : (words : List ℕ) (read : ℕ → ℕ) (p n : ℕ) → take n words ≡ span read p n → n ≤ length words
lent_fits words read p n e = omega (arith, lent_difference words read p n e, length-take n words)
