-- The words of a log XORed into the pages one after the other.
use mathlib.Core.Path.{◌≡◌, ap, ◌∙◌}
use mathlib.Core.List.{List}
use Prim.Native.Nat.{ℕ, ◌+◌, ◌≤◌, ◌<◌}
use native.Mathlib.Omega.{arith}
use native.Mathlib.Nat.{zero-add}
use lib.Bits.{bit_xor}
use lib.ListN.{length, get_or, set}
use lib.Seq.{take_all}
use Rattle.model.specs.Word.{part}
use Rattle.model.specs.Decode.{span}
use Rattle.model.specs.Image.{xor_at}
use Rattle.model.proofs.Restart.Gain.{length_span}
use Rattle.model.proofs.Restart.Image.{get_or_span}
use Rattle.words.proofs.Laws.{xor_in_none, xor_in_more}

-- i of the n words from position p on are done
module _ (read : ℕ → ℕ) (p n at : ℕ) (l : List ℕ) where
  pub xor_none : l ≡ xor_at at (part 0 0 (span read p n)) l
  xor_none = xor_in_none l at (span read p n) 0

  pub xor_more : (i x : ℕ) {before : List ℕ} → before ≡ xor_at at (part 0 i (span read p n)) l → i < n → at + n ≤ length l
      → x ≡ read (p + i)
      → set before (at + i) (bit_xor (get_or before (at + i) 0) x) ≡ xor_at at (part 0 (i + 1) (span read p n)) l
  xor_more i x done h fits e =
      rw (done, e, ← get_or_span read p n i h)
      (rw zero-add at (xor_in_more l at (span read p n) 0 i (omega arith) (omega (arith, length_span read p n))))

  pub xor_all_lem : (i : ℕ) {after : List ℕ} → i ≡ n → after ≡ xor_at at (part 0 i (span read p n)) l → after ≡ xor_at at (span read p n) l
  unfolding part
  xor_all_lem i e done = done ∙ ap (λ (d : List ℕ). xor_at at d l) (take_all i (span read p n) (omega (arith, length_span read p n)))
