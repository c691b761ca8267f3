-- A difference XORed in as two, one behind the other; where the pages begin, one after the other.
use mathlib.Core.Path.{◌≡◌, refl, sym, ap, ◌∙◌}
use mathlib.Core.List.{List, [], ◌∷◌, ◌++◌}
use Prim.Native.Nat.{ℕ, ◌+◌, ◌-◌, ◌%◌, ◌≤◌, ◌<◌}
use native.Mathlib.Omega.{arith}
use native.Mathlib.Decide.{ℕ_discrete}
use lib.ListN.{length, get_or, set, length-append}
use lib.Seq.{sets, get_or-set_same, get_or-set_other}
use Rattle.model.specs.Below.{sum_below}
use Rattle.model.specs.Word.{◌⊕◌, xors, part}
use Rattle.model.specs.Decode.{span}
use Rattle.model.specs.Image.{xor_at}
use Rattle.model.proofs.Xor.{length_xors_same}
use Rattle.model.proofs.Parts.{length_part, part_sets_behind}
use Rattle.words.proofs.Laws.{sets_append, part_add}
use Rattle.disk_log.specs.Ring.{read_ring}
use Rattle.disk_log.proofs.Rings.{span_run, span_round}

xors_append : (x y a b : List ℕ) → length x ≡ length a → xors (x ++ y) (a ++ b) ≡ xors x a ++ xors y b
unfolding xors
xors_append [] y [] b e = refl
xors_append [] y (v ∷ a) b e = absurd (omega arith)
xors_append (u ∷ x) y [] b e = absurd (omega arith)
xors_append (u ∷ x) y (v ∷ a) b e = ap (λ (r : List ℕ). (u ⊕ v) ∷ r) (xors_append x y a b (omega arith))

pub xor_append : (l : List ℕ) (at : ℕ) (a b : List ℕ) → at + (length a + length b) ≤ length l
    → xor_at (at + length a) b (xor_at at a l) ≡ xor_at at (a ++ b) l
unfolding xor_at
xor_append l at a b fits =
    let first : List ℕ = xors (part at (length a) l) a in
    let same : length (part at (length a) l) ≡ length a = length_part at (length a) l (omega arith) in
    let long : length first ≡ length a = length_xors_same (part at (length a) l) a same ∙ same in
    let apart : part (at + length a) (length b) (sets l at first) ≡ part (at + length a) (length b) l =
    part_sets_behind (at + length a) (length b) l at first (omega arith) in
    rw (apart, length-append, part_add at (length a) (length b) l, xors_append (part at (length a) l) (part (at + length a) (length b) l) a b same)
    (ap (λ (n : ℕ). sets (sets l at first) (at + n) (xors (part (at + length a) (length b) l) b)) (sym long)
    ∙ sym (sets_append l at first (xors (part (at + length a) (length b) l) b)))

-- n words of a ring from an index on
module _ (ring pages : List ℕ) (to at n : ℕ) where
  pub xor_run : {after : List ℕ} → at + n ≤ length ring → after ≡ xor_at to (part at n ring) pages
      → (p : ℕ) → at ≡ p % length ring → after ≡ xor_at to (span (read_ring ring) p n) pages
  xor_run h did p is = did ∙ ap (λ (d : List ℕ). xor_at to d pages) (sym (span_run ring p at n is h))

  pub xor_round : {middle after : List ℕ} → at < length ring → length ring < at + n → n ≤ length ring → to + n ≤ length pages
      → middle ≡ xor_at to (part at (length ring - at) ring) pages
      → after ≡ xor_at (to + (length ring - at)) (part 0 (n - (length ring - at)) ring) middle
      → (p : ℕ) → at ≡ p % length ring → after ≡ xor_at to (span (read_ring ring) p n) pages
  xor_round {middle} low past few room did then p is =
      let a : List ℕ = part at (length ring - at) ring in
      let b : List ℕ = part 0 (n - (length ring - at)) ring in
      let one : length a ≡ length ring - at = length_part at (length ring - at) ring (omega arith) in
      let two : length b ≡ n - (length ring - at) = length_part 0 (n - (length ring - at)) ring (omega arith) in
      then
      ∙ ap (xor_at (to + (length ring - at)) b) did
      ∙ ap (λ (k : ℕ). xor_at (to + k) b (xor_at to a pages)) (sym one)
      ∙ xor_append pages to a b (omega (arith, one, two))
      ∙ ap (λ (d : List ℕ). xor_at to d pages) (sym (span_round ring p at n is low (omega arith) few))

-- sums set one after the other
pub sums_more : (f : ℕ → ℕ) (l : List ℕ) (i sum : ℕ) → i < length l → sum ≡ sum_below f i
    → ((j : ℕ) → j < i → get_or l j 0 ≡ sum_below f j) → (j : ℕ) → j < i + 1 → get_or (set l i sum) j 0 ≡ sum_below f j
sums_more f l i sum fits e done j h = go (ℕ_discrete j i)
  where
    go : Dec (j ≡ i) → get_or (set l i sum) j 0 ≡ sum_below f j
    go (yes same) = rw (same, get_or-set_same l i sum 0 fits) e
    go (no ne) = get_or-set_other l i j sum 0 ne ∙ done j (omega (arith, ne))
