-- One turn of a loop over words: each law takes what n words give to what n + 1 words give.
use mathlib.Core.Path.{◌≡◌, refl, sym, ap, ◌∙◌}
use Prim.Native.Nat.{ℕ, zero, suc, ◌+◌, ◌*◌, ◌^◌, ◌≤◌, ◌<◌}
use mathlib.Core.List.{List, [], ◌∷◌, ◌++◌, append-nil}
use native.Mathlib.Numerals.{add-one}
use native.Mathlib.Nat.{add-zero, add-suc, suc-add, zero-add}
use native.Mathlib.Omega.{arith}
use lib.ListN.{length, get_or, set, take, drop, replicate, length-drop, length-replicate, drop_of_length-le}
use lib.Bits.{bit_xor}
use lib.Count.{ones, ones-le}
use Rattle.std.proofs.Common.{append_assoc}
use borrow.Rule.Slice.PartMut.{put_mid}
use lib.Seq.{sets, sets-eq, take-suc, take-add, take-length, get_or-drop, drop-drop}
use Rattle.model.specs.Below.{sum_over}
use Rattle.model.specs.Word.{◌⊕◌, xors, ones_over, part}
use Rattle.model.specs.Image.{xor_at}
use Rattle.model.proofs.Xor.{length_xors_same}
use Rattle.model.proofs.Below.{sum_append}
use Rattle.model.proofs.Parts.{get_or_sets_behind}
use Rattle.model.proofs.Parts.{length_part}

-- a run of stores, and one store behind it
pub sets_snoc : (l : List ℕ) (at : ℕ) (vs : List ℕ) (v : ℕ) → sets l at (vs ++ (v ∷ [])) ≡ set (sets l at vs) (at + length vs) v
sets_snoc l at [] v = rw add-zero
sets_snoc l at (x ∷ vs) v = rw (add-suc, ← suc-add) (sets_snoc (set l at x) (suc at) vs v)

-- the same where the run's length is known by an equation
pub sets_more : (l : List ℕ) (at : ℕ) (vs : List ℕ) (v n : ℕ) → length vs ≡ n → set (sets l at vs) (at + n) v ≡ sets l at (vs ++ (v ∷ []))
sets_more l at vs v n e = rw (← e) (sym (sets_snoc l at vs v))

-- a part of a list that is written anew is one run of stores
pub put_part : (l : List ℕ) (at k : ℕ) (now vs : List ℕ) → now ≡ vs → length vs ≡ k → at + k ≤ length l → put_mid at k l now ≡ sets l at vs
put_part l at k now vs same long fits =
    let rest : drop k (drop at l) ≡ drop (at + length vs) l = drop-drop k at l ∙ ap (λ (m : ℕ). drop (at + m) l) (sym long) in
    let laid : sets l at vs ≡ take at l ++ (vs ++ drop (at + length vs) l) = sets-eq vs l at (omega arith) ∙ append_assoc (take at l) vs _ in
    rw (same, rest) (sym laid)

-- a part, and a run that is put, by numbers that are the right ones, however code says them
pub part_same : (l : List ℕ) (n from : ℕ) {long begin : ℕ} → long ≡ n → begin ≡ from → take long (drop begin l) ≡ part from n l
unfolding part
part_same l n from {begin = b} long begin = ap (λ (k : ℕ). take k (drop b l)) long ∙ ap (λ (k : ℕ). take n (drop k l)) begin

pub put_wide : (l now : List ℕ) (at k : ℕ) {wide : ℕ} {r : List ℕ} → wide ≡ k → put_mid at k l now ≡ r → put_mid at wide l now ≡ r
put_wide l now at k wide told = rw wide told

-- two runs, one behind the other
pub sets_append : (l : List ℕ) (at : ℕ) (a b : List ℕ) → sets l at (a ++ b) ≡ sets (sets l at a) (at + length a) b
sets_append l at [] b = rw add-zero
sets_append l at (x ∷ a) b = rw (add-suc, ← suc-add) (sets_append (set l at x) (suc at) a b)

-- a run over the whole list
pub sets_whole : (l vs : List ℕ) → length l ≡ length vs → sets l 0 vs ≡ vs
sets_whole l vs e =
    let none = drop_of_length-le l {i = 0 + length vs} (omega arith) in
    sets-eq vs l 0 (omega arith) ∙ ap (λ (r : List ℕ). vs ++ r) none ∙ append-nil vs

pub part_more : (at n : ℕ) (l : List ℕ) → at + n < length l → part at (n + 1) l ≡ part at n l ++ (get_or l (at + n) 0 ∷ [])
unfolding part
part_more at n l h =
    let inside : n < length (drop at l) = rw length-drop (omega arith) in
    rw (add-one, take-suc (drop at l) n 0 inside, get_or-drop)

-- two parts, one behind the other
pub part_add : (at m n : ℕ) (l : List ℕ) → part at (m + n) l ≡ part at m l ++ part (at + m) n l
unfolding part
part_add at m n l = take-add m n (drop at l) ∙ ap (λ (r : List ℕ). take m (drop at l) ++ take n r) (drop-drop m at l)

pub replicate_more : (n v : ℕ) → replicate (n + 1) v ≡ replicate n v ++ (v ∷ [])
replicate_more n v = rw add-one (go n)
  where
    go : (n : ℕ) → replicate (suc n) v ≡ replicate n v ++ (v ∷ [])
    go zero = refl
    go (suc n) = ap (λ (r : List ℕ). v ∷ r) (go n)

pub xors_snoc : (a b : List ℕ) (x y : ℕ) → length a ≡ length b → xors (a ++ (x ∷ [])) (b ++ (y ∷ [])) ≡ xors a b ++ ((x ⊕ y) ∷ [])
unfolding xors
xors_snoc [] [] x y e = refl
xors_snoc [] (v ∷ b) x y e = absurd (omega arith)
xors_snoc (u ∷ a) [] x y e = absurd (omega arith)
xors_snoc (u ∷ a) (v ∷ b) x y e = ap (λ (r : List ℕ). (u ⊕ v) ∷ r) (xors_snoc a b x y (omega arith))

-- Turns of the loops; i is the number of words done.

pub copy_more : (l : List ℕ) (at : ℕ) (source : List ℕ) (from i : ℕ) → from + i < length source
    → set (sets l at (part from i source)) (at + i) (get_or source (from + i) 0) ≡ sets l at (part from (i + 1) source)
copy_more l at source from i h =
    sets_more l at (part from i source) (get_or source (from + i) 0) i (length_part from i source (omega arith))
    ∙ ap (sets l at) (sym (part_more from i source h))

-- an array that a part of a list is copied over
pub copied_part : (n at : ℕ) (source old : List ℕ) {after : List ℕ} → at + n ≤ length source → length old ≡ n
    → after ≡ sets old 0 (part at n source) → after ≡ part at n source
copied_part n at source old fits whole e = e ∙ sets_whole old (part at n source) (whole ∙ sym (length_part at n source fits))

pub fill_more : (l : List ℕ) (at v i : ℕ) → set (sets l at (replicate i v)) (at + i) v ≡ sets l at (replicate (i + 1) v)
fill_more l at v i = sets_more l at (replicate i v) v i (length-replicate i v) ∙ ap (sets l at) (sym (replicate_more i v))

pub xor_part_more : (a b : List ℕ) (at from i : ℕ) → at + i < length a → from + i < length b
    → xors (part at (i + 1) a) (part from (i + 1) b) ≡ xors (part at i a) (part from i b) ++ ((get_or a (at + i) 0 ⊕ get_or b (from + i) 0) ∷ [])
xor_part_more a b at from i h k =
    rw (part_more at i a h, part_more from i b k)
    (xors_snoc (part at i a) (part from i b) (get_or a (at + i) 0) (get_or b (from + i) 0)
    (length_part at i a (omega arith) ∙ sym (length_part from i b (omega arith))))

length_xor_part : (a b : List ℕ) (at from i : ℕ) → at + i ≤ length a → from + i ≤ length b → length (xors (part at i a) (part from i b)) ≡ i
length_xor_part a b at from i h k =
    length_xors_same (part at i a) (part from i b) (length_part at i a h ∙ sym (length_part from i b k)) ∙ length_part at i a h

pub xor_in_none : (l : List ℕ) (at : ℕ) (source : List ℕ) (from : ℕ) → l ≡ xor_at at (part from 0 source) l
unfolding xor_at part xors
xor_in_none l at source from = refl

pub xor_in_more : (l : List ℕ) (at : ℕ) (source : List ℕ) (from i : ℕ) → at + i < length l → from + i < length source
    → set (xor_at at (part from i source) l) (at + i) (bit_xor (get_or (xor_at at (part from i source) l) (at + i) 0) (get_or source (from + i) 0))
    ≡ xor_at at (part from (i + 1) source) l
unfolding xor_at ◌⊕◌
xor_in_more l at source from i h k =
    let now : List ℕ = xors (part at i l) (part from i source) in
    let long : length now ≡ i = length_xor_part l source at from i (omega arith) (omega arith) in
    let same : get_or (sets l at now) (at + i) 0 ≡ get_or l (at + i) 0 = get_or_sets_behind l at now (at + i) (omega arith) in
    rw (length_part from i source (omega arith), length_part from (i + 1) source (omega arith), same, xor_part_more l source at from i h k)
    (sets_more l at now (get_or l (at + i) 0 ⊕ get_or source (from + i) 0) i long)

pub difference_more : (l : List ℕ) (at : ℕ) (pages : List ℕ) (from : ℕ) (value : List ℕ) (i : ℕ) → from + i < length pages → i < length value
    → set (sets l at (xors (part from i pages) (part 0 i value))) (at + i) (bit_xor (get_or pages (from + i) 0) (get_or value i 0))
    ≡ sets l at (xors (part from (i + 1) pages) (part 0 (i + 1) value))
unfolding ◌⊕◌
difference_more l at pages from value i h k =
    rw (xor_part_more pages value from 0 i h (omega arith), zero-add)
    (sets_more l at (xors (part from i pages) (part 0 i value)) (get_or pages (from + i) 0 ⊕ get_or value i 0) i
    (length_xor_part pages value from 0 i (omega arith) (omega arith)))

-- A word has at most 64 bits that are 1, so a count of 32 words is a word.
pub ones_fit : (word : ℕ) → word < 2 ^ 64 → ones word < 2 ^ 64
ones_fit word below = omega (arith, ones-le 64 word below)

pub few_fit : (counted word : ℕ) → counted ≤ 2048 → word < 2 ^ 64 → counted + ones word < 2 ^ 64
few_fit counted word few below = omega (arith, ones-le 64 word below)

pub few_more : (counted word i : ℕ) → counted ≤ 64 * i → word < 2 ^ 64 → counted + ones word ≤ 64 * (i + 1)
few_more counted word i few below = omega (arith, ones-le 64 word below)

pub ones_more : (pages : List ℕ) (from : ℕ) (value : List ℕ) (i : ℕ) → from + i < length pages → i < length value
    → ones_over (xors (part from i pages) (part 0 i value)) + ones (bit_xor (get_or pages (from + i) 0) (get_or value i 0))
    ≡ ones_over (xors (part from (i + 1) pages) (part 0 (i + 1) value))
unfolding ones_over sum_over ◌⊕◌
ones_more pages from value i h k =
    rw (xor_part_more pages value from 0 i h (omega arith), zero-add, sum_append) (omega arith)

-- at the loop's end the value is used up
pub difference_whole : (pages : List ℕ) (from : ℕ) (value : List ℕ) (i : ℕ) → i ≡ length value
    → xors (part from i pages) (part 0 i value) ≡ xors (part from (length value) pages) value
unfolding part
difference_whole pages from value i e = rw (e, take-length)
