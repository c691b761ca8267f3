-- A part of a list, and a run of words set in a list: which words and which parts change.
use mathlib.Core.Path.{◌≡◌, refl, sym, ap, ◌∙◌}
use mathlib.Core.Logic.{◌⊎◌, inl, inr}
use mathlib.Core.List.{List, [], ◌∷◌, ◌++◌, append_assoc}
use mathlib.Core.Bool.{Bool, true, false, ◌&&◌}
use Prim.Native.Nat.{ℕ, zero, suc, ◌+◌, ◌-◌, ◌≤◌, ◌<◌}
use native.Mathlib.Omega.{arith}
use native.Mathlib.Nat.{add-zero}
use lib.Dec.{leb, ltb}
use lib.ListN.{length, get_or, take, drop, set, length-append, length-take, length-drop, length-set}
use lib.Seq.{sets, sets-eq, length-take-le, take-add, take_at, drop_at, take-set-le, drop-set-lt, drop-set-add, get_or-set_same, get_or-set_other, get_or-take, get_or-drop, ext_get_or}
use borrow.Author.Tests.{leb-true, leb-false, ltb-true, ltb-false, le-leb, lt-leb, lt-ltb, le-ltb}
use Rattle.model.specs.Below.{list_below}
use Rattle.model.specs.Word.{part}
use Rattle.model.proofs.Below.{length_list, get_or_list}
use Rattle.model.proofs.Booleans.{true_false, both}
use Rattle.model.proofs.Ledger.Entry.{spanning}

-- The test of a span.
module _ (at n i : ℕ) where
  pub spanning_true : spanning at n i ≡ true → (at ≤ i) × (i < at + n)
  unfolding spanning
  spanning_true e =
      let t = both (leb at i) (ltb i (at + n)) e in
      (leb-true at i t.0, ltb-true i (at + n) t.1)

  pub spanning_false : spanning at n i ≡ false → (i < at) ⊎ (at + n ≤ i)
  unfolding spanning
  spanning_false = go (leb at i) (ltb i (at + n)) refl refl
    where
      go : (a b : Bool) → leb at i ≡ a → ltb i (at + n) ≡ b → a && b ≡ false → (i < at) ⊎ (at + n ≤ i)
      go true true p q z = true_false refl z
      go true false p q z = inr (ltb-false i (at + n) q)
      go false b p q z = inl (leb-false at i p)

  pub spanning_in : at ≤ i → i < at + n → spanning at n i ≡ true
  unfolding spanning
  spanning_in h l = rw (le-leb at i h, lt-ltb i (at + n) l)

  pub spanning_before : i < at → spanning at n i ≡ false
  unfolding spanning
  spanning_before h = rw (lt-leb at i h)

  pub spanning_after : at + n ≤ i → spanning at n i ≡ false
  unfolding spanning
  spanning_after h = rw (le-leb at i (omega arith), le-ltb i (at + n) h)

-- a part that lies within its list has all its words
pub length_part : (at n : ℕ) (l : List ℕ) → at + n ≤ length l → length (part at n l) ≡ n
unfolding part
length_part at n l h = simp (length-take, length-drop) (omega arith)

pub get_or_part : (at n : ℕ) (l : List ℕ) (i : ℕ) → i < n → get_or (part at n l) i 0 ≡ get_or l (at + i) 0
unfolding part
get_or_part at n l i h = rw (get_or-take, get_or-drop)

-- the first words of a list, one by one
pub take_list : (n : ℕ) (l : List ℕ) → n ≤ length l → take n l ≡ list_below (λ i. get_or l i 0) n
take_list n l h =
    ext_get_or 0 (take n l) (list_below (λ i. get_or l i 0) n) (length-take-le n l h ∙ sym (length_list (λ i. get_or l i 0) n))
    (λ i f.
    let g : i < n = omega (arith, length-take-le n l h) in
    rw (get_or-take, get_or_list (λ i. get_or l i 0) n i 0 g))

-- A run of words set: a word before it, behind it, outside it, and within it.
pub get_or_sets_before : (l : List ℕ) (i : ℕ) (vs : List ℕ) (j : ℕ) → j < i → get_or (sets l i vs) j 0 ≡ get_or l j 0
get_or_sets_before l i [] j h = refl
get_or_sets_before l i (v ∷ vs) j h =
    get_or_sets_before (set l i v) (suc i) vs j (omega arith) ∙ get_or-set_other l i j v 0 (omega arith)

pub get_or_sets_behind : (l : List ℕ) (i : ℕ) (vs : List ℕ) (j : ℕ) → i + length vs ≤ j → get_or (sets l i vs) j 0 ≡ get_or l j 0
get_or_sets_behind l i [] j h = refl
get_or_sets_behind l i (v ∷ vs) j h =
    get_or_sets_behind (set l i v) (suc i) vs j (omega arith) ∙ get_or-set_other l i j v 0 (omega arith)

pub get_or_sets_outside : (l : List ℕ) (i : ℕ) (vs : List ℕ) (j : ℕ) → spanning i (length vs) j ≡ false → get_or (sets l i vs) j 0 ≡ get_or l j 0
get_or_sets_outside l i vs j e = go (spanning_false i (length vs) j e)
  where
    go : (j < i) ⊎ (i + length vs ≤ j) → get_or (sets l i vs) j 0 ≡ get_or l j 0
    go (inl h) = get_or_sets_before l i vs j h
    go (inr h) = get_or_sets_behind l i vs j h

pub get_or_sets_inside : (l : List ℕ) (i : ℕ) (vs : List ℕ) (k : ℕ) → i + length vs ≤ length l → k < length vs
    → get_or (sets l i vs) (i + k) 0 ≡ get_or vs k 0
get_or_sets_inside l i [] k h j = absurd (omega arith)
get_or_sets_inside l i (x ∷ vs) zero h j =
    rw add-zero (get_or_sets_before (set l i x) (suc i) vs i (omega arith) ∙ get_or-set_same l i x 0 (omega arith))
get_or_sets_inside l i (x ∷ vs) (suc k) h j =
    let e : i + suc k ≡ suc i + k = omega arith in
    rw e (get_or_sets_inside (set l i x) (suc i) vs k (rw length-set (omega arith)) (omega arith))

pub get_or_sets_in : (l : List ℕ) (i : ℕ) (vs : List ℕ) (j : ℕ) → i + length vs ≤ length l → i ≤ j → j < i + length vs
    → get_or (sets l i vs) j 0 ≡ get_or vs (j - i) 0
get_or_sets_in l i vs j fits h k =
    ap (λ (x : ℕ). get_or (sets l i vs) x 0) (omega arith) ∙ get_or_sets_inside l i vs (j - i) fits (omega arith)

-- A part after a run of words is set: the run is behind it, before it, or its end.
module _ (at n : ℕ) where
  pub part_set_behind : (l : List ℕ) (i v : ℕ) → at + n ≤ i → part at n (set l i v) ≡ part at n l
  unfolding part
  part_set_behind l i v h =
      let e : i ≡ at + (i - at) = omega arith in
      rw (e, drop-set-add at l (i - at) v) (take-set-le n (drop at l) (i - at) v (omega arith))

  -- a part that ends before the run
  pub part_sets_before : (l : List ℕ) (i : ℕ) (vs : List ℕ) → at + n ≤ i → part at n (sets l i vs) ≡ part at n l
  part_sets_before l i [] h = refl
  part_sets_before l i (v ∷ vs) h = part_sets_before (set l i v) (suc i) vs (omega arith) ∙ part_set_behind l i v h

  -- a part that begins behind it
  pub part_sets_behind : (l : List ℕ) (i : ℕ) (vs : List ℕ) → i + length vs ≤ at → part at n (sets l i vs) ≡ part at n l
  unfolding part
  part_sets_behind l i [] h = refl
  part_sets_behind l i (v ∷ vs) h =
      part_sets_behind (set l i v) (suc i) vs (omega arith) ∙ ap (take n) (drop-set-lt at l i v (omega arith))

  -- a part, and then the run
  pub part_sets_end : (l vs : List ℕ) → at + n + length vs ≤ length l
      → part at (n + length vs) (sets l (at + n) vs) ≡ part at n l ++ vs
  unfolding part
  part_sets_end l vs h =
      rw (
        sets-eq vs l (at + n) h,
        take-add at n l,
        append_assoc (take at l ++ take n (drop at l)) vs,
        append_assoc (take at l),
        drop_at (take at l) (take n (drop at l) ++ (vs ++ drop (at + n + length vs) l)) at (length-take-le at l (omega arith)),
        ← append_assoc,
      )
      (take_at (take n (drop at l) ++ vs) _ (n + length vs) (rw (length-append, length-take, length-drop) (omega arith)))

-- a part depends on its own words alone
pub part_cong : (at n : ℕ) (l m : List ℕ) → at + n ≤ length l → at + n ≤ length m
    → ((i : ℕ) → at ≤ i → i < at + n → get_or l i 0 ≡ get_or m i 0) → part at n l ≡ part at n m
part_cong at n l m h k same =
    ext_get_or 0 (part at n l) (part at n m) (length_part at n l h ∙ sym (length_part at n m k))
    (λ i f.
    let g : i < n = omega (arith, length_part at n l h) in
    rw (get_or_part at n l i g, get_or_part at n m i g) (same (at + i) (omega arith) (omega arith)))
