-- Lists laid one after the other: the whole cut at their lengths gives them back, and a word set in the whole is a word set in one.
use mathlib.Core.Path.{◌≡◌, refl, sym, ap, ◌∙◌}
use mathlib.Core.List.{List, [], ◌∷◌, ◌++◌, map, flatten, append_assoc}
use Prim.Native.Nat.{ℕ, zero, suc, ◌+◌, ◌<◌}
use native.Mathlib.Omega.{arith}
use native.Mathlib.Nat.{zero-add, suc-add, add-zero, add_assoc}
use lib.ListN.{length, get_or, take, drop, set, length-append, length-set}
use lib.Seq.{take-append_seam, drop-append_seam, set-append_left, take-add, drop-drop}
use Rattle.model.specs.Word.{part}
use Rattle.model.proofs.Parts.{get_or_part}

abbrev pub sum : List ℕ → ℕ
sum [] = 0
sum (n ∷ ns) = n + sum ns

-- parts of these lengths, one after the other, the first at `at`
unfoldable pub cut_from : (at : ℕ) → (lengths : List ℕ) → List ℕ → List (List ℕ)
cut_from at [] l = []
cut_from at (n ∷ ns) l = part at n l ∷ cut_from (at + n) ns l

pub length_flat : (ls : List (List ℕ)) → length (flatten ls) ≡ sum (map length ls)
unfolding flatten
length_flat [] = refl
length_flat (l ∷ ls) = length-append l (flatten ls) ∙ ap (λ (n : ℕ). length l + n) (length_flat ls)

-- laid one after the other, the parts are the words that were cut
pub cut_flat : (at : ℕ) (ns l : List ℕ) → flatten (cut_from at ns l) ≡ part at (sum ns) l
unfolding flatten cut_from part
cut_flat at [] l = refl
cut_flat at (n ∷ ns) l =
    ap (λ (r : List ℕ). take n (drop at l) ++ r) (cut_flat (at + n) ns l ∙ ap (λ (r : List ℕ). take (sum ns) r) (sym (drop-drop n at l)))
    ∙ sym (take-add n (sum ns) (drop at l))

-- and lists laid one after the other are cut into themselves
pub flat_cut : (at : ℕ) (ls : List (List ℕ)) (words rest : List ℕ) → drop at words ≡ flatten ls ++ rest → cut_from at (map length ls) words ≡ ls
unfolding flatten cut_from part
flat_cut at [] words rest e = refl
flat_cut at (l ∷ ls) words rest e =
    let here : drop at words ≡ l ++ (flatten ls ++ rest) = e ∙ append_assoc l (flatten ls) rest in
    let one : take (length l) (drop at words) ≡ l = ap (λ (r : List ℕ). take (length l) r) here ∙ take-append_seam l (flatten ls ++ rest) in
    let more : drop (at + length l) words ≡ flatten ls ++ rest =
    sym (drop-drop (length l) at words) ∙ ap (λ (r : List ℕ). drop (length l) r) here ∙ drop-append_seam l (flatten ls ++ rest) in
    rw (one, flat_cut (at + length l) ls words rest more) refl

-- a word of one of the parts
pub get_or_cut : (at : ℕ) (ns l : List ℕ) (k i : ℕ) → i < get_or ns k 0
    → get_or (get_or (cut_from at ns l) k []) i 0 ≡ get_or l (at + sum (take k ns) + i) 0
unfolding cut_from
get_or_cut at [] l k i h = absurd (omega arith)
get_or_cut at (n ∷ ns) l zero i h = get_or_part at n l i h ∙ ap (λ (p : ℕ). get_or l (p + i) 0) (sym (add-zero at))
get_or_cut at (n ∷ ns) l (suc k) i h =
    get_or_cut (at + n) ns l k i h ∙ ap (λ (p : ℕ). get_or l (p + i) 0) (add_assoc at n (sum (take k ns)))

-- a word set behind a list
set_skip : (a b : List ℕ) (i x : ℕ) → set (a ++ b) (length a + i) x ≡ a ++ set b i x
set_skip [] b i x = ap (λ (k : ℕ). set b k x) (zero-add i)
set_skip (y ∷ a) b i x =
    ap (λ (k : ℕ). set (y ∷ (a ++ b)) k x) (suc-add (length a) i) ∙ ap (λ (r : List ℕ). y ∷ r) (set_skip a b i x)

-- the lists with word i of list k set; they stay as long
unfoldable pub set_in : List (List ℕ) → (k i x : ℕ) → List (List ℕ)
set_in ls k i x = set ls k (set (get_or ls k []) i x)

pub lengths_set : (ls : List (List ℕ)) (k i x : ℕ) → map length (set_in ls k i x) ≡ map length ls
unfolding set_in
lengths_set [] k i x = refl
lengths_set (l ∷ ls) zero i x = ap (λ (n : ℕ). n ∷ map length ls) (length-set l i x)
lengths_set (l ∷ ls) (suc k) i x = ap (λ (r : List ℕ). length l ∷ r) (lengths_set ls k i x)

pub set_flat : (ls : List (List ℕ)) (rest : List ℕ) (k i x : ℕ) → i < length (get_or ls k [])
    → set (flatten ls ++ rest) (sum (take k (map length ls)) + i) x ≡ flatten (set_in ls k i x) ++ rest
unfolding flatten set_in
set_flat [] rest k i x h = absurd (omega arith)
set_flat (l ∷ ls) rest zero i x h =
    ap (λ (p : ℕ). set ((l ++ flatten ls) ++ rest) p x) (zero-add i)
    ∙ ap (λ (r : List ℕ). set r i x) (append_assoc l (flatten ls) rest)
    ∙ set-append_left l (flatten ls ++ rest) i x h
    ∙ sym (append_assoc (set l i x) (flatten ls) rest)
set_flat (l ∷ ls) rest (suc k) i x h =
    ap (λ (p : ℕ). set ((l ++ flatten ls) ++ rest) p x) (add_assoc (length l) (sum (take k (map length ls))) i)
    ∙ ap (λ (r : List ℕ). set r (length l + (sum (take k (map length ls)) + i)) x) (append_assoc l (flatten ls) rest)
    ∙ set_skip l (flatten ls ++ rest) (sum (take k (map length ls)) + i) x
    ∙ ap (λ (r : List ℕ). l ++ r) (set_flat ls rest k i x h)
    ∙ sym (append_assoc l (flatten (set_in ls k i x)) rest)
