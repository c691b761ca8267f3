-- A run of words set in a list, a difference XORed in, and sums below a bound, each word by word.
use mathlib.Core.Path.{◌≡◌, refl, sym, ap, ◌∙◌}
use mathlib.Core.List.{List}
use Prim.Native.Nat.{ℕ, zero, suc, ◌+◌, ◌-◌, ◌≤◌, ◌<◌}
use native.Mathlib.Omega.{arith}
use native.Mathlib.Decide.{dec_lt, ℕ_discrete}
use native.Mathlib.Nat.{not-suc-le-zero}
use lib.ListN.{length, get_or}
use lib.Seq.{sets, length-sets}
use Rattle.model.specs.Word.{◌⊕◌, xors, part}
use Rattle.model.specs.World.{World, perform}
use Rattle.model.specs.Abort.{xor_in}
use Rattle.model.specs.Image.{xor_at}
use Rattle.model.proofs.Ledger.Entry.{mask, spanning, share}
use Rattle.model.proofs.Xor.{⊕-assoc, ⊕-zero-r, length_xors, get_or_xors_same, ⊕-left-comm}
use Rattle.model.proofs.Run.{perform_pages}
use Rattle.model.proofs.Parts.{get_or_sets_before, get_or_sets_behind, length_part, get_or_part, get_or_sets_in, spanning_in, spanning_before, spanning_after}

-- A difference XORed in at a place adds its share to every word.
pub length_xor_at : (at : ℕ) (diff words : List ℕ) → length (xor_at at diff words) ≡ length words
unfolding xor_at
length_xor_at at diff words = length-sets words at (xors (part at (length diff) words) diff)

pub xor_at_word : (at : ℕ) (diff words : List ℕ) (x : ℕ) → at + length diff ≤ length words
    → get_or (xor_at at diff words) x 0 ≡ get_or words x 0 ⊕ share at diff x
unfolding xor_at share
xor_at_word at diff words x fits = go (dec_lt x at) (dec_lt x (at + length diff))
  where
    same : length (part at (length diff) words) ≡ length diff
    same = length_part at (length diff) words fits

    long : length (xors (part at (length diff) words) diff) ≡ length diff
    long = omega (arith, length_xors (part at (length diff) words) diff, same)

    go : Dec (x < at) → Dec (x < at + length diff)
        → get_or (sets words at (xors (part at (length diff) words) diff)) x 0
        ≡ get_or words x 0 ⊕ mask (spanning at (length diff) x) (get_or diff (x - at) 0)
    go (yes before) d =
        rw (spanning_before at (length diff) x before)
        (get_or_sets_before words at (xors (part at (length diff) words) diff) x before ∙ sym (⊕-zero-r (get_or words x 0)))
    go (no before) (no after) =
        rw (spanning_after at (length diff) x (omega arith))
        (get_or_sets_behind words at (xors (part at (length diff) words) diff) x (omega (arith, long)) ∙ sym (⊕-zero-r (get_or words x 0)))
    go (no before) (yes after) =
        let back : at + (x - at) ≡ x = omega arith in
        rw (spanning_in at (length diff) x (omega arith) after)
        (get_or_sets_in words at (xors (part at (length diff) words) diff) x (omega (arith, long)) (omega arith) (omega (arith, long))
        ∙ get_or_xors_same (part at (length diff) words) diff same (x - at)
        ∙ ap (λ (v : ℕ). v ⊕ get_or diff (x - at) 0)
        (get_or_part at (length diff) words (x - at) (omega arith) ∙ ap (λ (i : ℕ). get_or words i 0) back))

-- the world with other pages
abbrev pub with_pages : World → List ℕ → World
with_pages w l = record { anchor = w.anchor; pages = l; backups = w.backups; logs = w.logs; work = w.work }

pub perform_xor : (at : ℕ) (diff : List ℕ) (w : World)
    → perform (xor_in at diff w.pages) w ≡ with_pages w (xor_at at diff w.pages)
unfolding xor_in xor_at
perform_xor at diff w = perform_pages at (xors (part at (length diff) w.pages) diff) w

-- f 0 ⊕ .. ⊕ f (n - 1)
unfoldable pub xor_below : (ℕ → ℕ) → ℕ → ℕ
xor_below f zero = 0
xor_below f (suc n) = f n ⊕ xor_below f n

pub xor_below_cong : (f g : ℕ → ℕ) (n : ℕ) → ((i : ℕ) → i < n → f i ≡ g i) → xor_below f n ≡ xor_below g n
unfolding xor_below
xor_below_cong f g zero same = refl
xor_below_cong f g (suc n) same = rw (same n (omega arith), xor_below_cong f g n (λ i h. same i (omega arith)))

pub xor_below_none : (f : ℕ → ℕ) (n : ℕ) → ((i : ℕ) → i < n → f i ≡ 0) → xor_below f n ≡ 0
unfolding xor_below
xor_below_none f zero none = refl
xor_below_none f (suc n) none = rw (none n (omega arith), xor_below_none f n (λ i h. none i (omega arith))) (⊕-zero-r 0)

-- one term that becomes less by v: the sum does
pub xor_below_less : (f g : ℕ → ℕ) (n d v : ℕ) → d < n → f d ≡ v ⊕ g d → ((i : ℕ) → (i ≡ d → ⊥) → f i ≡ g i)
    → xor_below f n ≡ v ⊕ xor_below g n
unfolding xor_below
xor_below_less f g zero d v h here same = absurd (not-suc-le-zero h)
xor_below_less f g (suc n) d v h here same = go (ℕ_discrete n d) (λ l. xor_below_less f g n d v l here same)
  where
    go : Dec (n ≡ d) → (d < n → xor_below f n ≡ v ⊕ xor_below g n) → f n ⊕ xor_below f n ≡ v ⊕ (g n ⊕ xor_below g n)
    go (yes e) rest =
        let low : xor_below f n ≡ xor_below g n = xor_below_cong f g n (λ i l. same i (omega arith)) in
        let top : f n ≡ v ⊕ g n = rw e here in
        rw (low, top) (⊕-assoc v (g n) (xor_below g n))
    go (no e) rest = rw (rest (omega (arith, e)), same n e) (⊕-left-comm (g n) v (xor_below g n))
