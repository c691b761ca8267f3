-- What a reader of positions holds: words from a position on, and a log as the ring's words before the buffer's.
use Prim.Native.Nat.{ℕ, zero, suc, ◌+◌, ◌-◌, ◌≤◌, ◌<◌}
use mathlib.Core.Path.{◌≡◌, refl, ◌∙◌}
use mathlib.Core.List.{List, [], ◌∷◌, ◌++◌}
use native.Mathlib.Omega.{arith}
use native.Mathlib.Nat.{add-zero}
use native.Mathlib.Decide.{dec_lt}
use lib.ListN.{length, get_or, get_or-append}
use lib.Dec.{ltb}
use borrow.Author.Tests.{lt-ltb, le-ltb, ltb-true, ltb-false}
use Rattle.model.specs.declared.Sizes.{Sizes}
use Rattle.model.specs.Sizes.{ring_word}
use Rattle.model.specs.Decode.{read_log, span}
use Rattle.model.proofs.Booleans.{cond_cong}

-- the words stand at position p and onward
abbrev pub Holds : (ℕ → ℕ) → ℕ → List ℕ → Type 0
Holds read p [] = Unit {0}
Holds read p (x ∷ xs) = (read p ≡ x) × Holds read (p + 1) xs

-- word by word: the same as "position q holds word q - p"
pub holds_at : (read : ℕ → ℕ) (p : ℕ) (xs : List ℕ) → Holds read p xs → (q : ℕ) → p ≤ q → q < p + length xs
    → read q ≡ get_or xs (q - p) 0
holds_at read p [] h q l m = absurd (omega arith)
holds_at read p (x ∷ xs) h q l m = go (dec_lt p q) (λ k. holds_at read (p + 1) xs h.1 q (omega arith) (omega arith))
  where
    go : Dec (p < q) → (p < q → read q ≡ get_or xs (q - (p + 1)) 0) → read q ≡ get_or (x ∷ xs) (q - p) 0
    go (yes k) ih =
        let e : q - p ≡ suc (q - (p + 1)) = omega arith in
        rw e (ih k)
    go (no k) ih =
        let e : q - p ≡ 0 = omega arith in
        let z : q ≡ p = omega arith in
        rw (e, z) h.0

pub holds_from : (read : ℕ → ℕ) (p : ℕ) (xs : List ℕ)
    → ((q : ℕ) → p ≤ q → q < p + length xs → read q ≡ get_or xs (q - p) 0) → Holds read p xs
holds_from read p [] f = tt
holds_from read p (x ∷ xs) f = (here, holds_from read (p + 1) xs later)
  where
    here : read p ≡ x
    here =
        let e : p - p ≡ 0 = omega arith in
        rw e at (f p (omega arith) (omega arith))

    later : (q : ℕ) → p + 1 ≤ q → q < p + 1 + length xs → read q ≡ get_or xs (q - (p + 1)) 0
    later q l m =
        let e : q - p ≡ suc (q - (p + 1)) = omega arith in
        rw e at (f q (omega arith) (omega arith))

-- what agrees with a reader from p on holds the same words
pub holds_agree : (read other : ℕ → ℕ) (p : ℕ) (xs : List ℕ) → ((q : ℕ) → p ≤ q → q < p + length xs → other q ≡ read q)
    → Holds read p xs → Holds other p xs
holds_agree read other p [] same h = tt
holds_agree read other p (x ∷ xs) same h = (
  same p (omega arith) (omega arith) ∙ h.0,
  holds_agree read other (p + 1) xs (λ q l m. same q (omega arith) (omega arith)) h.1,
)

pub holds_append : (read : ℕ → ℕ) (p : ℕ) (a b : List ℕ) → Holds read p (a ++ b) → Holds read p a × Holds read (p + length a) b
holds_append read p [] b h = (tt, rw add-zero h)
holds_append read p (x ∷ a) b h =
    let t = holds_append read (p + 1) a b h.1 in
    let e : p + 1 + length a ≡ p + suc (length a) = omega arith in
    ((h.0, t.0), rw e at t.1)

pub append_holds : (read : ℕ → ℕ) (p : ℕ) (a b : List ℕ) → Holds read p a → Holds read (p + length a) b → Holds read p (a ++ b)
append_holds read p [] b h l = rw add-zero at l
append_holds read p (x ∷ a) b h l =
    let e : p + 1 + length a ≡ p + suc (length a) = omega arith in
    (h.0, append_holds read (p + 1) a b h.1 (rw e l))

-- the span of the words that a reader holds is those words
pub span_holds : (read : ℕ → ℕ) (p : ℕ) (xs : List ℕ) → Holds read p xs → span read p (length xs) ≡ xs
unfolding span
span_holds read p [] h = refl
span_holds read p (x ∷ xs) h = cc (h.0, span_holds read (p + 1) xs h.1)

-- two readers that agree give the same span
pub span_cong : (read other : ℕ → ℕ) (p n : ℕ) → ((q : ℕ) → p ≤ q → q < p + n → read q ≡ other q)
    → span read p n ≡ span other p n
unfolding span
span_cong read other p zero same = refl
span_cong read other p (suc n) same =
    cc (same p (omega arith) (omega arith), span_cong read other (p + 1) n (λ q h l. same q (omega arith) (omega arith)))

-- a log below its tail is the ring, from its tail on the buffer
module _ (s : Sizes) (logs : List ℕ) (disk tail : ℕ) (buffer : List ℕ) where
  pub read_ring_lem : (q : ℕ) → q < tail → read_log s logs disk tail buffer q ≡ get_or logs (ring_word s disk q) 0
  unfolding read_log
  read_ring_lem q h = simp (lt-ltb q tail h)

  pub read_buffer : (q : ℕ) → tail ≤ q → read_log s logs disk tail buffer q ≡ get_or buffer (q - tail) 0
  unfolding read_log
  read_buffer q h = simp (le-ltb q tail h)

  -- more words in the buffer leave what was read before them
  pub read_append : (more : List ℕ) (q : ℕ) → q < tail + length buffer
      → read_log s logs disk tail (buffer ++ more) q ≡ read_log s logs disk tail buffer q
  unfolding read_log
  read_append more q h =
      cond_cong (ltb q tail) (λ _. refl)
      (λ e. get_or-append buffer more 0 (q - tail) (omega (arith, ltb-false q tail e)))

  -- logs whose ring has the same word at a position read the same there
  pub read_same : (others : List ℕ) (q : ℕ) → (q < tail → get_or others (ring_word s disk q) 0 ≡ get_or logs (ring_word s disk q) 0)
      → read_log s others disk tail buffer q ≡ read_log s logs disk tail buffer q
  unfolding read_log
  read_same others q same = cond_cong (ltb q tail) (λ e. same (ltb-true q tail e)) (λ _. refl)

  -- a log holds the ring's words, then the buffer's
  pub read_holds : (p : ℕ) (xs : List ℕ) → tail ≡ p + length xs → Holds (λ q. get_or logs (ring_word s disk q) 0) p xs
      → Holds (read_log s logs disk tail buffer) p (xs ++ buffer)
  read_holds p xs e h =
      append_holds (read_log s logs disk tail buffer) p xs buffer
      (holds_agree _ _ p xs (λ q l m. read_ring_lem q (omega arith)) h)
      (rw (← e) (holds_from _ tail buffer (λ q l m. read_buffer q l)))
