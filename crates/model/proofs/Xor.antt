-- Exclusive or: a commutative group in which each word is its own inverse, and its bound; then the same laws for lists of words.
use mathlib.Core.Path.{◌≡◌, refl, sym, ap, ap₂, ◌∙◌}
use Prim.Native.Nat.{ℕ, zero, suc, ◌+◌, ◌*◌, ◌/◌, ◌%◌, ◌^◌, ◌<◌, min}
use mathlib.Core.List.{List, [], ◌∷◌}
use native.Mathlib.Omega.{arith}
use lib.Bits.{bit_xor, differ, xor_step, xor_zero_r, xor_comm, xor_self, xor_lt, xor_shr}
use lib.Arith.{bin_ind, digits_mod}
use lib.ListN.{length, get_or, replicate}
use Rattle.model.specs.Word.{◌⊕◌, xors}

differ_assoc : (x y z : ℕ) → x < 2 → y < 2 → z < 2 → differ (differ x y) z ≡ differ x (differ y z)
differ_assoc zero y z p q r = refl
differ_assoc (suc zero) zero z p q r = refl
differ_assoc (suc zero) (suc zero) zero p q r = refl
differ_assoc (suc zero) (suc zero) (suc zero) p q r = refl
differ_assoc (suc zero) (suc zero) (suc (suc z)) p q r = absurd (omega arith)
differ_assoc (suc zero) (suc (suc y)) z p q r = absurd (omega arith)
differ_assoc (suc (suc x)) y z p q r = absurd (omega arith)

differ_lt : (x y : ℕ) → x < 2 → y < 2 → differ x y < 2
differ_lt zero y p q = q
differ_lt (suc x) zero p q = p
differ_lt (suc zero) (suc y) p q = omega arith
differ_lt (suc (suc x)) (suc y) p q = absurd (omega arith)

pub bit_lt : (a : ℕ) → a % 2 < 2
bit_lt a = omega arith

pub xor_low : (a b : ℕ) → bit_xor a b % 2 ≡ differ (a % 2) (b % 2)
xor_low a b =
    ap (λ (x : ℕ). x % 2) (xor_step a b)
    ∙ digits_mod (bit_xor (a / 2) (b / 2)) (differ_lt (a % 2) (b % 2) (bit_lt a) (bit_lt b))

xor_assoc : (a b c : ℕ) → bit_xor (bit_xor a b) c ≡ bit_xor a (bit_xor b c)
xor_assoc =
    bin_ind (λ (n : ℕ). (b c : ℕ) → bit_xor (bit_xor n b) c ≡ bit_xor n (bit_xor b c))
    (λ b c. refl)
    (λ n ih b c.
    xor_step (bit_xor n b) c
    ∙ ap₂ (λ (x y : ℕ). x * 2 + y)
    (ap (λ (x : ℕ). bit_xor x (c / 2)) (xor_shr n b 1) ∙ ih (b / 2) (c / 2) ∙ ap (λ (x : ℕ). bit_xor (n / 2) x) (sym (xor_shr b c 1)))
    (ap (λ (x : ℕ). differ x (c % 2)) (xor_low n b)
    ∙ differ_assoc (n % 2) (b % 2) (c % 2) (bit_lt n) (bit_lt b) (bit_lt c)
    ∙ ap (λ (x : ℕ). differ (n % 2) x) (sym (xor_low b c)))
    ∙ sym (xor_step n (bit_xor b c)))

pub ⊕-assoc : (a b c : ℕ) → (a ⊕ b) ⊕ c ≡ a ⊕ (b ⊕ c)
unfolding ◌⊕◌
⊕-assoc = xor_assoc

pub ⊕-comm : (a b : ℕ) → a ⊕ b ≡ b ⊕ a
unfolding ◌⊕◌
⊕-comm = xor_comm

pub ⊕-self : (a : ℕ) → a ⊕ a ≡ 0
unfolding ◌⊕◌
⊕-self = xor_self

pub ⊕-zero-r : (a : ℕ) → a ⊕ 0 ≡ a
unfolding ◌⊕◌
⊕-zero-r = xor_zero_r

pub ⊕-zero-l : (a : ℕ) → 0 ⊕ a ≡ a
unfolding ◌⊕◌
⊕-zero-l a = refl

pub ⊕-lt : (k a b : ℕ) → a < 2 ^ k → b < 2 ^ k → a ⊕ b < 2 ^ k
unfolding ◌⊕◌
⊕-lt = xor_lt

pub ⊕-left-comm : (a b c : ℕ) → a ⊕ (b ⊕ c) ≡ b ⊕ (a ⊕ c)
⊕-left-comm a b c = sym (⊕-assoc a b c) ∙ ap (λ (x : ℕ). x ⊕ c) (⊕-comm a b) ∙ ⊕-assoc b a c

pub ⊕-self-left : (a b : ℕ) → a ⊕ (a ⊕ b) ≡ b
⊕-self-left a b = sym (⊕-assoc a a b) ∙ ap (λ (x : ℕ). x ⊕ b) (⊕-self a) ∙ ⊕-zero-l b

-- both sides of an equation are sorted alike, and pairs cancel
pub ruleset xor = (⊕-assoc, ⊕-comm, ⊕-left-comm, ⊕-self, ⊕-self-left, ⊕-zero-l, ⊕-zero-r)

pub ⊕-cancel : (a b c : ℕ) → a ⊕ b ≡ a ⊕ c → b ≡ c
⊕-cancel a b c h = sym (⊕-self-left a b) ∙ ap (λ (x : ℕ). a ⊕ x) h ∙ ⊕-self-left a c

-- a term moved across
pub ⊕-move : (a b c : ℕ) → a ⊕ b ≡ c → b ≡ a ⊕ c
⊕-move a b c h = sym (⊕-self-left a b) ∙ ap (λ (x : ℕ). a ⊕ x) h

-- Lists, word by word.

-- as many words as the shorter list has
pub length_xors : (a b : List ℕ) → length (xors a b) ≡ min (length a) (length b)
unfolding xors
length_xors [] b = omega arith
length_xors (x ∷ a) [] = omega arith
length_xors (x ∷ a) (y ∷ b) = omega (arith, length_xors a b)

pub length_xors_same : (a b : List ℕ) → length a ≡ length b → length (xors a b) ≡ length a
length_xors_same a b e = omega (arith, length_xors a b)

-- word i is the exclusive or of the two words i
pub get_or_xors : (a b : List ℕ) (i : ℕ) → i < length a → i < length b → get_or (xors a b) i 0 ≡ get_or a i 0 ⊕ get_or b i 0
unfolding xors
get_or_xors [] b i h l = absurd (omega arith)
get_or_xors (x ∷ a) [] i h l = absurd (omega arith)
get_or_xors (x ∷ a) (y ∷ b) zero h l = refl
get_or_xors (x ∷ a) (y ∷ b) (suc i) h l = get_or_xors a b i (omega arith) (omega arith)

-- for lists of one length this holds at every index: past their end all three have 0
pub get_or_xors_same : (a b : List ℕ) → length a ≡ length b → (i : ℕ) → get_or (xors a b) i 0 ≡ get_or a i 0 ⊕ get_or b i 0
unfolding xors
get_or_xors_same [] [] e i = sym (⊕-zero-r 0)
get_or_xors_same [] (y ∷ b) e i = absurd (omega arith)
get_or_xors_same (x ∷ a) [] e i = absurd (omega arith)
get_or_xors_same (x ∷ a) (y ∷ b) e zero = refl
get_or_xors_same (x ∷ a) (y ∷ b) e (suc i) = get_or_xors_same a b (omega arith) i

pub xors_comm : (a b : List ℕ) → xors a b ≡ xors b a
unfolding xors
xors_comm [] [] = refl
xors_comm [] (y ∷ b) = refl
xors_comm (x ∷ a) [] = refl
xors_comm (x ∷ a) (y ∷ b) = cc (⊕-comm x y, xors_comm a b)

pub xors_assoc : (a b c : List ℕ) → xors (xors a b) c ≡ xors a (xors b c)
unfolding xors
xors_assoc [] b c = refl
xors_assoc (x ∷ a) [] c = refl
xors_assoc (x ∷ a) (y ∷ b) [] = refl
xors_assoc (x ∷ a) (y ∷ b) (z ∷ c) = cc (⊕-assoc x y z, xors_assoc a b c)

pub xors_left_comm : (a b c : List ℕ) → xors a (xors b c) ≡ xors b (xors a c)
xors_left_comm a b c = sym (xors_assoc a b c) ∙ ap (λ (l : List ℕ). xors l c) (xors_comm a b) ∙ xors_assoc b a c

-- a list with itself leaves zeros
pub xors_self : (a : List ℕ) → xors a a ≡ replicate (length a) 0
unfolding xors
xors_self [] = refl
xors_self (x ∷ a) = cc (⊕-self x, xors_self a)

-- zeros change nothing
pub xors_zeros : (a : List ℕ) → xors a (replicate (length a) 0) ≡ a
unfolding xors
xors_zeros [] = refl
xors_zeros (x ∷ a) = cc (⊕-zero-r x, xors_zeros a)

-- redo: the difference put into the value before gives the value after (000, definitions 1 and 2)
pub xors_redo : (a b : List ℕ) → length a ≡ length b → xors a (xors a b) ≡ b
unfolding xors
xors_redo [] [] e = refl
xors_redo [] (y ∷ b) e = absurd (omega arith)
xors_redo (x ∷ a) [] e = absurd (omega arith)
xors_redo (x ∷ a) (y ∷ b) e = cc (⊕-self-left x y, xors_redo a b (omega arith))

-- undo: the difference put into the value after gives the value before
pub xors_undo : (a b : List ℕ) → length a ≡ length b → xors (xors a b) b ≡ a
xors_undo a b e = xors_comm (xors a b) b ∙ ap (xors b) (xors_comm a b) ∙ xors_redo b a (sym e)
