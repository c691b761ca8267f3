-- Differential logging of slot values of any length (000, section 3.1): a slot's changes can be redone from its first value and undone
-- from its last, and the order in which differences are applied does not matter.
use mathlib.Core.Path.{◌≡◌, refl, sym, ap, ap₂, ◌∙◌}
use Prim.Native.Nat.{ℕ}
use mathlib.Core.List.Memᴰ
use mathlib.Core.List.Permᴰ
use mathlib.Core.List.{List, [], ◌∷◌, reverse, Permᴰ}
use lib.ListN.{length}
use Rattle.model.specs.Word.{xors}
use Rattle.model.proofs.Members.{Every}
use Rattle.model.proofs.Xor.{xors_comm, xors_assoc, xors_redo, xors_undo}

-- Definition 1: the differential log of a change of a slot from p to q.
unfoldable pub Δ : List ℕ → List ℕ → List ℕ
Δ p q = xors p q

-- Definition 2: redo applies it to the value before, undo to the value after.
pub redo : (p q : List ℕ) → length p ≡ length q → xors p (Δ p q) ≡ q
unfolding Δ
redo p q e = xors_redo p q e

pub undo : (p q : List ℕ) → length p ≡ length q → xors q (Δ p q) ≡ p
unfolding Δ
undo p q e = xors_comm q (xors p q) ∙ xors_undo p q e

-- The log of the change back from q to p, an undo log, is the same.
pub undo_log : (p q : List ℕ) → Δ q p ≡ Δ p q
unfolding Δ
undo_log p q = xors_comm q p

-- a value with differences applied to it one after the other
unfoldable pub xor_all : List ℕ → List (List ℕ) → List ℕ
xor_all p [] = p
xor_all p (d ∷ ds) = xor_all (xors p d) ds

swapped : (p d e : List ℕ) → xors (xors p d) e ≡ xors (xors p e) d
swapped p d e = xors_assoc p d e ∙ ap (xors p) (xors_comm d e) ∙ sym (xors_assoc p e d)

-- a difference that is applied first may as well be applied last
first_last : (p d : List ℕ) (ds : List (List ℕ)) → xor_all (xors p d) ds ≡ xors (xor_all p ds) d
unfolding xor_all
first_last p d [] = refl
first_last p d (e ∷ ds) = ap (λ (q : List ℕ). xor_all q ds) (swapped p d e) ∙ first_last (xors p e) d ds

-- Theorem 2 (order independence): two lists of differences, some of them of undos, that differ in their order alone give one value.
pub order_independent : {ds es : List (List ℕ)} → Permᴰ ds es → (p : List ℕ) → xor_all p ds ≡ xor_all p es
unfolding xor_all
order_independent Permᴰ.nil p = refl
order_independent (Permᴰ.cons {a = a} {b = b} {l₂ = es} same d) p =
    order_independent d (xors p a) ∙ ap (λ (x : List ℕ). xor_all (xors p x) es) same
order_independent (Permᴰ.swap {a = a} {b = b} {l = ds} one two) p =
    ap (λ (q : List ℕ). xor_all q ds) (swapped p a b ∙ ap₂ (λ (x y : List ℕ). xors (xors p x) y) two one)
order_independent (Permᴰ.trans d e) p = order_independent d p ∙ order_independent e p

-- A slot has the value b and then, by one update each, the given values. Its final value, and the differences that the updates logged.
unfoldable pub final : List ℕ → List (List ℕ) → List ℕ
final b [] = b
final b (c ∷ values) = final c values

unfoldable pub differences : List ℕ → List (List ℕ) → List (List ℕ)
differences b [] = []
differences b (c ∷ values) = Δ b c ∷ differences c values

-- values of n words
abbrev pub Wide : ℕ → List (List ℕ) → Type 0
Wide n values = Every (λ v. length v ≡ n) values

-- two neighbours are of one length, and the values behind the first are of that length too
first_two : (n : ℕ) (b c : List ℕ) (values : List (List ℕ)) → Wide n (b ∷ c ∷ values) → length b ≡ length c
first_two n b c values h = h b (Memᴰ.head refl) ∙ sym (h c (Memᴰ.tail (Memᴰ.head refl)))

rest : (n : ℕ) (b : List ℕ) (values : List (List ℕ)) → Wide n (b ∷ values) → Wide n values
rest n b values h v m = h v (Memᴰ.tail m)

-- Theorem 1 (recoverability), i: the first value and the differences give the final value.
pub final_recovered : (n : ℕ) (b : List ℕ) (values : List (List ℕ)) → Wide n (b ∷ values)
    → xor_all b (differences b values) ≡ final b values
unfolding xor_all differences final
final_recovered n b [] h = refl
final_recovered n b (c ∷ values) h =
    ap (λ (q : List ℕ). xor_all q (differences c values)) (redo b c (first_two n b c values h))
    ∙ final_recovered n c values (rest n b (c ∷ values) h)

-- ii: the final value and the differences give the first value.
pub first_recovered : (n : ℕ) (b : List ℕ) (values : List (List ℕ)) → Wide n (b ∷ values)
    → xor_all (final b values) (differences b values) ≡ b
unfolding xor_all differences final
first_recovered n b [] h = refl
first_recovered n b (c ∷ values) h =
    first_last (final c values) (Δ b c) (differences c values)
    ∙ ap (λ (q : List ℕ). xors q (Δ b c)) (first_recovered n c values (rest n b (c ∷ values) h))
    ∙ undo b c (first_two n b c values h)

-- Both in any order of the differences; in particular undo in reverse, as 000 writes it.
module _ (n : ℕ) (b : List ℕ) (values : List (List ℕ)) (wide : Wide n (b ∷ values)) where
  pub final_any_order : {ds : List (List ℕ)} → Permᴰ ds (differences b values) → xor_all b ds ≡ final b values
  final_any_order d = order_independent d b ∙ final_recovered n b values wide

  pub first_any_order : {ds : List (List ℕ)} → Permᴰ ds (differences b values) → xor_all (final b values) ds ≡ b
  first_any_order d = order_independent d (final b values) ∙ first_recovered n b values wide

  pub first_in_reverse : xor_all (final b values) (reverse (differences b values)) ≡ b
  first_in_reverse = first_any_order (Permᴰ.reverse (differences b values))
