-- Entries that lie one after the other: their positions ascend, and a boundary among them cuts the list, and its words, in two.
use mathlib.Core.Path.{◌≡◌, refl, sym, ap, subst}
use mathlib.Core.List.{List, [], ◌∷◌, ◌++◌, append_assoc}
use mathlib.Core.Bool.{Bool, true, false, ◌||◌}
use Prim.Native.Nat.{ℕ, ◌+◌, ◌≤◌, ◌<◌}
use native.Mathlib.Omega.{arith}
use native.Mathlib.Nat.{add-zero}
use lib.Dec.{leb, eqb}
use lib.ListN.{length, length-append}
use borrow.Author.Tests.{le-leb, lt-leb, eqb-true, eq-eqb}
use Rattle.model.specs.Record.{Record, change, close, encode}
use Rattle.model.proofs.Ledger.Entry.{Entry, record_of, All, pick}
use Rattle.model.proofs.Ledger.Order.{size_of, words_of, Laid, boundary}
use Rattle.model.proofs.Ledger.Sums.{all_map}
use Rattle.model.proofs.Ledger.Lists.{pick_whole, words_first, words_none, length_words}
use Rattle.model.proofs.Booleans.{or_right}

-- a closing record has two words, a change three or more
record_size_lem : (r : Record) → 2 ≤ length (encode r)
unfolding encode
record_size_lem (change kind page slot number copy diff) = omega arith
record_size_lem (close kind number) = omega arith

pub size_ge : (r : Entry) → 2 ≤ size_of r
unfolding size_of
size_ge r = record_size_lem (record_of r)

size_is : (r : Entry) → size_of r ≡ length (encode (record_of r))
unfolding size_of
size_is r = refl

-- the second list begins where the words of the first end
pub laid_append : (p : ℕ) (a b : List Entry) → Laid p (a ++ b) → Laid p a × Laid (p + length (words_of a)) b
laid_append p [] b h = (tt, rw (words_none, add-zero) h)
laid_append p (r ∷ a) b h =
    let t = laid_append (p + size_of r) a b h.1 in
    let e : p + length (words_of (r ∷ a)) ≡ p + size_of r + length (words_of a) = omega (arith, length_words r a) in
    ((h.0, t.0), rw e t.1)

pub append_laid : (p : ℕ) (a b : List Entry) → Laid p a → Laid (p + length (words_of a)) b → Laid p (a ++ b)
append_laid p [] b h k = rw (words_none, add-zero) at k
append_laid p (r ∷ a) b h k =
    let e : p + length (words_of (r ∷ a)) ≡ p + size_of r + length (words_of a) = omega (arith, length_words r a) in
    (h.0, append_laid (p + size_of r) a b h.1 (rw e at k))

-- each lies between the first position and the end
pub laid_within : (p : ℕ) (l : List Entry) → Laid p l
    → All (λ r. (p ≤ r.position) × (r.position + size_of r ≤ p + length (words_of l))) l
laid_within p [] h = tt
laid_within p (r ∷ l) h =
    let n = length_words r l in
    ((omega arith, omega arith), all_map (λ q x. (omega (arith, size_ge r), omega arith)) l (laid_within (p + size_of r) l h.1))

pub laid_from : (p : ℕ) (l : List Entry) → Laid p l → All (λ r. p ≤ r.position) l
laid_from p l h = all_map (λ r x. x.0) l (laid_within p l h)

-- Positions ascend: what is laid after an entry has a greater one.
module _ (p : ℕ) (a : List Entry) (r : Entry) (b : List Entry) (h : Laid p (a ++ r ∷ b)) where
  pub laid_after : All (λ q. r.position < q.position) b
  laid_after =
      let t = laid_append p a (r ∷ b) h in
      all_map (λ q x. omega (arith, size_ge r)) b (laid_from (p + length (words_of a) + size_of r) b t.1.1)

-- A boundary among the entries.
pub boundary_start : (p : ℕ) (l : List Entry) → boundary p p l ≡ true
unfolding boundary
boundary_start p [] = eq-eqb p p refl
boundary_start p (r ∷ l) = rw (eq-eqb p p refl)

pub boundary_end : (p : ℕ) (l : List Entry) → boundary (p + length (words_of l)) p l ≡ true
unfolding boundary
boundary_end p [] = eq-eqb (p + length (words_of [])) p (rw words_none (omega arith))
boundary_end p (r ∷ l) =
    let e : p + length (words_of (r ∷ l)) ≡ p + size_of r + length (words_of l) = omega (arith, length_words r l) in
    or_right (eqb (p + length (words_of (r ∷ l))) p) _
    (subst (λ (z : ℕ). boundary z (p + size_of r) l ≡ true) (sym e) (boundary_end (p + size_of r) l))

pub boundary_more : (q p : ℕ) (l m : List Entry) → boundary q p l ≡ true → boundary q p (l ++ m) ≡ true
unfolding boundary
boundary_more q p [] m h = rw (eqb-true q p h) (boundary_start p m)
boundary_more q p (r ∷ l) m h = go (eqb q p) h (boundary_more q (p + size_of r) l m)
  where
    go : (b : Bool) → b || boundary q (p + size_of r) l ≡ true
        → (boundary q (p + size_of r) l ≡ true → boundary q (p + size_of r) (l ++ m) ≡ true) → b || boundary q (p + size_of r) (l ++ m) ≡ true
    go true x ih = refl
    go false x ih = ih x

pub boundary_at : (p : ℕ) (l : List Entry) → Laid p l → All (λ r. boundary r.position p l ≡ true) l
unfolding boundary
boundary_at p [] h = tt
boundary_at p (r ∷ l) h = (rw (eq-eqb r.position p h.0), all_map (λ q x. or_right (eqb q.position p) _ x) l (boundary_at (p + size_of r) l h.1))

-- a boundary is the first position or a later one
pub boundary_from : (q p : ℕ) (l : List Entry) → boundary q p l ≡ true → p ≤ q
unfolding boundary
boundary_from q p [] h = omega (arith, eqb-true q p h)
boundary_from q p (r ∷ l) h = go (eqb q p) refl h (boundary_from q (p + size_of r) l)
  where
    go : (b : Bool) → eqb q p ≡ b → b || boundary q (p + size_of r) l ≡ true → (boundary q (p + size_of r) l ≡ true → p + size_of r ≤ q) → p ≤ q
    go true e x ih = omega (arith, eqb-true q p e)
    go false e x ih = omega (arith, ih x)

-- before the end of the first entries it is a boundary among these
pub boundary_left : (q p : ℕ) (l m : List Entry) → q < p + length (words_of l) → boundary q p (l ++ m) ≡ true → boundary q p l ≡ true
unfolding boundary
boundary_left q p [] m low h = absurd (omega (arith, boundary_from q p m h, ap length words_none))
boundary_left q p (r ∷ l) m low h = go (eqb q p) h (boundary_left q (p + size_of r) l m (omega (arith, length_words r l)))
  where
    go : (b : Bool) → b || boundary q (p + size_of r) (l ++ m) ≡ true
        → (boundary q (p + size_of r) (l ++ m) ≡ true → boundary q (p + size_of r) l ≡ true) → b || boundary q (p + size_of r) l ≡ true
    go true x ih = refl
    go false x ih = ih x

-- The entries from q on, of those from p on: they are laid from q on, and their words are the last ones.
pub record Suffix (p q : ℕ) (l later : List Entry) : Type 0 where
  pub laid : Laid q later
  pub front : List ℕ
  pub words : words_of l ≡ front ++ words_of later
  pub cut : length front + p ≡ q

suffix_whole : (p : ℕ) (l : List Entry) → Laid p l → Suffix p p l (pick (λ r. leb p r.position) l)
suffix_whole p l h =
    rw (pick_whole (λ r. leb p r.position) l (all_map (λ r x. le-leb p r.position x) l (laid_from p l h)))
    (record { laid = h; front = []; words = refl; cut = omega arith })

pub boundary_suffix : (p q : ℕ) (l : List Entry) → Laid p l → boundary q p l ≡ true
    → Suffix p q l (pick (λ r. leb q r.position) l)
unfolding boundary pick
boundary_suffix p q [] h b = record { laid = tt; front = []; words = refl; cut = omega (arith, eqb-true q p b) }
boundary_suffix p q (r ∷ l) h b = go (eqb q p) refl b (boundary_suffix (p + size_of r) q l h.1)
  where
    go : (c : Bool) → eqb q p ≡ c → c || boundary q (p + size_of r) l ≡ true
        → (boundary q (p + size_of r) l ≡ true → Suffix (p + size_of r) q l (pick (λ r. leb q r.position) l))
        → Suffix p q (r ∷ l) (pick (λ r. leb q r.position) (r ∷ l))
    go true e x ih =
        subst (λ (z : ℕ). Suffix p z (r ∷ l) (pick (λ r. leb z r.position) (r ∷ l))) (sym (eqb-true q p e)) (suffix_whole p (r ∷ l) h)
    go false e x ih =
        let s = ih x in
        let after : r.position < q = omega (arith, boundary_from q (p + size_of r) l x, size_ge r) in
        rw (lt-leb q r.position after)
        (record {
          laid = s.laid;
          front = encode (record_of r) ++ s.front;
          words = rw (words_first, s.words, append_assoc);
          cut = omega (arith, length-append (encode (record_of r)) s.front, s.cut, size_is r);
        })
