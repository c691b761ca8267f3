-- The reference's write sets: what an empty set in front, a write added and a set removed change, and what they leave.
use mathlib.Core.Path.{◌≡◌, refl, sym, ◌∙◌}
use mathlib.Core.Logic.{◌≢◌}
use mathlib.Core.List.{List, [], ◌∷◌, ◌++◌}
use mathlib.Core.Bool.{true, false, true≢false, cond, not, ◌&&◌, ◌||◌, and-true, and-false, or-true, or-false}
use Prim.Native.Nat.{ℕ}
use native.Mathlib.Decide.{ℕ_discrete}
use lib.Dec.{eqb}
use borrow.Author.Tests.{eq-eqb, ne_eqb}
use Rattle.model.specs.Reference.{Write, WriteSet, writes_of, added, removed, has_set}

-- no transaction has two
abbrev pub Distinct : List WriteSet → Type 0
Distinct [] = Unit {0}
Distinct (x ∷ xs) = (has_set x.number xs ≡ false) × Distinct xs

-- the empty set of a new transaction
abbrev pub empty_set : ℕ → WriteSet
empty_set n = record { number = n; writes = [] }

-- two numbers are the same or not
cases : {P : Type 0} (a b : ℕ) → (a ≡ b → P) → (a ≢ b → P) → P
cases a b same other = elim (ℕ_discrete a b) [ yes e ↦ same e | no e ↦ other e ]

ne_sym : {a b : ℕ} → a ≢ b → b ≢ a
ne_sym other e = other (sym e)

-- a transaction without a set has no writes
pub writes_none : (n : ℕ) (sets : List WriteSet) → has_set n sets ≡ false → writes_of n sets ≡ []
unfolding has_set writes_of
writes_none n [] none = refl
writes_none n (x ∷ xs) none =
    cases x.number n (λ same. absurd (true≢false (rw (eq-eqb x.number n same) at none)))
    (λ other. rw (ne_eqb x.number n other) (writes_none n xs (rw (ne_eqb x.number n other) at none)))

-- An empty set in front.
module _ (n : ℕ) (sets : List WriteSet) where
  pub writes_front : writes_of n (empty_set n ∷ sets) ≡ []
  unfolding writes_of
  writes_front = rw (eq-eqb n n refl)

  pub writes_front_other : (m : ℕ) → m ≢ n → writes_of m (empty_set n ∷ sets) ≡ writes_of m sets
  unfolding writes_of
  writes_front_other m other = rw (ne_eqb n m (ne_sym other))

  pub has_front : has_set n (empty_set n ∷ sets) ≡ true
  unfolding has_set
  has_front = rw (eq-eqb n n refl)

  pub has_front_other : (m : ℕ) → m ≢ n → has_set m (empty_set n ∷ sets) ≡ has_set m sets
  unfolding has_set
  has_front_other m other = rw (ne_eqb n m (ne_sym other))

  pub distinct_front : has_set n sets ≡ false → Distinct sets → Distinct (empty_set n ∷ sets)
  distinct_front fresh distinct = (fresh, distinct)

-- A write added to a set.
module _ (n : ℕ) (e : Write) where
  pub writes_added : (sets : List WriteSet) → has_set n sets ≡ true → writes_of n (added n e sets) ≡ writes_of n sets ++ e ∷ []
  unfolding has_set writes_of added
  writes_added [] has = absurd (true≢false (sym has))
  writes_added (x ∷ xs) has =
      cases x.number n (λ same. rw (eq-eqb x.number n same, eq-eqb n n refl))
      (λ other. simp (ne_eqb x.number n other) (writes_added xs (rw (ne_eqb x.number n other) at has)))

  pub writes_added_other : (sets : List WriteSet) (m : ℕ) → m ≢ n → writes_of m (added n e sets) ≡ writes_of m sets
  unfolding writes_of added
  writes_added_other [] m h = refl
  writes_added_other (x ∷ xs) m h =
      cases x.number n (λ same. rw (eq-eqb x.number n same, same, ne_eqb n m (ne_sym h)))
      (λ other. rw (ne_eqb x.number n other, writes_added_other xs m h))

  -- who has a set does not change
  pub has_added : (sets : List WriteSet) (m : ℕ) → has_set m (added n e sets) ≡ has_set m sets
  unfolding has_set added
  has_added [] m = refl
  has_added (x ∷ xs) m =
      cases x.number n (λ same. rw (eq-eqb x.number n same, same))
      (λ other. rw (ne_eqb x.number n other, has_added xs m))

  pub distinct_added : (sets : List WriteSet) → Distinct sets → Distinct (added n e sets)
  unfolding added
  distinct_added [] distinct = distinct
  distinct_added (x ∷ xs) distinct =
      cases x.number n (λ same. rw (eq-eqb x.number n same) (rw same at distinct.0, distinct.1))
      (λ other. rw (ne_eqb x.number n other) (has_added xs x.number ∙ distinct.0, distinct_added xs distinct.1))

-- A set removed.
module _ (n : ℕ) where
  pub writes_removed_other : (sets : List WriteSet) (m : ℕ) → m ≢ n → writes_of m (removed n sets) ≡ writes_of m sets
  unfolding writes_of removed
  writes_removed_other [] m h = refl
  writes_removed_other (x ∷ xs) m h =
      cases x.number n (λ same. rw (eq-eqb x.number n same, same, ne_eqb n m (ne_sym h)))
      (λ other. rw (ne_eqb x.number n other, writes_removed_other xs m h))

  pub has_removed_other : (sets : List WriteSet) (m : ℕ) → m ≢ n → has_set m (removed n sets) ≡ has_set m sets
  unfolding has_set removed
  has_removed_other [] m h = refl
  has_removed_other (x ∷ xs) m h =
      cases x.number n (λ same. rw (eq-eqb x.number n same, same, ne_eqb n m (ne_sym h)))
      (λ other. rw (ne_eqb x.number n other, has_removed_other xs m h))

  pub has_removed : (sets : List WriteSet) → Distinct sets → has_set n (removed n sets) ≡ false
  unfolding has_set removed
  has_removed [] distinct = refl
  has_removed (x ∷ xs) distinct =
      cases x.number n (λ same. rw (eq-eqb x.number n same) (rw same at distinct.0))
      (λ other. simp (ne_eqb x.number n other) (has_removed xs distinct.1))

  pub distinct_removed : (sets : List WriteSet) → Distinct sets → Distinct (removed n sets)
  unfolding removed
  distinct_removed [] distinct = distinct
  distinct_removed (x ∷ xs) distinct =
      cases x.number n (λ same. rw (eq-eqb x.number n same) distinct.1)
      (λ other. rw (ne_eqb x.number n other) (has_removed_other xs x.number other ∙ distinct.0, distinct_removed xs distinct.1))

-- The same for any transaction at once, in the form of the ledger's steps.
pub front_writes : (n : ℕ) (sets : List WriteSet) (m : ℕ) → writes_of m (empty_set n ∷ sets) ≡ cond (eqb m n) [] (writes_of m sets)
front_writes n sets m =
    cases m n (λ same. rw (eq-eqb m n same, same) (writes_front n sets)) (λ other. rw (ne_eqb m n other) (writes_front_other n sets m other))

pub front_has : (n : ℕ) (sets : List WriteSet) (m : ℕ) → has_set m (empty_set n ∷ sets) ≡ has_set m sets || eqb m n
front_has n sets m =
    cases m n (λ same. rw (eq-eqb m n same, or-true, same) (has_front n sets))
    (λ other. rw (ne_eqb m n other, or-false) (has_front_other n sets m other))

pub added_writes : (n : ℕ) (e : Write) (sets : List WriteSet) → has_set n sets ≡ true → (m : ℕ)
    → writes_of m (added n e sets) ≡ cond (eqb m n) (writes_of m sets ++ e ∷ []) (writes_of m sets)
added_writes n e sets has m =
    cases m n (λ same. rw (eq-eqb m n same, same) (writes_added n e sets has))
    (λ other. rw (ne_eqb m n other) (writes_added_other n e sets m other))

pub removed_has : (n : ℕ) (sets : List WriteSet) → Distinct sets → (m : ℕ) → has_set m (removed n sets) ≡ has_set m sets && not (eqb m n)
removed_has n sets distinct m =
    cases m n (λ same. rw (eq-eqb m n same, and-false, same) (has_removed n sets distinct))
    (λ other. rw (ne_eqb m n other, and-true) (has_removed_other n sets m other))
