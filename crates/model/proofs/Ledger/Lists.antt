-- Lists of entries: what a test picks of a joined or a picked list, and what a disk's flush moves from one list to the other.
use mathlib.Core.Path.{◌≡◌, refl, sym, ap, ◌∙◌}
use mathlib.Core.List.{List, [], ◌∷◌, ◌++◌, append_assoc, append-nil, map-append}
use mathlib.Core.Bool.{Bool, true, false, not, ◌||◌, or-true, cond, ◌&&◌}
use Prim.Native.Nat.{ℕ, ◌+◌}
use native.Mathlib.Decide.{ℕ_discrete}
use lib.ListN.{length, length-append}
use borrow.Author.Tests.{eqb-true, eq-eqb, ne_eqb, not-true}
use lib.Dec.{eqb}
use Rattle.model.specs.Record.{encode, encode_all}
use Rattle.model.proofs.RoundTrip.{encode_append}
use Rattle.model.proofs.Ledger.Entry.{Entry, record_of, some, All, pick, closed_in, on_disk, sum, is_close}
use Rattle.model.proofs.Ledger.Order.{size_of, words_of, on}
use Rattle.model.proofs.Ledger.Sums.{all_append, all_right, sum_append}
use Rattle.model.proofs.Ledger.Picks.{all_pick, some_append, sum_pick}
use Rattle.model.proofs.Booleans.{true_false}

module _ {A : Type 0} where
  pub all_left : (P : A → Type 0) (l m : List A) → All P (l ++ m) → All P l
  all_left P [] m h = tt
  all_left P (r ∷ l) m h = (h.0, all_left P l m h.1)

  pub pick_append : (p : A → Bool) (l m : List A) → pick p (l ++ m) ≡ pick p l ++ pick p m
  unfolding pick
  pick_append p [] m = refl
  pick_append p (r ∷ l) m = go (p r) (pick_append p l m)
    where
      go : (b : Bool) → pick p (l ++ m) ≡ pick p l ++ pick p m
          → cond b (r ∷ pick p (l ++ m)) (pick p (l ++ m)) ≡ cond b (r ∷ pick p l) (pick p l) ++ pick p m
      go true e = ap (λ (x : List A). r ∷ x) e
      go false e = e

  -- a test that all pass picks the whole list
  pub pick_whole : (p : A → Bool) (l : List A) → All (λ r. p r ≡ true) l → pick p l ≡ l
  unfolding pick
  pick_whole p [] h = refl
  pick_whole p (r ∷ l) h = rw h.0 (ap (λ (x : List A). r ∷ x) (pick_whole p l h.1))

  -- a pick of a pick, where what passes the second test passed the first
  pub pick_keeps : (p q : A → Bool) → ((r : A) → q r ≡ true → p r ≡ true) → (l : List A) → pick q (pick p l) ≡ pick q l
  unfolding pick
  pick_keeps p q h [] = refl
  pick_keeps p q h (r ∷ l) = go (p r) (q r) refl refl (pick_keeps p q h l)
    where
      go : (a b : Bool) → p r ≡ a → q r ≡ b → pick q (pick p l) ≡ pick q l
          → pick q (cond a (r ∷ pick p l) (pick p l)) ≡ cond b (r ∷ pick q l) (pick q l)
      go true true x y e = rw y (ap (λ (m : List A). r ∷ m) e)
      go true false x y e = rw y e
      go false true x y e = true_false (h r y) x
      go false false x y e = e

  -- and where what passed the first test fails the second
  pub pick_none : (p q : A → Bool) → ((r : A) → p r ≡ true → q r ≡ false) → (l : List A) → pick q (pick p l) ≡ []
  unfolding pick
  pick_none p q h [] = refl
  pick_none p q h (r ∷ l) = go (p r) refl (pick_none p q h l)
    where
      go : (a : Bool) → p r ≡ a → pick q (pick p l) ≡ [] → pick q (cond a (r ∷ pick p l) (pick p l)) ≡ []
      go true x e = rw (h r x) e
      go false x e = e

  -- two picks in either order; the second test has to agree only on what passes the first
  pub pick_swap : (p q k : A → Bool) → ((r : A) → p r ≡ true → q r ≡ k r) → (l : List A) → pick p (pick q l) ≡ pick k (pick p l)
  unfolding pick
  pick_swap p q k h [] = refl
  pick_swap p q k h (r ∷ l) = go (p r) (q r) (k r) refl refl refl (pick_swap p q k h l)
    where
      go : (a b c : Bool) → p r ≡ a → q r ≡ b → k r ≡ c → pick p (pick q l) ≡ pick k (pick p l)
          → pick p (cond b (r ∷ pick q l) (pick q l)) ≡ pick k (cond a (r ∷ pick p l) (pick p l))
      go true true true x y z e = rw (x, z) (ap (λ (m : List A). r ∷ m) e)
      go true true false x y z e = true_false y (h r x ∙ z)
      go true false true x y z e = true_false z (sym (h r x) ∙ y)
      go true false false x y z e = rw z e
      go false true c x y z e = rw x e
      go false false c x y z e = e

  -- a property of what was picked, as a property of the whole list
  pub pick_only : (P : A → Type 0) (p : A → Bool) (l : List A) → All P (pick p l) → All (λ r. p r ≡ true → P r) l
  unfolding pick
  pick_only P p [] h = tt
  pick_only P p (r ∷ l) h = go (p r) refl h (pick_only P p l)
    where
      go : (b : Bool) → p r ≡ b → All P (cond b (r ∷ pick p l) (pick p l)) → (All P (pick p l) → All (λ r. p r ≡ true → P r) l)
          → (p r ≡ true → P r) × All (λ r. p r ≡ true → P r) l
      go true e x ih = ((λ z. x.0), ih x.1)
      go false e x ih = ((λ z. true_false z e), ih x)

  -- a flush moves what the test picks of the second list to the end of the first
  pub all_flush : (P : A → Type 0) (p : A → Bool) (F B : List A) → All P (F ++ B) → All P ((F ++ pick p B) ++ pick (λ r. not (p r)) B)
  all_flush P p F B h =
      all_append P (F ++ pick p B) (pick (λ r. not (p r)) B)
      (all_append P F (pick p B) (all_left P F B h) (all_pick P p B (all_right P F B h)))
      (all_pick P (λ r. not (p r)) B (all_right P F B h))

  pub some_halves : (q p : A → Bool) (l : List A) → (some q (pick p l) || some q (pick (λ r. not (p r)) l)) ≡ some q l
  unfolding some pick
  some_halves q p [] = refl
  some_halves q p (r ∷ l) = go (p r) (q r) refl (some_halves q p l)
    where
      go : (a b : Bool) → q r ≡ b → (some q (pick p l) || some q (pick (λ r. not (p r)) l)) ≡ some q l
          → (some q (cond a (r ∷ pick p l) (pick p l)) || some q (cond (not a) (r ∷ pick (λ r. not (p r)) l) (pick (λ r. not (p r)) l))) ≡ (b || some q l)
      go true true x e = rw x
      go true false x e = rw x e
      go false true x e = rw x (or-true (some q (pick p l)))
      go false false x e = rw x e

  -- what passes one test, picked by another that it passes too
  pub some_pick : (q p : A → Bool) (l : List A) → All (λ r. q r ≡ true → p r ≡ true) l → some q (pick p l) ≡ some q l
  unfolding some pick
  some_pick q p [] h = refl
  some_pick q p (r ∷ l) h = go (p r) (q r) refl refl (some_pick q p l h.1)
    where
      go : (a b : Bool) → p r ≡ a → q r ≡ b → some q (pick p l) ≡ some q l → some q (cond a (r ∷ pick p l) (pick p l)) ≡ (b || some q l)
      go true b x y e = rw (y, e)
      go false true x y e = true_false (h.0 y) x
      go false false x y e = e

-- entries moved from the second list to the end of the first: what some of them pass, their closing records, and their sums
pub some_flush : (q p : Entry → Bool) (F B : List Entry) → some q ((F ++ pick p B) ++ pick (λ r. not (p r)) B) ≡ some q (F ++ B)
some_flush q p F B = simp (append_assoc, some_append, some_halves)

pub closed_flush : (p : Entry → Bool) (F B : List Entry) (t : ℕ)
    → closed_in ((F ++ pick p B) ++ pick (λ r. not (p r)) B) t ≡ closed_in (F ++ B) t
unfolding closed_in
closed_flush p F B t = some_flush (λ r. is_close r && eqb r.number t) p F B

pub sum_flush : (p : Entry → Bool) (f : Entry → ℕ) (F B : List Entry) → sum f ((F ++ pick p B) ++ pick (λ q. not (p q)) B) ≡ sum f (F ++ B)
sum_flush p f F B = simp (append_assoc, sum_append, sum_pick)

-- The entries of one disk.
pub on_append : (d : ℕ) (l m : List Entry) → on d (l ++ m) ≡ on d l ++ on d m
unfolding on
on_append d l m = pick_append (on_disk d) l m

-- one more entry, on the disk and on another
module _ (d : ℕ) (l : List Entry) (r : Entry) where
  pub on_more : r.disk ≡ d → on d (l ++ r ∷ []) ≡ on d l ++ r ∷ []
  unfolding on pick on_disk
  on_more e = pick_append (on_disk d) l (r ∷ []) ∙ rw (eq-eqb r.disk d e)

  pub on_less : (r.disk ≡ d → ⊥) → on d (l ++ r ∷ []) ≡ on d l
  unfolding on pick on_disk
  on_less ne = pick_append (on_disk d) l (r ∷ []) ∙ rw (ne_eqb r.disk d ne) (append-nil (on d l))

  pub off_more : r.disk ≡ d → pick (λ q. not (on_disk d q)) (l ++ r ∷ []) ≡ pick (λ q. not (on_disk d q)) l
  unfolding pick on_disk
  off_more e = pick_append (λ q. not (on_disk d q)) l (r ∷ []) ∙ rw (eq-eqb r.disk d e) (append-nil _)

-- a flush of disk d, as its entries and those of another disk e show it
module _ (d : ℕ) (F B : List Entry) where
  pub on_flushed : on d (F ++ on d B) ≡ on d F ++ on d B
  unfolding on
  on_flushed = pick_append (on_disk d) F (pick (on_disk d) B) ∙ rw (pick_keeps (on_disk d) (on_disk d) (λ r x. x) B)

  pub on_emptied : on d (pick (λ r. not (on_disk d r)) B) ≡ []
  unfolding on
  on_emptied = pick_none (λ r. not (on_disk d r)) (on_disk d) (λ r x. not-true (on_disk d r) x) B

  module _ (e : ℕ) (ne : e ≡ d → ⊥) where
    other : (r : Entry) → on_disk d r ≡ true → on_disk e r ≡ false
    unfolding on_disk
    other r x = ne_eqb r.disk e (λ y. ne (sym y ∙ eqb-true r.disk d x))

    another : (r : Entry) → on_disk e r ≡ true → not (on_disk d r) ≡ true
    unfolding on_disk
    another r x = rw (ne_eqb r.disk d (λ y. ne (sym (eqb-true r.disk e x) ∙ y)))

    pub on_other_flushed : on e (F ++ on d B) ≡ on e F
    unfolding on
    on_other_flushed =
        pick_append (on_disk e) F (pick (on_disk d) B) ∙ rw (pick_none (on_disk d) (on_disk e) other B) (append-nil (pick (on_disk e) F))

    pub on_other_left : on e (pick (λ r. not (on_disk d r)) B) ≡ on e B
    unfolding on
    on_other_left = pick_keeps (λ r. not (on_disk d r)) (on_disk e) another B

  -- each disk has the same entries, flushed and buffered together
  pub on_flush : (e : ℕ) → on e (F ++ on d B) ++ on e (pick (λ r. not (on_disk d r)) B) ≡ on e F ++ on e B
  on_flush e = go (ℕ_discrete e d)
    where
      go : Dec (e ≡ d) → on e (F ++ on d B) ++ on e (pick (λ r. not (on_disk d r)) B) ≡ on e F ++ on e B
      go (yes same) = rw (same, on_flushed, on_emptied) (append-nil (on d F ++ on d B))
      go (no ne) = rw (on_other_flushed e ne, on_other_left e ne)

-- The words of entries.
pub words_append : (l m : List Entry) → words_of (l ++ m) ≡ words_of l ++ words_of m
unfolding words_of
words_append l m = rw (map-append, encode_append)

pub words_first : (r : Entry) (l : List Entry) → words_of (r ∷ l) ≡ encode (record_of r) ++ words_of l
unfolding words_of encode_all
words_first r l = refl

pub words_none : words_of [] ≡ []
unfolding words_of encode_all
words_none = refl

pub length_words : (r : Entry) (l : List Entry) → length (words_of (r ∷ l)) ≡ size_of r + length (words_of l)
unfolding size_of
length_words r l = rw words_first (length-append (encode (record_of r)) (words_of l))

pub length_words_append : (l m : List Entry) → length (words_of (l ++ m)) ≡ length (words_of l) + length (words_of m)
length_words_append l m = rw words_append (length-append (words_of l) (words_of m))
