-- Words stored on a disk at a position and onward: they stand there, across the ring's end too, and what else stood stays.
use Prim.Native.Nat.{ℕ, suc, ◌+◌, ◌-◌, ◌*◌, ◌%◌, ◌≤◌, ◌<◌}
use mathlib.Core.Path.{◌≡◌, refl, sym, ap, ◌∙◌}
use mathlib.Core.List.{List, [], ◌∷◌, ◌++◌}
use native.Mathlib.Omega.{arith}
use native.Mathlib.Nat.{mod-lt, mod-add-mod, mod-eq_of_lt, mod-eq-sub-mod, mul-le-mul_right, add-mul, one-mul}
use native.Mathlib.Decide.{dec_lt, ℕ_discrete}
use lib.ListN.{length, get_or, length-set}
use lib.Seq.{get_or-set_same, get_or-set_other}
use Rattle.model.specs.declared.Sizes.{Sizes}
use Rattle.model.specs.Sizes.{ring_of, disk_at, tail_word, ring_word, log_words}
use Rattle.model.specs.World.{World, store, logs, act, perform, each}
use Rattle.model.specs.Append.{store_log}
use Rattle.model.proofs.Reader.{Holds, holds_from, holds_agree, append_holds}

-- two positions less than a ring apart lie at two ring words
pub mod_apart : (p m n : ℕ) → 0 < m → m < n → p % n ≡ (p + m) % n → ⊥
mod_apart p m n pos less e = go (dec_lt (p % n + m) n)
  where
    same : (p % n + m) % n ≡ p % n
    same = mod-add-mod p n m ∙ sym e

    r : p % n < n
    r = mod-lt p (omega arith)

    go : Dec (p % n + m < n) → ⊥
    go (yes h) = omega (arith, sym (mod-eq_of_lt h) ∙ same)
    go (no h) =
        let l : n ≤ p % n + m = omega arith in
        let k : (p % n + m - n) % n ≡ p % n + m - n = mod-eq_of_lt (omega (arith, r)) in
        omega (arith, r, sym (mod-eq-sub-mod l) ∙ same)

-- where the words of the disks lie: no two of them share a place
module _ (s : Sizes) where
  -- a disk's words end where those of a later disk begin, or before
  pub disk_before : (d o : ℕ) → d < o → disk_at s d + ring_of s d + 1 ≤ disk_at s o
  unfolding disk_at ring_of
  disk_before d o h =
      let e : (d + 1) * (s.ring + 1) ≤ o * (s.ring + 1) = mul-le-mul_right (s.ring + 1) (omega arith) in
      omega (arith, rw (add-mul, one-mul) at e)

  -- and the words of the disks in use lie within the logs
  pub disk_within : (d : ℕ) → d < s.disks → disk_at s d + ring_of s d + 1 ≤ log_words s
  unfolding log_words
  disk_within d h = disk_before d s.disks h

  pub ring_word_ge : (d p : ℕ) → disk_at s d + 1 ≤ ring_word s d p
  unfolding ring_word
  ring_word_ge d p = omega arith

  pub ring_word_lt : (d p : ℕ) → 0 < ring_of s d → ring_word s d p < disk_at s d + ring_of s d + 1
  unfolding ring_word
  ring_word_lt d p pos = omega (arith, mod-lt p pos)

  -- positions of one disk that are less than a ring apart
  pub ring_words_apart : (d q p : ℕ) → q < p → p < q + ring_of s d → ring_word s d q ≡ ring_word s d p → ⊥
  unfolding ring_word
  ring_words_apart d q p h l e =
      mod_apart q (p - q) (ring_of s d) (omega arith) (omega arith) (same ∙ ap (λ (k : ℕ). k % ring_of s d) back)
    where
      same : q % ring_of s d ≡ p % ring_of s d
      same = omega arith

      back : p ≡ q + (p - q)
      back = omega arith

  -- a place in the words of disk d is in those of no other disk
  disk_places_apart : (d o i : ℕ) → (o ≡ d → ⊥) → disk_at s d ≤ i → i < disk_at s d + ring_of s d + 1
      → disk_at s o ≤ i → i < disk_at s o + ring_of s o + 1 → ⊥
  disk_places_apart d o i ne a b c e = go (dec_lt d o)
    where
      go : Dec (d < o) → ⊥
      go (yes h) = omega (arith, disk_before d o h)
      go (no h) =
          let l : o < d = omega (arith, ne) in
          omega (arith, disk_before o d l)

  pub rings_apart : (d o p q : ℕ) → (o ≡ d → ⊥) → 0 < ring_of s d → 0 < ring_of s o → ring_word s o q ≡ ring_word s d p → ⊥
  rings_apart d o p q ne m n e =
      disk_places_apart d o (ring_word s d p) ne (omega (arith, ring_word_ge d p)) (ring_word_lt d p m)
      (omega (arith, ring_word_ge o q)) (omega (arith, ring_word_lt o q n))

  pub tails_apart : (d o : ℕ) → (o ≡ d → ⊥) → tail_word s o ≡ tail_word s d → ⊥
  unfolding tail_word
  tails_apart d o ne e =
      disk_places_apart d o (disk_at s d) ne (omega arith) (omega arith) (omega arith) (omega arith)

  pub tail_ring_apart : (d o p : ℕ) → 0 < ring_of s d → tail_word s o ≡ ring_word s d p → ⊥
  unfolding tail_word
  tail_ring_apart d o p m e = go (ℕ_discrete o d)
    where
      go : Dec (o ≡ d) → ⊥
      go (yes same) = omega (arith, ring_word_ge d p, ap (disk_at s) same)
      go (no ne) =
          disk_places_apart d o (ring_word s d p) ne (omega (arith, ring_word_ge d p)) (ring_word_lt d p m)
          (omega arith) (omega arith)

-- words stored on disk d at position p and onward
module _ (s : Sizes) (d : ℕ) where
  pub lay_length : (p : ℕ) (xs : List ℕ) (w : World) → length (perform (each (store_log s d) p xs) w).logs ≡ length w.logs
  unfolding perform each act
  lay_length p [] w = refl
  lay_length p (x ∷ xs) w = lay_length (p + 1) xs _ ∙ simp length-set

  -- a place that is none of theirs keeps its word
  pub lay_elsewhere : (p : ℕ) (xs : List ℕ) (w : World) (i : ℕ)
      → ((q : ℕ) → p ≤ q → q < p + length xs → i ≡ ring_word s d q → ⊥)
      → get_or (perform (each (store_log s d) p xs) w).logs i 0 ≡ get_or w.logs i 0
  unfolding perform each act
  lay_elsewhere p [] w i apart = refl
  lay_elsewhere p (x ∷ xs) w i apart =
      lay_elsewhere (p + 1) xs _ i (λ q h l. apart q (omega arith) (omega arith))
      ∙ get_or-set_other w.logs (ring_word s d p) i x 0 (apart p (omega arith) (omega arith))

  -- a position before them, at most a ring before their end, keeps its word
  pub lay_keeps : (p : ℕ) (xs : List ℕ) (w : World) (q : ℕ) → q < p → p + length xs ≤ q + ring_of s d
      → get_or (perform (each (store_log s d) p xs) w).logs (ring_word s d q) 0 ≡ get_or w.logs (ring_word s d q) 0
  lay_keeps p xs w q h l =
      lay_elsewhere p xs w (ring_word s d q) (λ r a b. ring_words_apart s d q r (omega arith) (omega arith))

  pub lay_keeps_rings : (p : ℕ) (xs : List ℕ) (w : World) (o q : ℕ) → (o ≡ d → ⊥) → 0 < ring_of s d → 0 < ring_of s o
      → get_or (perform (each (store_log s d) p xs) w).logs (ring_word s o q) 0 ≡ get_or w.logs (ring_word s o q) 0
  lay_keeps_rings p xs w o q ne m n = lay_elsewhere p xs w (ring_word s o q) (λ r a b. rings_apart s d o r q ne m n)

  -- every disk keeps its tail, disk d too
  pub lay_keeps_tails : (p : ℕ) (xs : List ℕ) (w : World) (o : ℕ) → 0 < ring_of s d
      → get_or (perform (each (store_log s d) p xs) w).logs (tail_word s o) 0 ≡ get_or w.logs (tail_word s o) 0
  lay_keeps_tails p xs w o m = lay_elsewhere p xs w (tail_word s o) (λ r a b. tail_ring_apart s d o r m)

  -- each of them stands at its position, if not more than a ring of them follow
  pub lay_at : (p : ℕ) (xs : List ℕ) (w : World) (q : ℕ) → disk_at s d + ring_of s d + 1 ≤ length w.logs
      → p ≤ q → q < p + length xs → p + length xs ≤ q + ring_of s d
      → get_or (perform (each (store_log s d) p xs) w).logs (ring_word s d q) 0 ≡ get_or xs (q - p) 0
  unfolding perform each act
  lay_at p [] w q fits h l r = absurd (omega arith)
  lay_at p (x ∷ xs) w q fits h l r =
      go (dec_lt p q) (λ k. lay_at (p + 1) xs _ q (simp length-set fits) (omega arith) (omega arith) (omega arith))
    where
      after : World
      after = act (store_log s d p x) w

      go : Dec (p < q)
          → (p < q → get_or (perform (each (store_log s d) (p + 1) xs) after).logs (ring_word s d q) 0 ≡ get_or xs (q - (p + 1)) 0)
          → get_or (perform (each (store_log s d) (p + 1) xs) after).logs (ring_word s d q) 0 ≡ get_or (x ∷ xs) (q - p) 0
      go (yes k) ih =
          let e : q - p ≡ suc (q - (p + 1)) = omega arith in
          rw e (ih k)
      go (no k) ih =
          let e : q - p ≡ 0 = omega arith in
          let z : q ≡ p = omega arith in
          rw (e, z)
          (lay_keeps (p + 1) xs after p (omega arith) (omega arith)
          ∙ get_or-set_same w.logs (ring_word s d p) x 0 (omega (arith, ring_word_lt s d p (omega arith))))

  -- words that the ring has room for are held from p on
  pub lay_holds : (p : ℕ) (xs : List ℕ) (w : World) → disk_at s d + ring_of s d + 1 ≤ length w.logs → length xs ≤ ring_of s d
      → Holds (λ q. get_or (perform (each (store_log s d) p xs) w).logs (ring_word s d q) 0) p xs
  lay_holds p xs w fits room = holds_from _ p xs (λ q h l. lay_at p xs w q fits h l (omega arith))

  -- words stored after others that the ring holds: all of them are held
  pub lay_after : (p q : ℕ) (a b : List ℕ) (w : World) → disk_at s d + ring_of s d + 1 ≤ length w.logs
      → q ≡ p + length a → length a + length b ≤ ring_of s d → Holds (λ r. get_or w.logs (ring_word s d r) 0) p a
      → Holds (λ r. get_or (perform (each (store_log s d) q b) w).logs (ring_word s d r) 0) p (a ++ b)
  lay_after p q a b w fits e room h =
      append_holds _ p a b (holds_agree _ _ p a (λ r l m. lay_keeps q b w r (omega arith) (omega arith)) h)
      (rw (← e) (lay_holds q b w fits (omega arith)))

-- the store of disk d's tail
module _ (s : Sizes) (d v : ℕ) (w : World) where
  pub tail_length : length (act (store logs (tail_word s d) v) w).logs ≡ length w.logs
  unfolding act
  tail_length = simp length-set

  pub tail_here : tail_word s d < length w.logs → get_or (act (store logs (tail_word s d) v) w).logs (tail_word s d) 0 ≡ v
  unfolding act
  tail_here h = get_or-set_same w.logs (tail_word s d) v 0 h

  pub tail_keeps_tails : (o : ℕ) → (o ≡ d → ⊥)
      → get_or (act (store logs (tail_word s d) v) w).logs (tail_word s o) 0 ≡ get_or w.logs (tail_word s o) 0
  unfolding act
  tail_keeps_tails o ne = get_or-set_other w.logs (tail_word s d) (tail_word s o) v 0 (tails_apart s d o ne)

  -- every ring keeps its words, that of disk d too
  pub tail_keeps_rings : (o q : ℕ) → 0 < ring_of s o
      → get_or (act (store logs (tail_word s d) v) w).logs (ring_word s o q) 0 ≡ get_or w.logs (ring_word s o q) 0
  unfolding act
  tail_keeps_rings o q n =
      get_or-set_other w.logs (tail_word s d) (ring_word s o q) v 0 (λ e. tail_ring_apart s o d q n (sym e))
