-- A flush: the buffer's words, then the tail. The log reads the same before and after it, and no other disk is touched.
use Prim.Native.Nat.{ℕ, ◌+◌, ◌≤◌, ◌<◌}
use mathlib.Core.Path.{◌≡◌, refl, sym, ◌∙◌}
use mathlib.Core.List.{List, [], ◌∷◌, ◌++◌}
use native.Mathlib.Omega.{arith}
use native.Mathlib.Nat.{add-zero}
use native.Mathlib.Decide.{dec_lt}
use lib.ListN.{length, get_or, length-append}
use Rattle.model.specs.declared.Sizes.{Sizes}
use Rattle.model.specs.Sizes.{ring_of, disk_at, tail_word, ring_word}
use Rattle.model.specs.Record.{Record, encode_all}
use Rattle.model.specs.Decode.{read_log}
use Rattle.model.specs.Scan.{scan, placed}
use Rattle.model.specs.World.{World, store, logs, act, perform, each}
use Rattle.model.specs.Append.{store_log, store_all}
use Rattle.model.proofs.Run.{perform_append}
use Rattle.model.proofs.Reader.{Holds, holds_agree, read_ring_lem, read_buffer, read_same}
use Rattle.model.proofs.Scan.{scan_cong}
use Rattle.model.proofs.Ring.{lay_length, lay_keeps, lay_keeps_rings, lay_keeps_tails, lay_at, lay_after, tail_length, tail_here, tail_keeps_tails, tail_keeps_rings}
use Rattle.model.proofs.RoundTrip.{AllWellFormed, scan_log}

-- words stored, then the new tail
pub store_some : (s : Sizes) (d tail : ℕ) (xs : List ℕ) → 0 < length xs
    → store_all s d tail xs ≡ each (store_log s d) tail xs ++ store logs (tail_word s d) (tail + length xs) ∷ []
store_some s d tail [] h = absurd (omega arith)
store_some s d tail (x ∷ xs) h = refl

-- Stores on the logs leave the anchor, the backups and both memories.
pub record OnlyLogs (before after : World) : Type 0 where
  pub anchor_same : after.anchor ≡ before.anchor
  pub pages_same : after.pages ≡ before.pages
  pub backups_same : after.backups ≡ before.backups
  pub work_same : after.work ≡ before.work

store_only_logs : (w v : World) (i x : ℕ) → OnlyLogs w v → OnlyLogs w (act (store logs i x) v)
unfolding act
store_only_logs w v i x h =
    record { anchor_same = h.anchor_same; pages_same = h.pages_same; backups_same = h.backups_same; work_same = h.work_same }

pub none_changed : (w : World) → OnlyLogs w w
none_changed w = record { anchor_same = refl; pages_same = refl; backups_same = refl; work_same = refl }

pub lay_only : (s : Sizes) (d p : ℕ) (xs : List ℕ) (w : World) → OnlyLogs w (perform (each (store_log s d) p xs) w)
unfolding perform each
lay_only s d p xs w = go p xs w (none_changed w)
  where
    go : (p : ℕ) (xs : List ℕ) (v : World) → OnlyLogs w v → OnlyLogs w (perform (each (store_log s d) p xs) v)
    go p [] v h = h
    go p (x ∷ xs) v h = go (p + 1) xs _ (store_only_logs w v _ x h)

-- words stored on disk d at position p and onward, then its new tail
module _ (s : Sizes) (d : ℕ) where
  store_all_lem : (p x : ℕ) (xs : List ℕ) (w : World)
      → perform (store_all s d p (x ∷ xs)) w
      ≡ act (store logs (tail_word s d) (p + length (x ∷ xs))) (perform (each (store_log s d) p (x ∷ xs)) w)
  unfolding perform
  store_all_lem p x xs w = perform_append (each (store_log s d) p (x ∷ xs)) _ w

  pub flush_only_logs : (p : ℕ) (xs : List ℕ) (w : World) → OnlyLogs w (perform (store_all s d p xs) w)
  unfolding perform
  flush_only_logs p [] w = none_changed w
  flush_only_logs p (x ∷ xs) w =
      rw (store_all_lem p x xs w)
      (store_only_logs w _ _ _ (lay_only s d p (x ∷ xs) w))

  pub flush_length : (p : ℕ) (xs : List ℕ) (w : World) → length (perform (store_all s d p xs) w).logs ≡ length w.logs
  unfolding perform
  flush_length p [] w = refl
  flush_length p (x ∷ xs) w = rw (store_all_lem p x xs w) (tail_length s d _ _ ∙ lay_length s d p (x ∷ xs) w)

  -- the store of the tail changes no ring
  pub flush_rings : (p : ℕ) (xs : List ℕ) (w : World) (o q : ℕ) → 0 < ring_of s o
      → get_or (perform (store_all s d p xs) w).logs (ring_word s o q) 0
      ≡ get_or (perform (each (store_log s d) p xs) w).logs (ring_word s o q) 0
  unfolding perform each
  flush_rings p [] w o q n = refl
  flush_rings p (x ∷ xs) w o q n = rw (store_all_lem p x xs w) (tail_keeps_rings s d _ _ o q n)

  pub flush_keeps_rings : (p : ℕ) (xs : List ℕ) (w : World) (o q : ℕ) → (o ≡ d → ⊥) → 0 < ring_of s d → 0 < ring_of s o
      → get_or (perform (store_all s d p xs) w).logs (ring_word s o q) 0 ≡ get_or w.logs (ring_word s o q) 0
  flush_keeps_rings p xs w o q ne m n = flush_rings p xs w o q n ∙ lay_keeps_rings s d p xs w o q ne m n

  pub flush_keeps_tails : (p : ℕ) (xs : List ℕ) (w : World) (o : ℕ) → (o ≡ d → ⊥) → 0 < ring_of s d
      → get_or (perform (store_all s d p xs) w).logs (tail_word s o) 0 ≡ get_or w.logs (tail_word s o) 0
  unfolding perform
  flush_keeps_tails p [] w o ne m = refl
  flush_keeps_tails p (x ∷ xs) w o ne m =
      rw (store_all_lem p x xs w) (tail_keeps_tails s d _ _ o ne ∙ lay_keeps_tails s d p (x ∷ xs) w o m)

  -- the tail that it leaves is the end of the log
  pub flush_tail : (p : ℕ) (xs : List ℕ) (w : World) → disk_at s d + ring_of s d + 1 ≤ length w.logs
      → get_or w.logs (tail_word s d) 0 ≡ p → get_or (perform (store_all s d p xs) w).logs (tail_word s d) 0 ≡ p + length xs
  unfolding perform tail_word
  flush_tail p [] w fits e = e ∙ sym (add-zero p)
  flush_tail p (x ∷ xs) w fits e =
      rw (store_all_lem p x xs w)
      (tail_here s d _ _ (omega (arith, lay_length s d p (x ∷ xs) w)))

  -- the logs of other disks read the same
  pub flush_other_reads : (p : ℕ) (xs : List ℕ) (w : World) (o tail : ℕ) (buffer : List ℕ) (q : ℕ) → (o ≡ d → ⊥)
      → 0 < ring_of s d → 0 < ring_of s o
      → read_log s (perform (store_all s d p xs) w).logs o tail buffer q ≡ read_log s w.logs o tail buffer q
  flush_other_reads p xs w o tail buffer q ne m n = read_same s w.logs o tail buffer _ q (λ _. flush_keeps_rings p xs w o q ne m n)

  -- words stored from the tail on, without a new tail: the log reads as before at every position at most a ring before their end
  pub lay_reads : (tail : ℕ) (buffer xs : List ℕ) (w : World) (q : ℕ) → tail + length xs ≤ q + ring_of s d
      → read_log s (perform (each (store_log s d) tail xs) w).logs d tail buffer q ≡ read_log s w.logs d tail buffer q
  lay_reads tail buffer xs w q l = read_same s w.logs d tail buffer _ q (λ h. lay_keeps s d tail xs w q h l)

  -- a position at most a ring before the end of the log reads as before, whether its word was in the ring or in the buffer
  pub flush_reads : (tail : ℕ) (buffer : List ℕ) (w : World) (q : ℕ) → disk_at s d + ring_of s d + 1 ≤ length w.logs
      → q < tail + length buffer → tail + length buffer ≤ q + ring_of s d
      → read_log s (perform (store_all s d tail buffer) w).logs d (tail + length buffer) [] q ≡ read_log s w.logs d tail buffer q
  flush_reads tail buffer w q fits h l =
      read_ring_lem s _ d _ [] q h ∙ flush_rings tail buffer w d q (omega arith) ∙ go (dec_lt q tail)
    where
      go : Dec (q < tail)
          → get_or (perform (each (store_log s d) tail buffer) w).logs (ring_word s d q) 0 ≡ read_log s w.logs d tail buffer q
      go (yes k) = lay_keeps s d tail buffer w q k l ∙ sym (read_ring_lem s w.logs d tail buffer q k)
      go (no k) =
          let m : tail ≤ q = omega arith in
          lay_at s d tail buffer w q fits m h l ∙ sym (read_buffer s w.logs d tail buffer q m)

  -- so a retained log that the ring has room for gives the same scan
  pub flush_scan : (tail : ℕ) (buffer : List ℕ) (w : World) (start : ℕ) → disk_at s d + ring_of s d + 1 ≤ length w.logs
      → tail + length buffer ≤ start + ring_of s d
      → scan s (read_log s (perform (store_all s d tail buffer) w).logs d (tail + length buffer) []) (tail + length buffer) start
      ≡ scan s (read_log s w.logs d tail buffer) (tail + length buffer) start
  flush_scan tail buffer w start fits room =
      scan_cong s _ _ (tail + length buffer) start (λ q h l. flush_reads tail buffer w q fits l (omega arith))

  -- the words that the ring held, then the buffer's, are held
  pub flush_holds : (p tail : ℕ) (a b : List ℕ) (w : World) → disk_at s d + ring_of s d + 1 ≤ length w.logs
      → tail ≡ p + length a → length a + length b ≤ ring_of s d → Holds (λ q. get_or w.logs (ring_word s d q) 0) p a
      → Holds (λ q. get_or (perform (store_all s d tail b) w).logs (ring_word s d q) 0) p (a ++ b)
  flush_holds p tail a b w fits e room h =
      holds_agree _ _ p (a ++ b)
      (λ q l m. flush_rings tail b w d q (omega (arith, length-append a b))) (lay_after s d p tail a b w fits e room h)

  -- and the log is the records that the ring held, then those of the buffer, and no others
  pub flush_records : (p tail : ℕ) (rs more : List Record) (w : World) → AllWellFormed s rs → AllWellFormed s more
      → disk_at s d + ring_of s d + 1 ≤ length w.logs → tail ≡ p + length (encode_all rs)
      → length (encode_all rs) + length (encode_all more) ≤ ring_of s d
      → Holds (λ q. get_or w.logs (ring_word s d q) 0) p (encode_all rs)
      → scan s (read_log s (perform (store_all s d tail (encode_all more)) w).logs d (tail + length (encode_all more)) [])
      (tail + length (encode_all more)) p
      ≡ placed p (rs ++ more)
  flush_records p tail rs more w ok also fits e room h =
      flush_scan tail (encode_all more) w p fits (omega arith)
      ∙ scan_log s w.logs d p tail (tail + length (encode_all more)) rs more ok also h e refl
