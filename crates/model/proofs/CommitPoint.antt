-- The commit point: a commit's last store is the tail word that first covers its commit record (specs/Promise.antt).
use mathlib.Core.Path.{◌≡◌, refl, sym, ap, ◌∙◌}
use mathlib.Core.List.{List, [], ◌∷◌, ◌++◌, append_assoc}
use mathlib.Core.Bool.{Bool, true, false, ◌&&◌}
use Prim.Native.Nat.{ℕ, ◌+◌, ◌-◌, ◌≤◌, ◌<◌}
use native.Mathlib.Omega.{arith}
use native.Mathlib.Decide.{dec_lt}
use native.Mathlib.Nat.{zero-add}
use lib.Dec.{ltb, eqb}
use lib.ListN.{length, length-append}
use borrow.Author.Tests.{ne_eqb, le-ltb, le-leb, lt-leb, leb-false}
use Rattle.model.specs.declared.Sizes.{Sizes}
use Rattle.model.specs.declared.Logs.{Logs}
use Rattle.model.specs.declared.Core.{Core}
use Rattle.model.specs.Sizes.{ring_of, tail_word, ring_word, total}
use Rattle.model.specs.Record.{close, encode, commit_kind}
use Rattle.model.specs.World.{World, Device, logs, work, Action, store, write, cost, perform, stores, covered, run, finishes, each}
use Rattle.model.specs.Memory.{buffer_at, buffer_of}
use Rattle.model.specs.State.{tail_of, fill_of, end_of, with_fill, after_flush, sound}
use Rattle.model.specs.Refusal.{verdict, accepted}
use Rattle.model.specs.Append.{store_log, store_all, flush, buffered, append}
use Rattle.model.specs.Transaction.{disk_of, commit_rows, commit_task}
use Rattle.model.specs.Reference.{Reference}
use Rattle.model.specs.Machine.{Machine}
use Rattle.model.specs.History.{Told}
use Rattle.model.specs.Promise.{Always, covers_commit, CommitPoint, CommitPoints}
use Rattle.model.proofs.Members.{Every, every_nil, every_cons, every_append}
use Rattle.model.proofs.Run.{perform_append, stores_append, run_append, run_cut, finished_run, perform_work, each_append}
use Rattle.model.proofs.Lengths.{Lengths, lengths_right_lem, length_buffer, buffer_fits}
use Rattle.model.proofs.Ring.{tail_ring_apart}
use Rattle.model.proofs.Link.Words.{Arrays, below_eight, arrays_flushed, ring_positive, lengths_perform}
use Rattle.model.proofs.Parts.{part_sets_end}
use Rattle.model.proofs.Flush.{store_some}
use Rattle.model.proofs.Growth.{fill_flushed, ends_flushed, fill_set}
use Rattle.model.proofs.Store.Rows.{serving_sound_lem}
use Rattle.model.proofs.Store.Holding.{Holding, served}
use Rattle.model.proofs.Sound.Lists.{sound_after}
use Rattle.model.proofs.PowerLoss.{holds_after}
use Rattle.model.proofs.Store.Accepted.{small_buffers, commit_accepted}

-- words one after the other, each put by an action with the property
every_each : (P : Action → Type 0) (put : ℕ → ℕ → Action) → ((i x : ℕ) → P (put i x)) → (i : ℕ) (xs : List ℕ) → Every P (each put i xs)
unfolding each
every_each P put one i [] = every_nil P
every_each P put one i (x ∷ xs) = every_cons P (put i x) (each put (i + 1) xs) (one i x) (every_each P put one (i + 1) xs)

-- Actions that store no tail of disk d above position p.
module _ (s : Sizes) (d p : ℕ) (ring : 0 < ring_of s d) where
  abbrev Uncovered : Action → Type 0
  Uncovered a = covers_commit s d p a ≡ false

  uncovered_ring : (i x : ℕ) → Uncovered (store_log s d i x)
  uncovered_ring i x = rw (ne_eqb (ring_word s d i) (tail_word s d) (λ e. tail_ring_apart s d d i ring (sym e)))

  uncovered_words : (i : ℕ) (xs : List ℕ) → Every Uncovered (each (store_log s d) i xs)
  uncovered_words i xs = every_each Uncovered (store_log s d) uncovered_ring i xs

  uncovered_buffer : (fill : ℕ) (xs : List ℕ) → Every Uncovered (buffered s d fill xs)
  unfolding buffered
  uncovered_buffer fill xs = every_each Uncovered (write work) (λ i x. refl) (buffer_at d + fill) xs

  low : (b : Bool) (x : ℕ) → x ≤ p → b && ltb p x ≡ false
  low true x h = le-ltb p x h
  low false x h = refl

  -- a flush up to p
  uncovered_all : (tail : ℕ) (xs : List ℕ) → tail + length xs ≤ p → Every Uncovered (store_all s d tail xs)
  uncovered_all tail [] h = every_nil Uncovered
  uncovered_all tail (x ∷ xs) h =
      every_append Uncovered (each (store_log s d) tail (x ∷ xs)) _ (uncovered_words tail (x ∷ xs))
      (every_cons Uncovered _ [] (low (eqb (tail_word s d) (tail_word s d)) (tail + length (x ∷ xs)) h) (every_nil Uncovered))

-- Words put into a buffer behind the n words that it has, and then the disk flushed: the buffered words are stored, then these, at the
-- end p of the log, and last the tail behind them.
module _ (s : Sizes) (l : Logs) (w : World) (d : ℕ) (words : List ℕ) (a : Arrays s l) (right : Lengths s (total s) w) (below : d < s.disks)
    (some : 0 < length words) (n m p : ℕ) (now : n ≡ fill_of l d) (next : m ≡ n + length words) (room : m ≤ 64) (at : p ≡ end_of l d) where
  abbrev old : List ℕ
  old = buffer_of w.work d n

  abbrev full : World
  full = perform (buffered s d n words) w

  old_length : length old ≡ n
  old_length = length_buffer w.work d n (buffer_fits s w d n right below (omega arith))

  buffer_now : buffer_of full.work d m ≡ old ++ words
  unfolding buffer_of buffered
  buffer_now =
      rw (perform_work (buffer_at d + n) words w, next)
      (part_sets_end (buffer_at d) n w.work words (omega (arith, buffer_fits s w d m right below room)))

  fill_now : fill_of (with_fill l d m) d ≡ m
  fill_now = fill_set l d m (omega (arith, a.sized.fills, a.disks))

  end_old : tail_of l d + length old ≡ p
  unfolding end_of
  end_old = omega (arith, old_length)

  tail_now : tail_of (with_fill l d m) d ≡ tail_of l d
  unfolding tail_of with_fill
  tail_now = refl

  put_flush : flush s (with_fill l d m) full.work d
      ≡ (each (store_log s d) (tail_of l d) old ++ each (store_log s d) p words) ++ store logs (tail_word s d) (p + length words) ∷ []
  unfolding flush
  put_flush =
      let long = length-append old words in
      let stop : tail_of l d + length (old ++ words) ≡ p + length words = omega (arith, end_old) in
      rw (fill_now, buffer_now, tail_now, store_some s d (tail_of l d) (old ++ words) (omega arith), each_append, stop, end_old)

-- A commit of transaction t, wherever its disk's log ends.
module _ (c : Core) (w : World) (t : ℕ) (a : Arrays c.sizes c.logs) (right : Lengths c.sizes (total c.sizes) w)
    (below : disk_of c t < c.sizes.disks) (small : fill_of c.logs (disk_of c t) ≤ 64) where
  abbrev s : Sizes
  s = c.sizes

  abbrev l : Logs
  l = c.logs

  abbrev d : ℕ
  d = disk_of c t

  abbrev p : ℕ
  p = end_of c.logs (disk_of c t)

  abbrev words : List ℕ
  words = encode (close commit_kind t)

  two : length words ≡ 2
  unfolding encode
  two = refl

  abbrev flushing : List Action
  flushing = flush s l w.work d

  ring : 0 < ring_of s d
  ring = ring_positive s d a.ring

  -- its actions, seen from their end
  point : (head : List Action) (tail : ℕ) (old : List ℕ) → Every (λ x. covers_commit s d p x ≡ false) head
      → (commit_task c w t).actions
      ≡ head ++ ((each (store_log s d) tail old ++ each (store_log s d) p words) ++ store logs (tail_word s d) (p + length words) ∷ [])
      → CommitPoint c w t
  point head tail old h e =
      record {
        before = head ++ (each (store_log s d) tail old ++ each (store_log s d) p words);
        last = e ∙ rw two (sym (append_assoc head _ _));
        uncovered =
            every_append _ head _ h
            (every_append _ (each (store_log s d) tail old) _ (uncovered_words s d p ring tail old) (uncovered_words s d p ring p words));
        earlier = head ++ each (store_log s d) tail old;
        stored = sym (append_assoc head _ _);
      }

  -- where the record fits the buffer
  fits : fill_of l d + 2 ≤ 64 → CommitPoint c w t
  unfolding commit_task append
  fits h =
      point (buffered s d (fill_of l d) words) (tail_of l d) (buffer_of w.work d (fill_of l d)) (uncovered_buffer s d p ring (fill_of l d) words)
      (rw (le-leb (fill_of l d + length words) 64 (omega (arith, two)))
      (ap (λ (x : List Action). buffered s d (fill_of l d) words ++ x)
      (put_flush s l w d words a right below (omega (arith, two)) (fill_of l d) (fill_of l d + length words) p refl refl (omega (arith, two)) refl)))

  -- a flush before the record is put: its tail is the record's position
  flushing_low : Every (λ x. covers_commit s d p x ≡ false) flushing
  unfolding flush end_of
  flushing_low =
      let long = length_buffer w.work d (fill_of l d) (buffer_fits s w d (fill_of l d) right below small) in
      uncovered_all s d p ring (tail_of l d) (buffer_of w.work d (fill_of l d)) (omega arith)

  -- where it does not, the buffer is flushed first, up to the record's position
  flushes : 64 < fill_of l d + 2 → CommitPoint c w t
  unfolding commit_task append
  flushes h =
      point (flushing ++ buffered s d 0 words) (tail_of (after_flush l d) d) (buffer_of (perform flushing w).work d 0)
      (every_append _ flushing _ flushing_low (uncovered_buffer s d p ring 0 words))
      (rw (lt-leb (fill_of l d + length words) 64 (omega (arith, two)), perform_append)
      (ap (λ (x : List Action). (flushing ++ buffered s d 0 words) ++ x)
      (put_flush s (after_flush l d) (perform flushing w) d words (arrays_flushed d a) (lengths_perform flushing right) below (omega (arith, two))
      0 (length words) p (sym (fill_flushed l d a.sized (below_eight a below))) (sym (zero-add (length words))) (omega (arith, two)) (sym (ends_flushed l d a.sized (below_eight a below) d)))))

  -- Its last store is the tail that first covers its record.
  pub commit_ends : CommitPoint c w t
  commit_ends = go (dec_lt 64 (fill_of l d + 2))
    where
      go : Dec (64 < fill_of l d + 2) → CommitPoint c w t
      go (yes h) = flushes h
      go (no h) = fits (omega arith)

-- The commit point, in every store that is reached: see specs/Promise.antt.
pub commit_point : CommitPoints
unfolding CommitPoints Always
commit_point m s budget formats events a = given _ _ _ (holds_after m s budget formats events a) (sound_after m s budget formats events).1
  where
    given : (puts : Told) (m : Machine) (r : Reference) → Holding puts m r → sound m.core ≡ true → (t : ℕ)
        → verdict (commit_rows m.core m.world t) ≡ accepted → CommitPoint m.core m.world t
    given puts m r h s t v =
        let a = commit_accepted m.core m.world t v in
        let g = served h a.serving in
        let below = g.serving.accounts.disks t a.opened in
        let devices = g.serving.safe.devices in
        commit_ends m.core m.world t devices.arrays (lengths_right_lem m.core.sizes (total m.core.sizes) m.world devices.lengths) below
        (small_buffers m.core (serving_sound_lem m.core a.serving s) (disk_of m.core t) below)

-- A list that ends with a store, cut: it is cut before that store.
cut_before : (budget : ℕ) (l : List Action) (device : Device) (i x : ℕ) (w : World) → finishes budget (l ++ store device i x ∷ []) ≡ false
    → run budget (l ++ store device i x ∷ []) w ≡ run budget l w
unfolding run perform covered finishes stores cost
cut_before budget l device i x w f = go (dec_lt budget (stores l))
  where
    less : budget < stores (l ++ store device i x ∷ [])
    less = leb-false _ _ f

    go : Dec (budget < stores l) → run budget (l ++ store device i x ∷ []) w ≡ run budget l w
    go (yes h) = run_cut budget l (store device i x ∷ []) w h
    go (no h) =
        let exact : budget - stores l ≡ 0 = omega (arith, less, stores_append l (store device i x ∷ [])) in
        rw (run_append budget l (store device i x ∷ []) w (omega arith), exact)
        (sym (finished_run budget l w (le-leb (stores l) budget (omega arith))))

-- So a commit that is cut made stores of `before` alone, of which none covers its record.
pub commit_cut_before : {c : Core} {w : World} {t : ℕ} (k : CommitPoint c w t) (budget : ℕ) → finishes budget (commit_task c w t).actions ≡ false
    → run budget (commit_task c w t).actions w ≡ run budget k.before w
commit_cut_before {c} {w} {t} k budget f = rw k.last (cut_before budget k.before logs _ _ w (rw k.last at f))
