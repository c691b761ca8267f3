-- Words put into the buffer of a disk: one more entry is buffered, and nothing else in the memories changes.
use mathlib.Core.Path.{◌≡◌, refl, sym, ap, ◌∙◌}
use mathlib.Core.List.{List, [], ◌∷◌, ◌++◌, append-nil}
use Prim.Native.Nat.{ℕ, ◌+◌, ◌≤◌, ◌<◌}
use native.Mathlib.Omega.{arith}
use native.Mathlib.Decide.{ℕ_discrete, dec_lt}
use lib.ListN.{length, get_or, length-append}
use lib.Seq.{sets}
use Rattle.model.specs.declared.Sizes.{Sizes}
use Rattle.model.specs.declared.Logs.{Logs}
use Rattle.model.specs.Word.{part}
use Rattle.model.specs.Sizes.{total}
use Rattle.model.specs.Record.{encode}
use Rattle.model.specs.World.{World, perform}
use Rattle.model.specs.Memory.{buffer_at, buffer_of, copy_at, work_words, owner_at, owner_of, copy_of}
use Rattle.model.specs.State.{start_of, kept_of, tail_of, fill_of, with_fill}
use Rattle.model.specs.Causes.{tail_in}
use Rattle.model.specs.Append.{buffered}
use Rattle.model.proofs.Run.{perform_work}
use Rattle.model.proofs.Lengths.{Lengths}
use Rattle.model.proofs.Flush.{OnlyLogs}
use Rattle.model.proofs.Ledger.Entry.{Entry, record_of}
use Rattle.model.proofs.Ledger.Order.{size_of, words_of, on}
use Rattle.model.proofs.Ledger.Lists.{on_more, on_less, words_append, words_first, words_none}
use Rattle.model.proofs.Link.Words.{Arrays, Link}
use Rattle.model.proofs.Parts.{part_cong, get_or_sets_behind, part_sets_before, part_sets_behind, part_sets_end}
use Rattle.model.proofs.Growth.{Small, fill_set, fill_set_other}

-- Of the memories only the buffer of disk d is written; the anchor and the backups stay.
pub record InBuffer (s : Sizes) (d : ℕ) (before after : World) : Type 0 where
  pub anchor_same : after.anchor ≡ before.anchor
  pub pages_same : after.pages ≡ before.pages
  pub backups_same : after.backups ≡ before.backups
  pub work_behind : (i : ℕ) → buffer_at d + 64 ≤ i → get_or after.work i 0 ≡ get_or before.work i 0

-- so the owners and the copy numbers stay
module _ {s : Sizes} {d : ℕ} {before after : World} (k : InBuffer s d before after) (i : ℕ) where
  pub owners_same : d < s.disks → owner_of s after.work i ≡ owner_of s before.work i
  unfolding owner_of owner_at copy_at buffer_at
  owners_same below = k.work_behind _ (omega arith)

  pub copies_same : d < s.disks → copy_of s after.work i ≡ copy_of s before.work i
  unfolding copy_of copy_at buffer_at
  copies_same below = k.work_behind _ (omega arith)

-- stores on the logs before it change nothing of that
pub after_flush_lem : {s : Sizes} {d : ℕ} {first between after : World} → OnlyLogs first between → InBuffer s d between after
    → InBuffer s d first after
after_flush_lem only k =
    record {
      anchor_same = k.anchor_same ∙ only.anchor_same;
      pages_same = k.pages_same ∙ only.pages_same;
      backups_same = k.backups_same ∙ only.backups_same;
      work_behind = λ i h. k.work_behind i h ∙ ap (λ (x : List ℕ). get_or x i 0) only.work_same;
    }

pub put_in_buffer : (s : Sizes) (d : ℕ) (w : World) (n : ℕ) (words : List ℕ) → n + length words ≤ 64
    → InBuffer s d w (perform (buffered s d n words) w)
unfolding buffered
put_in_buffer s d w n words fits =
    rw (perform_work (buffer_at d + n) words w)
    (record {
      anchor_same = refl;
      pages_same = refl;
      backups_same = refl;
      work_behind = λ i h. get_or_sets_behind w.work (buffer_at d + n) words i (omega arith);
    })

-- The entry is behind the buffered ones.
module _ {s : Sizes} {l : Logs} {w : World} {F B : List Entry} (k : Link s l w F B) (right : Lengths s (total s) w) (a : Arrays s l)
    (small : Small s l) (d : ℕ) (below : d < s.disks) (r : Entry) (here : r.disk ≡ d)
    (n m : ℕ) (now : n ≡ fill_of l d) (next : m ≡ n + size_of r) (fits : m ≤ 64) where
  abbrev words : List ℕ
  words = encode (record_of r)

  abbrev filled : List ℕ
  filled = sets w.work (buffer_at d + n) words

  one_more_lem : words_of (r ∷ []) ≡ words
  one_more_lem = words_first r [] ∙ rw words_none (append-nil words)

  inside : buffer_at d + n + length words ≤ length w.work
  unfolding work_words owner_at copy_at buffer_at size_of
  inside = omega (arith, right.work)

  buffer_here : buffer_of filled d m ≡ words_of (on d B) ++ words
  unfolding buffer_of size_of
  buffer_here =
      let before : part (buffer_at d) n w.work ≡ words_of (on d B) = rw now (k.buffer d below) in
      rw next (part_sets_end (buffer_at d) n w.work words inside ∙ ap (λ (x : List ℕ). x ++ words) before)

  buffer_there : (e : ℕ) → e < s.disks → (e ≡ d → ⊥) → buffer_of filled e (fill_of l e) ≡ buffer_of w.work e (fill_of l e)
  unfolding buffer_of buffer_at size_of
  buffer_there e h ne = go (dec_lt e d)
    where
      go : Dec (e < d) → part (buffer_at e) (fill_of l e) filled ≡ part (buffer_at e) (fill_of l e) w.work
      go (yes less) = part_sets_before (buffer_at e) (fill_of l e) w.work (buffer_at d + n) words (omega (arith, small e h))
      go (no more) = part_sets_behind (buffer_at e) (fill_of l e) w.work (buffer_at d + n) words (omega (arith, ne))

  fill_here : fill_of (with_fill l d m) d ≡ m
  fill_here = fill_set l d m (omega (arith, a.sized.fills, a.disks))

  buffer_put : (e : ℕ) → e < s.disks → buffer_of filled e (fill_of (with_fill l d m) e) ≡ words_of (on e (B ++ r ∷ []))
  buffer_put e h = go (ℕ_discrete e d)
    where
      go : Dec (e ≡ d) → buffer_of filled e (fill_of (with_fill l d m) e) ≡ words_of (on e (B ++ r ∷ []))
      go (yes same) = rw (same, fill_here, on_more d B r here, words_append, one_more_lem) buffer_here
      go (no ne) =
          rw (fill_set_other l d m e ne, on_less e B r (λ x. ne (sym x ∙ here))) (buffer_there e h ne ∙ k.buffer e h)

  fill_put : (e : ℕ) → e < s.disks → fill_of (with_fill l d m) e ≡ length (words_of (on e (B ++ r ∷ [])))
  unfolding size_of
  fill_put e h = go (ℕ_discrete e d)
    where
      go : Dec (e ≡ d) → fill_of (with_fill l d m) e ≡ length (words_of (on e (B ++ r ∷ [])))
      go (yes same) =
          rw (same, fill_here, on_more d B r here, words_append, one_more_lem)
          (omega (arith, length-append (words_of (on d B)) words, k.fill d below))
      go (no ne) = rw (fill_set_other l d m e ne, on_less e B r (λ x. ne (sym x ∙ here))) (k.fill e h)

  pub put_link : Link s (with_fill l d m) (perform (buffered s d n words) w) F (B ++ r ∷ [])
  unfolding buffered tail_in kept_of start_of tail_of with_fill
  put_link =
      rw (perform_work (buffer_at d + n) words w)
      (record { held = k.held; tail = k.tail; stored = k.stored; buffer = buffer_put; fill = fill_put })

-- A world with the same logs and the same words in the buffers has the same entries.
module _ {s : Sizes} (l : Logs) {w v : World} (right : Lengths s (total s) w) (also : Lengths s (total s) v) (small : Small s l)
    (work_same : (i : ℕ) → i < buffer_at s.disks → get_or v.work i 0 ≡ get_or w.work i 0) where
  buffer_same : (e : ℕ) → e < s.disks → buffer_of v.work e (fill_of l e) ≡ buffer_of w.work e (fill_of l e)
  unfolding buffer_of buffer_at work_words owner_at copy_at
  buffer_same e h =
      let few = small e h in
      part_cong (buffer_at e) (fill_of l e) v.work w.work (omega (arith, also.work)) (omega (arith, right.work))
      (λ i x y. work_same i (omega arith))

  pub link_frame : {F B : List Entry} → v.logs ≡ w.logs → Link s l w F B → Link s l v F B
  unfolding tail_in
  link_frame logs_same k =
      record {
        held = rw logs_same k.held;
        tail = k.tail;
        stored = rw logs_same k.stored;
        buffer = λ e h. buffer_same e h ∙ k.buffer e h;
        fill = k.fill;
      }
