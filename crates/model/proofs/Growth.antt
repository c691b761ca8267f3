-- Logs that grow on one disk: a flush moves its tail to its end, words are put into its buffer, an append is one or both of these.
use mathlib.Core.Path.{◌≡◌, refl, ◌∙◌}
use mathlib.Core.List.{List}
use mathlib.Core.Bool.{Bool, true, false}
use Prim.Native.Nat.{ℕ, ◌+◌, ◌≤◌, ◌<◌}
use native.Mathlib.Omega.{arith}
use native.Mathlib.Decide.{ℕ_discrete}
use native.Mathlib.Nat.{zero-add}
use lib.Dec.{leb}
use lib.ListN.{length, length-set, get_or-replicate}
use lib.Seq.{get_or-set_same, get_or-set_other}
use borrow.Author.Tests.{leb-true}
use Rattle.model.specs.declared.Sizes.{Sizes}
use Rattle.model.specs.declared.Logs.{Logs}
use Rattle.model.specs.State.{start_of, kept_of, tail_of, fill_of, end_of, with_fill, after_flush, empty_logs}
use Rattle.model.specs.Append.{append_if, append}

-- a number for each of eight disks
pub record SizedLogs (l : Logs) : Type 0 where
  pub starts : length l.starts ≡ 8
  pub tails : length l.tails ≡ 8
  pub fills : length l.fills ≡ 8

-- every buffer has at most its 64 words
abbrev pub Small : Sizes → Logs → Type 0
Small s l = (e : ℕ) → e < s.disks → fill_of l e ≤ 64

-- empty logs have nothing in their buffers
pub none_buffered : (tails : List ℕ) (d : ℕ) → d < 8 → fill_of (empty_logs tails) d ≡ 0
unfolding fill_of
none_buffered tails d h = get_or-replicate 8 d 0 0 h

-- a log's tail lies before its end
pub tail_end : (l : Logs) (d : ℕ) → tail_of l d ≤ end_of l d
unfolding end_of
tail_end l d = omega arith

-- The ring is kept from the log's start on. What rests on this cites the first law, or only the second, which is enough where words
-- before the start may be kept too.
pub kept_start : (l : Logs) (d : ℕ) → kept_of l d ≡ start_of l d
unfolding kept_of
kept_start l d = refl

pub kept_le : (l : Logs) (d : ℕ) → kept_of l d ≤ start_of l d
kept_le l d = omega (arith, kept_start l d)

-- A flush: the disk's tail moves to its end and its buffer is empty; the others stay.
module _ (l : Logs) (d : ℕ) where
  pub start_flushed : (e : ℕ) → start_of (after_flush l d) e ≡ start_of l e
  unfolding start_of after_flush
  start_flushed e = refl

  pub kept_flushed : (e : ℕ) → kept_of (after_flush l d) e ≡ kept_of l e
  unfolding kept_of start_of after_flush
  kept_flushed e = refl

  pub tail_flushed_other : (e : ℕ) → (e ≡ d → ⊥) → tail_of (after_flush l d) e ≡ tail_of l e
  unfolding tail_of after_flush
  tail_flushed_other e ne = get_or-set_other l.tails d e (end_of l d) 0 ne

  pub fill_flushed_other : (e : ℕ) → (e ≡ d → ⊥) → fill_of (after_flush l d) e ≡ fill_of l e
  unfolding fill_of after_flush
  fill_flushed_other e ne = get_or-set_other l.fills d e 0 0 ne

  pub sized_flushed : SizedLogs l → SizedLogs (after_flush l d)
  unfolding after_flush
  sized_flushed k = record { starts = k.starts; tails = simp length-set k.tails; fills = simp length-set k.fills }

  module _ (sized : SizedLogs l) (below : d < 8) where
    pub tail_flushed : tail_of (after_flush l d) d ≡ end_of l d
    unfolding tail_of after_flush
    tail_flushed = get_or-set_same l.tails d (end_of l d) 0 (omega (arith, sized.tails))

    pub fill_flushed : fill_of (after_flush l d) d ≡ 0
    unfolding fill_of after_flush
    fill_flushed = get_or-set_same l.fills d 0 0 (omega (arith, sized.fills))

    -- every disk's end stays where it is
    pub ends_flushed : (e : ℕ) → end_of (after_flush l d) e ≡ end_of l e
    unfolding end_of
    ends_flushed e = go (ℕ_discrete e d)
      where
        go : Dec (e ≡ d) → tail_of (after_flush l d) e + fill_of (after_flush l d) e ≡ tail_of l e + fill_of l e
        go (yes same) = rw same (omega (arith, tail_flushed, fill_flushed))
        go (no ne) = rw (tail_flushed_other e ne, fill_flushed_other e ne)

-- the fill set
pub fill_set : (l : Logs) (d n : ℕ) → d < length l.fills → fill_of (with_fill l d n) d ≡ n
unfolding fill_of with_fill
fill_set l d n h = get_or-set_same l.fills d n 0 h

pub fill_set_other : (l : Logs) (d n e : ℕ) → (e ≡ d → ⊥) → fill_of (with_fill l d n) e ≡ fill_of l e
unfolding fill_of with_fill
fill_set_other l d n e ne = get_or-set_other l.fills d e n 0 ne

-- The starts stay, the tails move up at most, the end of disk d moves up by n words and the other disks stay.
pub record Longer (s : Sizes) (d n : ℕ) (before after : Logs) : Type 0 where
  pub start_same : (e : ℕ) → start_of after e ≡ start_of before e
  pub kept_same : (e : ℕ) → kept_of after e ≡ kept_of before e
  pub tail_up : (e : ℕ) → tail_of before e ≤ tail_of after e
  pub tail_same : (e : ℕ) → (e ≡ d → ⊥) → tail_of after e ≡ tail_of before e
  pub fill_same : (e : ℕ) → (e ≡ d → ⊥) → fill_of after e ≡ fill_of before e
  pub end_longer : end_of after d ≡ end_of before d + n
  pub small : Small s after
  pub sized : SizedLogs after

module _ {s : Sizes} {d : ℕ} where
  pub longer_none : (l : Logs) → SizedLogs l → Small s l → Longer s d 0 l l
  longer_none l sized small =
      record {
        start_same = λ e. refl;
        kept_same = λ e. refl;
        tail_up = λ e. omega arith;
        tail_same = λ e ne. refl;
        fill_same = λ e ne. refl;
        end_longer = omega arith;
        small = small;
        sized = sized;
      }

  pub longer_then : {m n : ℕ} {before between after : Logs} → Longer s d m before between → Longer s d n between after
      → Longer s d (m + n) before after
  longer_then g h =
      record {
        start_same = λ e. h.start_same e ∙ g.start_same e;
        kept_same = λ e. h.kept_same e ∙ g.kept_same e;
        tail_up = λ e. omega (arith, g.tail_up e, h.tail_up e);
        tail_same = λ e ne. h.tail_same e ne ∙ g.tail_same e ne;
        fill_same = λ e ne. h.fill_same e ne ∙ g.fill_same e ne;
        end_longer = omega (arith, g.end_longer, h.end_longer);
        small = h.small;
        sized = h.sized;
      }

  pub other_ends : {n : ℕ} {before after : Logs} → Longer s d n before after → (e : ℕ) → (e ≡ d → ⊥) → end_of after e ≡ end_of before e
  unfolding end_of
  other_ends g e ne = rw (g.tail_same e ne, g.fill_same e ne)

module _ (s : Sizes) (l : Logs) (d : ℕ) (sized : SizedLogs l) (small : Small s l) (below : d < 8) where
  pub flush_longer : Longer s d 0 l (after_flush l d)
  flush_longer =
      record {
        start_same = start_flushed l d;
        kept_same = kept_flushed l d;
        tail_up = λ e. tails e (ℕ_discrete e d);
        tail_same = tail_flushed_other l d;
        fill_same = fill_flushed_other l d;
        end_longer = omega (arith, ends_flushed l d sized below d);
        small = λ e h. fills e h (ℕ_discrete e d);
        sized = sized_flushed l d sized;
      }
    where
      tails : (e : ℕ) → Dec (e ≡ d) → tail_of l e ≤ tail_of (after_flush l d) e
      tails e (yes same) = rw same (omega (arith, tail_flushed l d sized below, tail_end l d))
      tails e (no ne) = omega (arith, tail_flushed_other l d e ne)

      fills : (e : ℕ) → e < s.disks → Dec (e ≡ d) → fill_of (after_flush l d) e ≤ 64
      fills e h (yes same) = rw same (omega (arith, fill_flushed l d sized below))
      fills e h (no ne) = omega (arith, fill_flushed_other l d e ne, small e h)

  -- n words put into the buffer, which has m then
  pub put_longer : (m n : ℕ) → m ≡ fill_of l d + n → m ≤ 64 → Longer s d n l (with_fill l d m)
  unfolding with_fill end_of kept_of start_of tail_of
  put_longer m n e fits =
      record {
        start_same = λ e. refl;
        kept_same = λ e. refl;
        tail_up = λ e. omega arith;
        tail_same = λ e ne. refl;
        fill_same = fill_set_other l d m;
        end_longer = omega (arith, fill_set l d m (omega (arith, sized.fills)));
        small = λ e h. fills e h (ℕ_discrete e d);
        sized = record { starts = sized.starts; tails = sized.tails; fills = simp length-set sized.fills };
      }
    where
      fills : (e : ℕ) → e < s.disks → Dec (e ≡ d) → fill_of (with_fill l d m) e ≤ 64
      fills e h (yes same) = rw same (omega (arith, fill_set l d m (omega (arith, sized.fills))))
      fills e h (no ne) = omega (arith, fill_set_other l d m e ne, small e h)

-- An append of words that a buffer can hold adds exactly these, whether it flushes or not.
module _ (s : Sizes) (l : Logs) (d : ℕ) (sized : SizedLogs l) (small : Small s l) (below : d < 8) where
  pub append_longer : (memory words : List ℕ) → length words ≤ 64
      → Longer s d (length words) l (append s l memory d words).logs
  unfolding append
  append_longer memory words short = go (leb (fill_of l d + length words) 64) refl
    where
      go : (b : Bool) → leb (fill_of l d + length words) 64 ≡ b → Longer s d (length words) l (append_if b s l memory d words).logs
      go true e = put_longer s l d sized small below (fill_of l d + length words) (length words) refl (leb-true _ _ e)
      go false e =
          let g = flush_longer s l d sized small below in
          let p =
          put_longer s (after_flush l d) d g.sized g.small below (length words) (length words)
          (omega (arith, fill_flushed l d sized below)) short in
          rw zero-add at (longer_then g p)
