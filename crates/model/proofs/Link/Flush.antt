-- A flush moves the buffered entries of its disk to the flushed ones; cut anywhere before its last store, it moves none.
use mathlib.Core.Path.{◌≡◌, refl, sym, ap, ◌∙◌}
use mathlib.Core.List.{List, [], ◌∷◌, ◌++◌}
use mathlib.Core.Bool.{not}
use Prim.Native.Nat.{ℕ, zero, suc, ◌+◌, ◌-◌, ◌≤◌, ◌<◌}
use native.Mathlib.Omega.{arith}
use native.Mathlib.Decide.{ℕ_discrete}
use lib.ListN.{length, get_or, take, length-take}
use borrow.Author.Tests.{le-leb}
use Rattle.model.specs.declared.Sizes.{Sizes}
use Rattle.model.specs.declared.Logs.{Logs}
use Rattle.model.specs.Word.{part}
use Rattle.model.specs.Sizes.{ring_of, disk_at, tail_word, ring_word, total}
use Rattle.model.specs.World.{World, Action, store, logs, cost, perform, stores, covered, run, each}
use Rattle.model.specs.Memory.{buffer_of}
use Rattle.model.specs.State.{start_of, kept_of, tail_of, fill_of, end_of, after_flush}
use Rattle.model.specs.Causes.{tail_on, tail_in}
use Rattle.model.specs.Append.{store_log, store_all, flush}
use Rattle.model.proofs.Run.{stores_append, stores_each}
use Rattle.model.proofs.Lengths.{Lengths}
use Rattle.model.proofs.Reader.{Holds, holds_agree}
use Rattle.model.proofs.Ring.{disk_within, lay_keeps, lay_keeps_rings, lay_keeps_tails}
use Rattle.model.proofs.Flush.{OnlyLogs, flush_only_logs, flush_keeps_rings, flush_keeps_tails, flush_tail, flush_holds, lay_only}
use Rattle.model.proofs.Ledger.Entry.{Entry, pick, on_disk}
use Rattle.model.proofs.Ledger.Order.{words_of, on}
use Rattle.model.proofs.Ledger.Lists.{on_flushed, on_emptied, on_other_flushed, on_other_left, words_append, words_none, length_words_append}
use Rattle.model.proofs.Link.Words.{Arrays, Link, ring_positive, below_eight}
use Rattle.model.proofs.Growth.{tail_flushed, fill_flushed, tail_flushed_other, fill_flushed_other}

-- The words that a budget covers, of a run of stores with one store behind it.
covered_then : (put : ℕ → ℕ → Action) (a : Action) → ((i x : ℕ) → cost (put i x) ≡ 1) → cost a ≡ 1 → (n i : ℕ) (xs : List ℕ)
    → n ≤ length xs → covered n (each put i xs ++ a ∷ []) ≡ each put i (take n xs)
unfolding covered each
covered_then put a one last zero i [] h = rw last
covered_then put a one last zero i (x ∷ xs) h = rw (one i x)
covered_then put a one last (suc n) i [] h = absurd (omega arith)
covered_then put a one last (suc n) i (x ∷ xs) h =
    let less : suc n - 1 ≡ n = omega arith in
    rw (one i x, le-leb 1 (suc n) (omega arith), less, covered_then put a one last n (i + 1) xs (omega arith))

-- a flush that is cut has stored the first of its words, and not the tail
pub run_store_all : (s : Sizes) (d p : ℕ) (xs : List ℕ) (n : ℕ) (w : World) → n < stores (store_all s d p xs)
    → run n (store_all s d p xs) w ≡ perform (each (store_log s d) p (take n xs)) w
unfolding run stores cost
run_store_all s d p [] n w h = absurd (omega arith)
run_store_all s d p (x ∷ xs) n w h =
    ap (λ (l : List Action). perform l w)
    (covered_then (store_log s d) (store logs (tail_word s d) (p + length (x ∷ xs))) (λ i y. refl) refl n p (x ∷ xs)
    (omega (
      arith,
      stores_append (each (store_log s d) p (x ∷ xs)) (store logs (tail_word s d) (p + length (x ∷ xs)) ∷ []),
      stores_each (store_log s d) (λ i y. refl) p (x ∷ xs),
    )))

-- whole or cut, a flush changes the logs alone
module _ (s : Sizes) (l : Logs) (w : World) (d : ℕ) where
  pub flush_only : OnlyLogs w (perform (flush s l w.work d) w)
  unfolding flush
  flush_only = flush_only_logs s d (tail_of l d) (buffer_of w.work d (fill_of l d)) w

  pub cut_only : (n : ℕ) → n < stores (flush s l w.work d) → OnlyLogs w (run n (flush s l w.work d) w)
  unfolding flush
  cut_only n h =
      rw (run_store_all s d (tail_of l d) (buffer_of w.work d (fill_of l d)) n w h)
      (lay_only s d (tail_of l d) (take n (buffer_of w.work d (fill_of l d))) w)

module _ {s : Sizes} {l : Logs} {w : World} {F B : List Entry} (k : Link s l w F B) (right : Lengths s (total s) w) (a : Arrays s l)
    (d : ℕ) (below : d < s.disks) (room : end_of l d ≤ kept_of l d + ring_of s d) where
  fits : disk_at s d + ring_of s d + 1 ≤ length w.logs
  fits = omega (arith, disk_within s d below, right.logs)

  -- what is stored: the words of the buffered entries
  flush_words : flush s l w.work d ≡ store_all s d (tail_of l d) (words_of (on d B))
  unfolding flush
  flush_words = rw (k.buffer d below)

  together : length (words_of (on d F)) + length (words_of (on d B)) ≤ ring_of s d
  unfolding end_of
  together = omega (arith, room, k.tail d below, k.fill d below)

  -- The whole flush.
  abbrev after : World
  after = perform (store_all s d (tail_of l d) (words_of (on d B))) w

  held_after : (e : ℕ) → e < s.disks
      → Holds (λ q. get_or after.logs (ring_word s e q) 0) (kept_of l e) (words_of (on e (F ++ on d B)))
  held_after e h = go (ℕ_discrete e d)
    where
      go : Dec (e ≡ d) → Holds (λ q. get_or after.logs (ring_word s e q) 0) (kept_of l e) (words_of (on e (F ++ on d B)))
      go (yes same) =
          rw (same, on_flushed d F B, words_append)
          (flush_holds s d (kept_of l d) (tail_of l d) (words_of (on d F)) (words_of (on d B)) w fits (k.tail d below) together
          (k.held d below))
      go (no ne) =
          rw (on_other_flushed d F B e ne)
          (holds_agree _ _ (kept_of l e) (words_of (on e F))
          (λ q x y. flush_keeps_rings s d (tail_of l d) (words_of (on d B)) w e q ne (ring_positive s d a.ring) (ring_positive s e a.ring))
          (k.held e h))

  end_long : end_of l d ≡ tail_of l d + length (words_of (on d B))
  unfolding end_of
  end_long = rw (k.fill d below)

  tail_after : (e : ℕ) → e < s.disks → tail_of (after_flush l d) e ≡ kept_of l e + length (words_of (on e (F ++ on d B)))
  tail_after e h = go (ℕ_discrete e d)
    where
      go : Dec (e ≡ d) → tail_of (after_flush l d) e ≡ kept_of l e + length (words_of (on e (F ++ on d B)))
      go (yes same) =
          rw (same, on_flushed d F B)
          (omega (arith, tail_flushed l d a.sized (below_eight a below), end_long, k.tail d below, length_words_append (on d F) (on d B)))
      go (no ne) = rw (on_other_flushed d F B e ne) (tail_flushed_other l d e ne ∙ k.tail e h)

  stored_after : (e : ℕ) → e < s.disks → tail_on s after e ≡ tail_of (after_flush l d) e
  unfolding tail_in
  stored_after e h = go (ℕ_discrete e d)
    where
      go : Dec (e ≡ d) → get_or after.logs (tail_word s e) 0 ≡ tail_of (after_flush l d) e
      go (yes same) =
          rw same
          (flush_tail s d (tail_of l d) (words_of (on d B)) w fits (k.stored d below) ∙ sym end_long ∙ sym (tail_flushed l d a.sized (below_eight a below)))
      go (no ne) =
          flush_keeps_tails s d (tail_of l d) (words_of (on d B)) w e ne (ring_positive s d a.ring)
          ∙ k.stored e h ∙ sym (tail_flushed_other l d e ne)

  buffer_after : (e : ℕ) → e < s.disks
      → buffer_of w.work e (fill_of (after_flush l d) e) ≡ words_of (on e (pick (λ r. not (on_disk d r)) B))
  unfolding buffer_of part
  buffer_after e h = go (ℕ_discrete e d)
    where
      go : Dec (e ≡ d) → buffer_of w.work e (fill_of (after_flush l d) e) ≡ words_of (on e (pick (λ r. not (on_disk d r)) B))
      go (yes same) = rw (same, fill_flushed l d a.sized (below_eight a below), on_emptied d F B) (sym words_none)
      go (no ne) = rw (on_other_left d F B e ne, fill_flushed_other l d e ne) (k.buffer e h)

  fill_after : (e : ℕ) → e < s.disks → fill_of (after_flush l d) e ≡ length (words_of (on e (pick (λ r. not (on_disk d r)) B)))
  fill_after e h = go (ℕ_discrete e d)
    where
      go : Dec (e ≡ d) → fill_of (after_flush l d) e ≡ length (words_of (on e (pick (λ r. not (on_disk d r)) B)))
      go (yes same) = rw (same, fill_flushed l d a.sized (below_eight a below), on_emptied d F B, words_none)
      go (no ne) = rw (on_other_left d F B e ne, fill_flushed_other l d e ne) (k.fill e h)

  -- the buffered entries of the disk are flushed ones after it
  pub flush_link : Link s (after_flush l d) (perform (flush s l w.work d) w) (F ++ on d B) (pick (λ r. not (on_disk d r)) B)
  unfolding kept_of start_of after_flush
  flush_link =
      let same = (flush_only_logs s d (tail_of l d) (words_of (on d B)) w).work_same in
      rw flush_words
      (record {
        held = held_after;
        tail = tail_after;
        stored = stored_after;
        buffer = λ e h. rw same (buffer_after e h);
        fill = fill_after;
      })

  -- A flush that is cut: some of the words are stored, behind the tail.
  module _ (n : ℕ) (cut : n < stores (flush s l w.work d)) where
    abbrev part_way : World
    part_way = perform (each (store_log s d) (tail_of l d) (take n (words_of (on d B)))) w

    run_words : run n (flush s l w.work d) w ≡ part_way
    run_words = rw flush_words (run_store_all s d (tail_of l d) (words_of (on d B)) n w (rw flush_words at cut))

    held_cut : (e : ℕ) → e < s.disks → Holds (λ q. get_or part_way.logs (ring_word s e q) 0) (kept_of l e) (words_of (on e F))
    held_cut e h = go (ℕ_discrete e d)
      where
        go : Dec (e ≡ d) → Holds (λ q. get_or part_way.logs (ring_word s e q) 0) (kept_of l e) (words_of (on e F))
        go (yes same) =
            rw same
            (holds_agree _ _ (kept_of l d) (words_of (on d F))
            (λ q x y. lay_keeps s d (tail_of l d) (take n (words_of (on d B))) w q (omega (arith, k.tail d below))
            (omega (arith, k.tail d below, together, length-take n (words_of (on d B)))))
            (k.held d below))
        go (no ne) =
            holds_agree _ _ (kept_of l e) (words_of (on e F))
            (λ q x y. lay_keeps_rings s d (tail_of l d) (take n (words_of (on d B))) w e q ne (ring_positive s d a.ring) (ring_positive s e a.ring))
            (k.held e h)

    stored_cut : (e : ℕ) → e < s.disks → tail_on s part_way e ≡ tail_of l e
    unfolding tail_in
    stored_cut e h = lay_keeps_tails s d (tail_of l d) (take n (words_of (on d B))) w e (ring_positive s d a.ring) ∙ k.stored e h

    -- no entry has moved
    pub flush_cut : Link s l (run n (flush s l w.work d) w) F B
    flush_cut =
        let same = (lay_only s d (tail_of l d) (take n (words_of (on d B))) w).work_same in
        rw run_words
        (record {
          held = held_cut;
          tail = k.tail;
          stored = stored_cut;
          buffer = λ e h. rw same (k.buffer e h);
          fill = k.fill;
        })
