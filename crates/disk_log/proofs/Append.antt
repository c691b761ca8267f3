-- An append: the words go behind those that the buffer has, or the buffer is flushed first.
use Rattle.std.specs.Prelude.{None, Some}
use mathlib.Core.Path.{◌≡◌, refl, sym}
use mathlib.Core.List.{List, ◌++◌}
use mathlib.Core.Bool.{Bool, true, false}
use Prim.Native.Nat.{ℕ, ◌+◌, ◌≤◌, ◌<◌}
use native.Mathlib.Omega.{arith}
use lib.ListN.{length}
use lib.Seq.{sets, set-get_or, set-set}
use borrow.Author.Tests.{le-leb, lt-leb}
use Rattle.model.specs.declared.Sizes.{Sizes}
use Rattle.model.specs.declared.Logs.{Logs}
use Rattle.model.specs.World.{World, Action, write, work, stores, run, made, finishes, each}
use Rattle.model.specs.Memory.{buffer_at}
use Rattle.model.specs.State.{tail_of, fill_of, end_of, with_fill, after_flush}
use Rattle.model.specs.Append.{flush, buffered, append}
use Rattle.model.proofs.Run.{covered_all, stores_written, perform_work}
use Rattle.device.specs.Ran.{Ran, with_slices}
use Rattle.disk_log.specs.declared.write.Home.{Home}
use Rattle.disk_log.specs.Write.{Lent, Appends}
use Rattle.device.proofs.Ran.{ran_then, ran_cut}

-- words put into a buffer: no store
ran_buffered : (budget : ℕ) (s : Sizes) (disk fill : ℕ) (words : List ℕ) (w : World)
    → Ran budget budget (buffered s disk fill words) w (with_slices w w.logs (sets w.work (buffer_at disk + fill) words)) true
unfolding buffered run made finishes
ran_buffered budget s disk fill words w =
    let puts : List Action = each (write work) (buffer_at disk + fill) words in
    let none : stores puts ≡ 0 = stores_written work (buffer_at disk + fill) words in
    record {
      world = sym (rw (covered_all budget puts (rw none (omega arith))) (perform_work (buffer_at disk + fill) words w));
      left = rw none (omega arith);
      finished = rw none (sym (le-leb 0 budget (omega arith)));
    }

module _ {s : Sizes} {l : Logs} {w : World} {h : Home} {before memory : List ℕ}
    (lent : Lent s l w h before memory) (words : List ℕ) where
  -- they fit
  module _ (fits : h.fill + length words ≤ 64) where
    fitting : append s l w.work h.disk words
        ≡ record { actions = buffered s h.disk h.fill words; logs = with_fill l h.disk (h.fill + length words) }
    unfolding append
    fitting = rw (le-leb (fill_of l h.disk + length words) 64 (rw lent.same_fill fits), lent.same_fill)

    pub put_fits : (budget : ℕ) (after : List ℕ) → after ≡ sets memory (h.buffer + h.fill) words
        → Appends budget budget s l h.disk words w (with_slices w before after)
        (Some (record { tail = h.tail; fill = h.fill + length words }))
    unfolding with_fill tail_of
    put_fits budget after put =
        let ran = ran_buffered budget s h.disk h.fill words w in
        record {
          ran = rw (fitting, put, ← lent.same_buffer, ← lent.same_logs, ← lent.same_work) ran;
          state = rw (fitting, ← lent.same_tail, set-get_or l.tails h.disk 0);
        }

  -- they do not: the flush comes first
  module _ (over : 64 < h.fill + length words) {budget rest : ℕ} {after : List ℕ} {whole : Bool}
      (ran : Ran budget rest (flush s l w.work h.disk) w (with_slices w after memory) whole) where
    flushing : append s l w.work h.disk words
        ≡ record {
          actions = flush s l w.work h.disk ++ buffered s h.disk 0 words;
          logs = with_fill (after_flush l h.disk) h.disk (length words);
        }
    unfolding append
    flushing = rw (lt-leb (fill_of l h.disk + length words) 64 (rw lent.same_fill over))

    -- it is cut
    pub put_cut : whole ≡ false
        → Appends budget rest s l h.disk words w (with_slices w after memory) None
    put_cut e =
        record {
          ran = rw flushing (ran_cut ran (buffered s h.disk 0 words) e);
          state = tt;
        }

    -- it is whole
    pub put_flushed : (full : List ℕ) → whole ≡ true → full ≡ sets memory h.buffer words
        → Appends budget rest s l h.disk words w (with_slices w after full)
        (Some (record { tail = h.tail + h.fill; fill = length words }))
    unfolding with_fill after_flush end_of
    put_flushed full e put =
        let next = ran_buffered rest s h.disk 0 words (with_slices w after memory) in
        let at : buffer_at h.disk + 0 ≡ h.buffer = omega (arith, lent.same_buffer) in
        record {
          ran = rw (flushing, put, ← at) (ran_then ran (buffered s h.disk 0 words) e next);
          state = rw (flushing, lent.same_tail, lent.same_fill, set-set l.fills h.disk 0);
        }
