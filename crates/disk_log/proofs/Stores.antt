-- A flush: of nothing, cut among its words, or its words and then the tail.
use mathlib.Core.Path.{◌≡◌, ◌∙◌}
use mathlib.Core.List.{List, [], ◌∷◌, ◌++◌}
use mathlib.Core.Bool.{Bool, true, false}
use Prim.Native.Nat.{ℕ, ◌+◌, ◌≤◌, ◌<◌}
use native.Mathlib.Omega.{arith}
use lib.ListN.{length}
use Rattle.model.specs.declared.Sizes.{Sizes}
use Rattle.model.specs.declared.Logs.{Logs}
use Rattle.model.specs.Word.{part}
use Rattle.model.specs.Sizes.{tail_word}
use Rattle.model.specs.World.{World, store, logs, each}
use Rattle.model.specs.Memory.{buffer_of}
use Rattle.model.specs.Append.{store_log, flush}
use Rattle.model.proofs.Parts.{length_part}
use Rattle.model.proofs.Flush.{store_some}
use Rattle.model.proofs.Counts.{flush_empty}
use Rattle.device.specs.Ran.{Ran, Stored, StoredRing, with_slices}
use Rattle.device.proofs.Memory.{ran_none}
use Rattle.device.proofs.Ran.{ran_then, ran_cut}
use Rattle.device.proofs.Ring.{ring_ran}
use Rattle.device.proofs.Runs.{logs_ran}
use Rattle.disk_log.specs.declared.write.Home.{Home}
use Rattle.disk_log.specs.Write.{Lent}

-- A flush of a disk that is lent.
module _ {s : Sizes} {l : Logs} {w : World} {h : Home} {before memory : List ℕ}
    (lent : Lent s l w h before memory) (fits : h.buffer + 64 ≤ length memory) (small : h.fill ≤ 64) where
  pub flush_nothing : (budget : ℕ) → h.fill ≡ 0 → Ran budget budget (flush s l w.work h.disk) w (with_slices w before memory) true
  flush_nothing budget none =
      rw (flush_empty s l w.work h.disk (lent.same_fill ∙ none), ← lent.same_logs, ← lent.same_work) (ran_none budget w)

  -- the flush as its words and its tail
  flush_is : 0 < h.fill
      → flush s l w.work h.disk
      ≡ each (store_log s h.disk) h.tail (part h.buffer h.fill memory)
      ++ store logs (tail_word s h.disk) (h.tail + h.fill) ∷ []
  unfolding flush buffer_of
  flush_is some =
      rw (
        lent.same_tail,
        lent.same_fill,
        lent.same_buffer,
        lent.same_work,
        store_some s h.disk h.tail (part h.buffer h.fill memory) (rw (length_part h.buffer h.fill memory (omega arith)) some),
        length_part h.buffer h.fill memory (omega arith),
      )

  module _ {budget rest : ℕ} {words : List ℕ} {whole : Bool}
      (did : StoredRing (h.place + 1) h.ring budget rest h.tail (part h.buffer h.fill memory) before words whole) where
    -- its words, as far as the budget goes
    words_ran : Ran budget rest (each (store_log s h.disk) h.tail (part h.buffer h.fill memory)) w (with_slices w words memory) whole
    words_ran =
        rw (← lent.same_work)
        (ring_ran s h.disk w (rw (lent.lies.same_place, lent.lies.same_ring, lent.same_logs, lent.same_work) did))

    -- they are cut, and no tail is stored
    pub flush_cut : 0 < h.fill → whole ≡ false → Ran budget rest (flush s l w.work h.disk) w (with_slices w words memory) false
    flush_cut some e = rw (flush_is some) (ran_cut words_ran _ e)

    -- all of them are stored, and then the new tail, if the budget goes so far
    pub flush_tail : {last : ℕ} {after : List ℕ} {all : Bool} → 0 < h.fill → whole ≡ true
        → Stored rest last h.place ((h.tail + h.fill) ∷ []) words after all
        → Ran budget last (flush s l w.work h.disk) w (with_slices w after memory) all
    unfolding each tail_word
    flush_tail some e tailed =
        rw (flush_is some, lent.lies.same_place) (ran_then words_ran _ e (logs_ran (with_slices w words memory) tailed))
