-- An append puts an entry behind the buffered ones of its disk, after a flush of that disk where its words do not fit.
use mathlib.Core.Path.{◌≡◌, refl}
use mathlib.Core.List.{List, [], ◌∷◌, ◌++◌}
use Prim.Native.Nat.{ℕ, ◌+◌, ◌≤◌, ◌<◌}
use native.Mathlib.Omega.{arith}
use native.Mathlib.Decide.{dec_lt}
use lib.ListN.{length}
use borrow.Author.Tests.{le-leb, lt-leb}
use Rattle.model.specs.declared.Sizes.{Sizes}
use Rattle.model.specs.declared.Logs.{Logs}
use Rattle.model.specs.Sizes.{total}
use Rattle.model.specs.Record.{encode}
use Rattle.model.specs.World.{World, perform, stores}
use Rattle.model.specs.State.{fill_of, with_fill, after_flush}
use Rattle.model.specs.Append.{Appended, flush, buffered, append}
use Rattle.model.proofs.Run.{perform_append}
use Rattle.model.proofs.Lengths.{Lengths}
use Rattle.model.proofs.Counts.{append_fits}
use Rattle.model.proofs.Ledger.Entry.{Entry, record_of}
use Rattle.model.proofs.Ledger.Order.{size_of}
use Rattle.model.proofs.Link.Words.{Arrays, Link, below_eight}
use Rattle.model.proofs.Link.Flush.{flush_only}
use Rattle.model.proofs.Link.Buffered.{InBuffer, after_flush_lem, put_in_buffer, put_link}
use Rattle.model.proofs.Growth.{Small, Longer, append_longer}

-- The two cases of an append.
module _ (s : Sizes) (l : Logs) (memory : List ℕ) (d : ℕ) (words : List ℕ) where
  append_is_put : fill_of l d + length words ≤ 64
      → append s l memory d words
      ≡ record { actions = buffered s d (fill_of l d) words; logs = with_fill l d (fill_of l d + length words) }
  unfolding append
  append_is_put h = rw (le-leb _ _ h)

  append_is_flush : 64 < fill_of l d + length words
      → append s l memory d words
      ≡ record { actions = flush s l memory d ++ buffered s d 0 words; logs = with_fill (after_flush l d) d (length words) }
  unfolding append
  append_is_flush h = rw (lt-leb _ _ h)

-- In both cases the state and the memories change by the entry's words alone.
module _ {s : Sizes} {l : Logs} (w : World) (a : Arrays s l) (small : Small s l) (d : ℕ) (below : d < s.disks) (r : Entry)
    (short : size_of r ≤ 64) where
  abbrev added : Appended
  added = append s l w.work d (encode (record_of r))

  pub entry_longer : Longer s d (size_of r) l added.logs
  unfolding size_of
  entry_longer = append_longer s l d a.sized small (below_eight a below) w.work (encode (record_of r)) short

  pub append_in_buffer : InBuffer s d w (perform added.actions w)
  unfolding size_of
  append_in_buffer = go (dec_lt 64 (fill_of l d + size_of r))
    where
      go : Dec (64 < fill_of l d + size_of r) → InBuffer s d w (perform added.actions w)
      go (yes over) =
          rw (append_is_flush s l w.work d (encode (record_of r)) over, perform_append)
          (after_flush_lem (flush_only s l w d) (put_in_buffer s d (perform (flush s l w.work d) w) 0 (encode (record_of r)) (omega arith)))
      go (no fits) =
          rw (append_is_put s l w.work d (encode (record_of r)) (omega arith))
          (put_in_buffer s d w (fill_of l d) (encode (record_of r)) (omega arith))

-- Where the words fit, the entry is buffered and nothing is stored.
module _ {s : Sizes} {l : Logs} {w : World} {F B : List Entry} (k : Link s l w F B) (right : Lengths s (total s) w) (a : Arrays s l)
    (small : Small s l) (d : ℕ) (below : d < s.disks) (r : Entry) (here : r.disk ≡ d) (short : size_of r ≤ 64)
    (fits : fill_of l d + size_of r ≤ 64) where
  abbrev appended : Appended
  appended = append s l w.work d (encode (record_of r))

  pub append_room : Link s appended.logs (perform appended.actions w) F (B ++ r ∷ [])
  unfolding size_of
  append_room =
      rw (append_is_put s l w.work d (encode (record_of r)) fits)
      (put_link k right a small d below r here (fill_of l d) (fill_of l d + size_of r) refl refl fits)

  pub room_stores : stores appended.actions ≡ 0
  unfolding size_of
  room_stores = append_fits s l w.work d (encode (record_of r)) fits
