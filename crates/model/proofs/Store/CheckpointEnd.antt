-- A checkpoint's end keeps what holds of an open store; cut before its last store, nothing is lost.
use mathlib.Core.Path.{◌≡◌, refl}
use mathlib.Core.List.{List, [], ◌∷◌, ◌++◌, append_assoc}
use mathlib.Core.Bool.{Bool, true, false}
use Prim.Native.Nat.{ℕ, ◌+◌, ◌-◌, ◌≤◌, ◌<◌}
use native.Mathlib.Omega.{arith}
use lib.Dec.{ltb}
use borrow.Author.Tests.{leb-false, ltb-true, ltb-false}
use Rattle.model.specs.declared.Core.{Core}
use Rattle.model.specs.Anchor.{epoch_on, epoch_word}
use Rattle.model.specs.World.{World, Action, store, anchor, perform, stores, run, finishes}
use Rattle.model.specs.State.{end_of, with_log}
use Rattle.model.specs.Refusal.{accepted, verdict}
use Rattle.model.specs.Causes.{when_copying}
use Rattle.model.specs.Checkpoint.{to_copy, lowest_to_copy, new_start, checkpoint_end_rows, checkpoint_end_task}
use Rattle.model.specs.Reference.{Reference}
use Rattle.model.specs.History.{Told, start_put, started_from}
use Rattle.model.proofs.Below.{first_before}
use Rattle.model.proofs.PerDisk.{per_disk_cong}
use Rattle.model.proofs.Run.{perform_append, stores_append, run_append, run_cut, perform_lengths}
use Rattle.model.proofs.Ledger.Entry.{pick}
use Rattle.model.proofs.Ledger.Ordered.{from_start}
use Rattle.model.proofs.Store.View.{Kept, Serving, Served}
use Rattle.model.proofs.Store.Rows.{stage_row, copying_not_open}
use Rattle.model.proofs.Store.Crash.{kept}
use Rattle.model.proofs.Store.FlushAll.{flushes, Emptied, none_buffered, flush_below}
use Rattle.model.proofs.Store.Starts.{Moved, start_stores, end_stores, end_moved, end_cut}
use Rattle.model.proofs.Store.Switch.{switched_core, switch_serving}
use Rattle.model.proofs.Verdict.{row_passed}

-- What an accepted end finds: stage copying, every page copied.
record Accepted (c : Core) : Type 0 where
  stage : when_copying c.stage ≡ true
  copied : c.sizes.pages ≤ lowest_to_copy c

end_accepted : (c : Core) (w : World) → verdict (checkpoint_end_rows c w) ≡ accepted → Accepted c
unfolding checkpoint_end_rows
end_accepted c w e =
    let one = row_passed _ _ e in
    let two = row_passed _ _ one.1 in
    let five = row_passed _ _ two.1 in
    let last = row_passed _ _ five.1 in
    record {
      stage = stage_row when_copying _ c one.0;
      copied = ltb-false _ _ last.0;
    }

-- no page left to copy: as many are copied as there are
all_copied : (c : Core) → 1 ≤ c.sizes.pages → c.sizes.pages ≤ lowest_to_copy c → c.sizes.pages ≤ c.checkpoint.copied
unfolding lowest_to_copy to_copy
all_copied c some h =
    let last = first_before (to_copy c) c.sizes.pages (c.sizes.pages - 1) (omega arith) in
    omega (arith, leb-false c.checkpoint.copied (c.sizes.pages - 1) last)

module _ {puts : Told} {c : Core} {w : World} {r : Reference} (g : Served puts c w r) (ok : verdict (checkpoint_end_rows c w) ≡ accepted) where
  found : Accepted c
  found = end_accepted c w ok

  -- after the flushes
  emptied : Emptied 0 g.home puts c w r c.sizes.disks
  emptied = flush_below g.serving c.sizes.disks (omega arith)

  abbrev full : Core
  full = with_log c emptied.logs c.table

  abbrev flushing : List Action
  flushing = flushes c w c.sizes.disks

  abbrev mid : World
  mid = perform flushing w

  all_flushed : Serving 0 g.home puts full mid r emptied.flushed []
  all_flushed = rw (none_buffered emptied) at emptied.serving

  number : epoch_on mid.anchor ≡ c.epoch
  unfolding with_log
  number = all_flushed.safe.devices.epoch

  few : c.sizes.disks ≤ 8
  few = g.serving.safe.devices.arrays.disks

  -- the call's list is the flushes, then the stores of the anchor
  abbrev last : List Action
  last = end_stores c.epoch (new_start c) c.sizes.disks

  parts : (checkpoint_end_task c w).actions ≡ flushing ++ last
  unfolding checkpoint_end_task
  parts =
      append_assoc flushing (start_stores c.epoch (new_start c) c.sizes.disks) (store anchor epoch_word (c.epoch + 1) ∷ [])

  moved : Moved full.epoch (new_start full) full.sizes.disks mid (perform last mid)
  unfolding with_log new_start
  moved = end_moved c.epoch (new_start c) c.sizes.disks mid few all_flushed.safe.devices.anchor

  -- what is then told of the logs
  abbrev started : Told
  started = started_from (start_put puts r.write_sets) puts

  switched : Serving 0 g.home started (switched_core full) (perform last mid) r (pick (from_start (new_start full)) emptied.flushed) []
  unfolding with_log
  switched =
      switch_serving all_flushed (copying_not_open c found.stage)
      (all_copied c g.serving.safe.devices.bounds.pages_min found.copied) moved (perform_lengths last mid)

  -- a flush does not move the end of a log, so the tails are the ends at entry
  same_core : switched_core full ≡ (checkpoint_end_task c w).core
  unfolding checkpoint_end_task with_log new_start
  same_core = rw (per_disk_cong c.sizes (end_of emptied.logs) (end_of c.logs) emptied.ends)

  -- the whole call: the store is open, with the next checkpoint's backup and starts
  pub checkpoint_end_serves : Served started (checkpoint_end_task c w).core (perform (checkpoint_end_task c w).actions w) r
  checkpoint_end_serves =
      rw (parts, perform_append flushing last w, ← same_core)
      (record { home = g.home; flushed = pick (from_start (new_start full)) emptied.flushed; buffered = []; serving = switched })

  -- the call cut: a restart still gives what is committed
  pub checkpoint_end_cut : (budget : ℕ) → finishes budget (checkpoint_end_task c w).actions ≡ false
      → Kept puts (run budget (checkpoint_end_task c w).actions w) r
  unfolding finishes
  checkpoint_end_cut budget short = rw parts (go (ltb budget (stores flushing)) refl)
    where
      less : budget < stores (flushing ++ last)
      less = rw parts at (leb-false (stores (checkpoint_end_task c w).actions) budget short)

      go : (b : Bool) → ltb budget (stores flushing) ≡ b → Kept puts (run budget (flushing ++ last) w) r
      go true e =
          let l = ltb-true budget (stores flushing) e in
          rw (run_cut budget flushing last w l) (emptied.cut budget l)
      go false e =
          let l = ltb-false budget (stores flushing) e in
          rw (run_append budget flushing last w l)
          (end_cut c.epoch (new_start c) c.sizes.disks mid few number (kept all_flushed.safe puts all_flushed.told)
          (budget - stores flushing) (omega (arith, stores_append flushing last, less)))
