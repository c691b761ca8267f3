-- Commit: its closing record is appended, after a flush if the buffer is full, and its disk is flushed. An accepted commit leaves
-- an open store with the transaction's writes committed; one that is cut loses nothing that was committed before.
use mathlib.Core.Path.{◌≡◌, refl, ap, ◌∙◌, sym}
use mathlib.Core.List.{List, [], ◌∷◌, ◌++◌, append_assoc}
use mathlib.Core.Bool.{true, false}
use Prim.Native.Nat.{ℕ, ◌+◌, ◌-◌, ◌≤◌, ◌<◌}
use native.Mathlib.Omega.{arith}
use native.Mathlib.Decide.{dec_lt}
use borrow.Author.Tests.{leb-false}
use Rattle.model.specs.declared.Core.{Core}
use Rattle.model.specs.Sizes.{ring_of}
use Rattle.model.specs.Record.{encode, close, commit_kind}
use Rattle.model.specs.World.{World, Action, perform, stores, run, finishes}
use Rattle.model.specs.State.{limit, kept_of, end_of, after_flush, with_log, without, is_open, sound}
use Rattle.model.specs.Refusal.{accepted, verdict}
use Rattle.model.specs.Append.{Appended, append, flush}
use Rattle.model.specs.Transaction.{disk_of, commit_rows, commit_task}
use Rattle.model.specs.Call.{commit}
use Rattle.model.specs.Reference.{Reference, after_taken}
use Rattle.model.specs.History.{Told, also, put_by}
use Rattle.model.proofs.Run.{perform_append, stores_append, run_append, run_cut}
use Rattle.model.proofs.Ledger.Entry.{Entry, record_of, is_close}
use Rattle.model.proofs.Ledger.Order.{size_of}
use Rattle.model.proofs.Store.View.{Kept, Served, view, open_used, run_at}
use Rattle.model.proofs.Store.Rows.{serving_sound_lem}
use Rattle.model.proofs.Store.Ready.{Ready, ready}
use Rattle.model.proofs.Store.Closing.{committed_reference, closing_append, closing_cut, closing_serves}
use Rattle.model.proofs.Growth.{Small}
use Rattle.model.proofs.Store.Accepted.{small_buffers, open_entry, open_below, own_room, commit_accepted}
use Rattle.model.proofs.Store.Steady.{kept_lost}
use Rattle.model.proofs.Store.Logged.{MayLog}
use Rattle.model.proofs.Store.ClosingEntry.{closing_entry, closing_size, closing_closes, closing_fit}

-- What an accepted commit may rely on: the transaction is open, on a disk with room for its closing record.
record Allowed (c : Core) (n : ℕ) : Type 0 where
  opened : is_open c.table n ≡ true
  below : disk_of c n < c.sizes.disks
  small : Small c.sizes c.logs
  space : end_of c.logs (disk_of c n) + 2 ≤ kept_of c.logs (disk_of c n) + ring_of c.sizes (disk_of c n)
  in_limit : end_of c.logs (disk_of c n) + 2 ≤ limit

allowed : (c : Core) (w : World) (n : ℕ) → sound c ≡ true → verdict (commit_rows c w n) ≡ accepted → Allowed c n
allowed c w n s ok =
    let a = commit_accepted c w n ok in
    let good = serving_sound_lem c a.serving s in
    let room = own_room c n good a.opened 2 (open_entry c n good a.opened).sound.reserved in
    record {
      opened = a.opened;
      below = open_below c n good a.opened;
      small = small_buffers c good;
      space = room.0;
      in_limit = room.1;
    }

module _ {puts : Told} {c : Core} {w : World} {r : Reference} (g : Served puts c w r) (n : ℕ) (a : Allowed c n) where
  start : Ready 0 g.home puts c w r (disk_of c n) 2
  start = ready g.serving (disk_of c n) 2 a.below a.small (omega arith)

  abbrev e : Entry
  e = closing_entry commit_kind (disk_of c n) (end_of start.logs (disk_of c n)) n

  -- the store after the flush that makes room, the append there, and the flush behind it
  abbrev core : Core
  core = with_log c start.logs c.table

  abbrev world : World
  world = perform start.flushing w

  abbrev added : Appended
  added = append c.sizes start.logs world.work (disk_of c n) (encode (record_of e))

  abbrev flushing : List Action
  flushing = flush c.sizes added.logs (perform added.actions world).work (disk_of c n)

  task : commit_task c w n
      ≡ record {
        actions = start.flushing ++ (added.actions ++ flushing);
        core = with_log c (after_flush added.logs (disk_of c n)) (without c.table n);
        value = 0;
      }
  unfolding commit_task record_of is_close encode
  task =
      ap (λ (x : Appended).
      record {
        actions = x.actions ++ flush c.sizes x.logs (perform x.actions w).work (disk_of c n);
        core = with_log c (after_flush x.logs (disk_of c n)) (without c.table n);
        value = 0;
      })
      (start.split (encode (close commit_kind n)) refl)
      ∙ rw (perform_append, append_assoc)

  size : size_of e ≡ 2
  size = closing_size commit_kind (disk_of c n) (end_of start.logs (disk_of c n)) n refl

  abbrev closes : is_close e ≡ true
  closes = closing_closes commit_kind (disk_of c n) (end_of start.logs (disk_of c n)) n refl

  may : MayLog g.home core start.flushed start.buffered e
  unfolding with_log view disk_of
  may =
      record {
        below = a.below;
        here = sym (start.serving.accounts.homes n a.opened);
        small = start.small;
        room = omega (arith, start.room, size);
        at_end = refl;
        unclosed = start.serving.safe.good.unclosed n a.opened;
        fit = closing_fit commit_kind (disk_of c n) (end_of start.logs (disk_of c n)) n refl c.sizes (omega arith) (open_used g.serving.safe n a.opened).0;
        in_ring = omega (arith, start.ends, start.kept (disk_of c n), a.space, size);
        in_limit = omega (arith, start.ends, a.in_limit, size);
      }

  serves : Served (also puts (record { disk = disk_of c n; content = close commit_kind n } ∷ [])) (with_log c (after_flush added.logs (disk_of c n)) (without c.table n))
      (perform flushing (perform added.actions world)) (committed_reference r n)
  unfolding with_log disk_of record_of is_close
  serves =
      record {
        home = g.home;
        flushed = _;
        buffered = _;
        serving = closing_serves start.serving e a.opened closes may;
      }

  cut : (k : ℕ) → k < stores flushing → Kept puts (run k flushing (perform added.actions world)) r
  unfolding with_log disk_of
  cut k h = closing_cut start.serving e a.opened closes may k h

  no_stores : stores added.actions ≡ 0
  unfolding with_log disk_of
  no_stores = closing_append start.serving e a.opened closes may

  -- the list cut before its end: inside the first flush, or inside the second
  cut_anywhere : (k : ℕ) → k < stores (start.flushing ++ (added.actions ++ flushing))
      → Kept puts (run k (start.flushing ++ (added.actions ++ flushing)) w) r
  cut_anywhere k h = go (dec_lt k (stores start.flushing))
    where
      go : Dec (k < stores start.flushing) → Kept puts (run k (start.flushing ++ (added.actions ++ flushing)) w) r
      go (yes l) = rw (run_cut k start.flushing (added.actions ++ flushing) w l) (start.cut k l)
      go (no l) =
          let more = stores_append start.flushing (added.actions ++ flushing) in
          let last = stores_append added.actions flushing in
          rw (
            run_append k start.flushing (added.actions ++ flushing) w (omega arith),
            run_append (k - stores start.flushing) added.actions flushing world (omega (arith, no_stores)),
          )
          (cut (k - stores start.flushing - stores added.actions) (omega (arith, no_stores)))

-- An accepted commit keeps the store open, and commits the transaction.
pub commit_serves : {puts : Told} {c : Core} {w : World} {r : Reference} → Served puts c w r → sound c ≡ true → (number budget n : ℕ)
    → verdict (commit_rows c w number) ≡ accepted
    → Served (also puts (put_by (commit number budget) (run_at c w r) puts)) (commit_task c w number).core (perform (commit_task c w number).actions w) (after_taken (commit number budget) n r)
commit_serves {c} {w} g s number budget n v =
    let a = allowed c w number s v in
    rw (task g number a, perform_append, perform_append) (serves g number a)

-- Cut, it leaves what was committed before it.
pub commit_cut : {puts : Told} {c : Core} {w : World} {r : Reference} → Served puts c w r → sound c ≡ true → (number budget : ℕ)
    → verdict (commit_rows c w number) ≡ accepted → finishes budget (commit_task c w number).actions ≡ false
    → Kept (also puts (put_by (commit number budget) (run_at c w r) puts)) (run budget (commit_task c w number).actions w) r
unfolding finishes
commit_cut {puts} {c} {w} g s number budget v f =
    let a = allowed c w number s v in
    let less : budget < stores (commit_task c w number).actions = leb-false _ _ f in
    kept_lost {puts = puts} (rw (task g number a) (cut_anywhere g number a budget (rw (task g number a) at less))) _
