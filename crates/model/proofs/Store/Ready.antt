-- Before a record is appended the buffer has room for it, after a flush if need be; cut inside that flush, nothing is lost.
use mathlib.Core.Path.{◌≡◌, refl}
use mathlib.Core.List.{List, [], ◌++◌}
use mathlib.Core.Bool.{Bool, true, false}
use Prim.Native.Nat.{ℕ, ◌+◌, ◌≤◌, ◌<◌}
use native.Mathlib.Omega.{arith}
use native.Mathlib.Nat.{zero-add}
use lib.Dec.{leb}
use lib.ListN.{length}
use borrow.Author.Tests.{leb-true, leb-false, le-leb, lt-leb}
use Rattle.model.specs.declared.Logs.{Logs}
use Rattle.model.specs.declared.Core.{Core}
use Rattle.model.specs.World.{World, Action, perform, run, stores}
use Rattle.model.specs.State.{kept_of, fill_of, end_of, after_flush, with_log}
use Rattle.model.specs.Append.{append, flush}
use Rattle.model.specs.Reference.{Reference}
use Rattle.model.specs.History.{Told}
use Rattle.model.proofs.Flush.{OnlyLogs, none_changed}
use Rattle.model.proofs.Ledger.Entry.{Entry, sum, on_disk}
use Rattle.model.proofs.Ledger.Order.{on}
use Rattle.model.proofs.Link.Flush.{flush_only}
use Rattle.model.proofs.Store.View.{Kept, Serving}
use Rattle.model.proofs.Store.Crash.{kept}
use Rattle.model.proofs.Store.Flush.{left, flush_serving, cut_safe}
use Rattle.model.proofs.Growth.{fill_flushed, ends_flushed, kept_flushed, Small, flush_longer, Longer}
use Rattle.model.proofs.Link.Words.{below_eight}
use Rattle.model.proofs.Ledger.Lists.{sum_flush}

-- The store with room for n words in the buffer of disk d: `flushing` is the flush, or nothing.
pub record Ready (x : ℕ) (home : ℕ → ℕ) (puts : Told) (c : Core) (w : World) (r : Reference) (d n : ℕ) : Type 0 where
  pub flushing : List Action
  pub logs : Logs
  pub flushed : List Entry
  pub buffered : List Entry
  pub serving : Serving x home puts (with_log c logs c.table) (perform flushing w) r flushed buffered
  pub room : fill_of logs d + n ≤ 64
  pub small : Small c.sizes logs
  pub kept : (e : ℕ) → kept_of logs e ≡ kept_of c.logs e
  pub ends : end_of logs d ≡ end_of c.logs d
  pub only : OnlyLogs w (perform flushing w)
  -- an append is the flush and an append to the room
  pub split : (words : List ℕ) → length words ≡ n
      → append c.sizes c.logs w.work d words
      ≡ record {
        actions = flushing ++ (append c.sizes logs (perform flushing w).work d words).actions;
        logs = (append c.sizes logs (perform flushing w).work d words).logs;
      }
  pub cut : (k : ℕ) → k < stores flushing → Kept puts (run k flushing w) r

module _ {x : ℕ} {home : ℕ → ℕ} {puts : Told} {c : Core} {w : World} {r : Reference} {F B : List Entry} (g : Serving x home puts c w r F B)
    (d n : ℕ) (below : d < c.sizes.disks) (small : Small c.sizes c.logs) (short : n ≤ 64) where
  fits : fill_of c.logs d + n ≤ 64 → Ready x home puts c w r d n
  unfolding perform with_log stores
  fits h =
      record {
        flushing = [];
        logs = c.logs;
        flushed = F;
        buffered = B;
        serving = g;
        room = h;
        small = small;
        kept = λ e. refl;
        ends = refl;
        only = none_changed w;
        split = λ words e. refl;
        cut = λ k l. absurd (omega arith);
      }

  abbrev flushing : List Action
  flushing = flush c.sizes c.logs w.work d

  only : OnlyLogs w (perform flushing w)
  only = flush_only c.sizes c.logs w d

  longer : Longer c.sizes d 0 c.logs (after_flush c.logs d)
  longer = flush_longer c.sizes c.logs d g.safe.devices.arrays.sized small (below_eight g.safe.devices.arrays below)

  emptied : fill_of (after_flush c.logs d) d ≡ 0
  emptied = fill_flushed c.logs d g.safe.devices.arrays.sized (below_eight g.safe.devices.arrays below)

  split : 64 < fill_of c.logs d + n → (words : List ℕ) → length words ≡ n
      → append c.sizes c.logs w.work d words
      ≡ record {
        actions = flushing ++ (append c.sizes (after_flush c.logs d) (perform flushing w).work d words).actions;
        logs = (append c.sizes (after_flush c.logs d) (perform flushing w).work d words).logs;
      }
  unfolding append
  split over words e =
      rw (
        only.work_same,
        lt-leb (fill_of c.logs d + length words) 64 (omega arith),
        emptied,
        zero-add (length words),
        le-leb (length words) 64 (omega arith),
        emptied,
        zero-add (length words),
      )

  full : 64 < fill_of c.logs d + n → Ready x home puts c w r d n
  full over =
      record {
        flushing = flushing;
        logs = after_flush c.logs d;
        flushed = F ++ on d B;
        buffered = left d B;
        serving = flush_serving g d below;
        room = omega (arith, emptied);
        small = longer.small;
        kept = kept_flushed c.logs d;
        ends = ends_flushed c.logs d g.safe.devices.arrays.sized (below_eight g.safe.devices.arrays below) d;
        only = only;
        split = split over;
        cut = λ k l. kept (cut_safe g.safe d below k l) puts g.told;
      }

  choose : (b : Bool) → leb (fill_of c.logs d + n) 64 ≡ b → Ready x home puts c w r d n
  choose true e = fits (leb-true _ _ e)
  choose false e = full (leb-false _ _ e)

  pub ready : Ready x home puts c w r d n
  ready = choose (leb (fill_of c.logs d + n) 64) refl

  -- its entries are those that there were: they have the same sums
  choose_sums : (f : Entry → ℕ) (b : Bool) (e : leb (fill_of c.logs d + n) 64 ≡ b)
      → sum f ((choose b e).flushed ++ (choose b e).buffered) ≡ sum f (F ++ B)
  unfolding choose fits full on
  choose_sums f true e = refl
  choose_sums f false e = sum_flush (on_disk d) f F B

  pub ready_sums : (f : Entry → ℕ) → sum f (ready.flushed ++ ready.buffered) ≡ sum f (F ++ B)
  unfolding ready
  ready_sums f = choose_sums f (leb (fill_of c.logs d + n) 64) refl
