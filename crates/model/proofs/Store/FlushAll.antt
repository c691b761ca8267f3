-- The flushes of all disks in order keep what holds of an open store, and leave nothing buffered; cut anywhere, nothing is lost.
use mathlib.Core.Path.{◌≡◌, refl, subst, ◌∙◌}
use mathlib.Core.List.{List, [], ◌∷◌, ◌++◌}
use mathlib.Core.Bool.{Bool, true, false}
use Prim.Native.Nat.{ℕ, zero, suc, ◌-◌, ◌≤◌, ◌<◌}
use native.Mathlib.Omega.{arith}
use lib.Dec.{ltb}
use borrow.Author.Tests.{ltb-true, ltb-false, eq-eqb}
use Rattle.model.specs.declared.Logs.{Logs}
use Rattle.model.specs.declared.Core.{Core}
use Rattle.model.specs.Below.{join_below}
use Rattle.model.specs.World.{World, Action, perform, run, stores}
use Rattle.model.specs.State.{tail_of, fill_of, end_of, after_flush, with_log}
use Rattle.model.specs.Append.{flush}
use Rattle.model.specs.Reference.{Reference}
use Rattle.model.specs.History.{Told}
use Rattle.model.proofs.Below.{below_suc}
use Rattle.model.proofs.Run.{perform_append, stores_append, run_append, run_cut}
use Rattle.model.proofs.Ledger.Entry.{Entry, All, pick, on_disk}
use Rattle.model.proofs.Ledger.Order.{on}
use Rattle.model.proofs.Ledger.Sums.{all_right}
use Rattle.model.proofs.Ledger.Lists.{on_emptied, on_other_left}
use Rattle.model.proofs.Link.Words.{Arrays, below_eight}
use Rattle.model.proofs.Link.Flush.{flush_only}
use Rattle.model.proofs.Store.View.{Kept, Serving}
use Rattle.model.proofs.Store.Crash.{kept}
use Rattle.model.proofs.Store.Flush.{left, flush_serving, cut_safe}
use Rattle.model.proofs.Growth.{ends_flushed, tail_flushed_other, fill_flushed_other}

-- entries of no disk are none
none_left : (disks : ℕ) (l : List Entry) → All (λ r. r.disk < disks) l → ((d : ℕ) → d < disks → on d l ≡ []) → l ≡ []
unfolding on pick on_disk
none_left disks [] inside none = refl
none_left disks (r ∷ l) inside none =
    let here = none r.disk inside.0 in
    let some : r ∷ pick (on_disk r.disk) l ≡ [] = rw (eq-eqb r.disk r.disk refl) at here in
    let z : ◌≡◌ {A = ℕ} 0 1 = cc in
    absurd (omega arith)

-- the flushes of the disks below n, each from the logs and the buffers at entry
abbrev pub flushes : Core → World → ℕ → List Action
flushes c w n = join_below (flush c.sizes c.logs w.work) n

-- The store with the disks below n flushed.
pub record Emptied (x : ℕ) (home : ℕ → ℕ) (puts : Told) (c : Core) (w : World) (r : Reference) (n : ℕ) : Type 0 where
  pub logs : Logs
  pub flushed : List Entry
  pub buffered : List Entry
  pub serving : Serving x home puts (with_log c logs c.table) (perform (flushes c w n) w) r flushed buffered
  pub ends : (d : ℕ) → d < c.sizes.disks → end_of logs d ≡ end_of c.logs d
  pub tails : (d : ℕ) → n ≤ d → tail_of logs d ≡ tail_of c.logs d
  pub fills : (d : ℕ) → n ≤ d → fill_of logs d ≡ fill_of c.logs d
  pub none : (d : ℕ) → d < n → on d buffered ≡ []
  pub memory : (perform (flushes c w n) w).work ≡ w.work
  pub cut : (k : ℕ) → k < stores (flushes c w n) → Kept puts (run k (flushes c w n) w) r

-- with all disks flushed nothing is buffered
pub none_buffered : {x : ℕ} {home : ℕ → ℕ} {puts : Told} {c : Core} {w : World} {r : Reference} (e : Emptied x home puts c w r c.sizes.disks)
    → e.buffered ≡ []
unfolding with_log
none_buffered {c = c} e =
    none_left c.sizes.disks e.buffered (all_right _ e.flushed e.buffered e.serving.safe.ordered.inside) e.none

module _ {x : ℕ} {home : ℕ → ℕ} {puts : Told} {c : Core} {w : World} {r : Reference} {F B : List Entry}
    (g : Serving x home puts c w r F B) where
  start : Emptied x home puts c w r 0
  unfolding with_log join_below perform stores
  start =
      record {
        logs = c.logs;
        flushed = F;
        buffered = B;
        serving = g;
        ends = λ d h. refl;
        tails = λ d h. refl;
        fills = λ d h. refl;
        none = λ d h. absurd (omega arith);
        memory = refl;
        cut = λ k h. absurd (omega arith);
      }

  -- one disk more
  module _ (n : ℕ) (below : n < c.sizes.disks) (e : Emptied x home puts c w r n) where
    abbrev now : World
    now = perform (flushes c w n) w

    abbrev one : List Action
    one = flush c.sizes c.logs w.work n

    -- the flush from the logs at entry is the one from the logs now
    same : flush c.sizes e.logs now.work n ≡ one
    unfolding flush
    same = rw (e.tails n (omega arith), e.fills n (omega arith), e.memory)

    Done : List Action → Type 0
    Done l =
        Serving x home puts (with_log c (after_flush e.logs n) c.table) (perform l now) r (e.flushed ++ on n e.buffered) (left n e.buffered)

    whole : Done one
    unfolding Done with_log
    whole = subst Done same (flush_serving e.serving n below)

    part_way : (k : ℕ) → k < stores one → Kept puts (run k one now) r
    unfolding with_log
    part_way k h =
        subst (λ (l : List Action). k < stores l → Kept puts (run k l now) r) same
        (λ less. kept (cut_safe e.serving.safe n below k less) puts e.serving.told) h

    cut_more : (k : ℕ) → k < stores (flushes c w n ++ one) → Kept puts (run k (flushes c w n ++ one) w) r
    cut_more k h = go (ltb k (stores (flushes c w n))) refl
      where
        go : (b : Bool) → ltb k (stores (flushes c w n)) ≡ b → Kept puts (run k (flushes c w n ++ one) w) r
        go true l = rw (run_cut k (flushes c w n) one w (ltb-true _ _ l)) (e.cut k (ltb-true _ _ l))
        go false l =
            rw (run_append k (flushes c w n) one w (ltb-false _ _ l))
            (part_way (k - stores (flushes c w n))
            (omega (arith, ltb-false k (stores (flushes c w n)) l, stores_append (flushes c w n) one)))

    arrays : Arrays c.sizes e.logs
    unfolding with_log
    arrays = e.serving.safe.devices.arrays

    moved : (perform one now).work ≡ now.work
    moved = subst (λ (l : List Action). (perform l now).work ≡ now.work) same (flush_only c.sizes e.logs now n).work_same

    ends_more : (d : ℕ) → d < c.sizes.disks → end_of (after_flush e.logs n) d ≡ end_of c.logs d
    ends_more d h = ends_flushed e.logs n arrays.sized (below_eight arrays below) d ∙ e.ends d h

    none_more : (d : ℕ) → d < suc n → on d (left n e.buffered) ≡ []
    none_more =
        below_suc (λ (d : ℕ). on d (left n e.buffered) ≡ []) n
        (λ d h. on_other_left n e.flushed e.buffered d (λ z. omega arith) ∙ e.none d h)
        (on_emptied n e.flushed e.buffered)

    step : Emptied x home puts c w r (suc n)
    unfolding join_below Done
    step =
        record {
          logs = after_flush e.logs n;
          flushed = e.flushed ++ on n e.buffered;
          buffered = left n e.buffered;
          serving = rw (perform_append (flushes c w n) one w) whole;
          ends = ends_more;
          tails = λ d h. tail_flushed_other e.logs n d (λ z. omega arith) ∙ e.tails d (omega arith);
          fills = λ d h. fill_flushed_other e.logs n d (λ z. omega arith) ∙ e.fills d (omega arith);
          none = none_more;
          memory = rw (perform_append (flushes c w n) one w) (moved ∙ e.memory);
          cut = cut_more;
        }

  -- the disks below n flushed
  pub flush_below : (n : ℕ) → n ≤ c.sizes.disks → Emptied x home puts c w r n
  flush_below zero h = start
  flush_below (suc n) h = step n (omega arith) (flush_below n (omega arith))
