-- While the store serves, what was put after the stored stretch is in the buffers, and an abort finds its transaction's records.
use mathlib.Core.Path.{◌≡◌, sym, ap, subst, ◌∙◌}
use mathlib.Core.List.{List, ◌++◌, map, map-append}
use mathlib.Core.Bool.{true}
use Prim.Native.Nat.{ℕ, ◌<◌}
use lib.Dec.{leb}
use Rattle.model.specs.declared.Core.{Core}
use Rattle.model.specs.Scan.{placed}
use Rattle.model.specs.World.{World}
use Rattle.model.specs.State.{start_of, is_open, place_of, first_at, has_update}
use Rattle.model.specs.Transaction.{disk_of}
use Rattle.model.specs.Reference.{Reference}
use Rattle.model.specs.History.{Told, updates_put}
use Rattle.model.specs.LogPromise.{AbortReads, Buffered}
use Rattle.model.proofs.Ledger.Entry.{Entry, record_of, pick}
use Rattle.model.proofs.Growth.{kept_start}
use Rattle.model.proofs.Ledger.Order.{words_of, on, Laid, boundary}
use Rattle.model.proofs.Ledger.Positions.{boundary_suffix}
use Rattle.model.proofs.Link.Words.{placed_entries}
use Rattle.model.proofs.Store.View.{Serving}
use Rattle.model.proofs.Store.Left.{scanned}
use Rattle.model.proofs.Store.Told.{updates_told}
use Rattle.model.proofs.Store.Later.{split_at}
use Rattle.model.proofs.Store.Truth.{log_entries}

module _ {home : ℕ → ℕ} {puts : Told} {c : Core} {w : World} {r : Reference} {F B : List Entry} (g : Serving 0 home puts c w r F B) where
  -- an abort's records are the last of its disk's, from its first on
  abort_reads : (t : ℕ) → is_open c.table t ≡ true → has_update c.table (place_of c.table t) ≡ true
      → AbortReads c w (disk_of c t) t (map record_of (on (disk_of c t) F) ++ map record_of (on (disk_of c t) B))
  unfolding words_of
  abort_reads t opened has =
      let d : ℕ = disk_of c t in
      let below = g.accounts.disks t opened in
      let first : ℕ = first_at c.table (place_of c.table t) in
      let entries : List Entry = on d F ++ on d B in
      let from : List Entry = pick (λ q. leb first q.position) entries in
      let laid : Laid (start_of c.logs d) entries = rw (kept_start c.logs d) at (g.safe.ordered.laid d below) in
      let edge : boundary first (start_of c.logs d) entries ≡ true = rw (kept_start c.logs d) at (g.accounts.firsts t opened has) in
      let s = split_at (start_of c.logs d) first entries laid edge in
      record {
        before = map record_of s.gone;
        from = map record_of from;
        parts = sym (map-append record_of (on d F) (on d B)) ∙ ap (map record_of) s.whole ∙ map-append record_of s.gone from;
        first = s.cut;
        reads = scanned g t opened below has ∙ sym (placed_entries first from (boundary_suffix (start_of c.logs d) first entries laid edge).laid);
      }

  pub buffered : (d : ℕ) → d < c.sizes.disks → Buffered puts c w d (map record_of (on d F)) (map record_of (on d B))
  unfolding words_of
  buffered d below =
      record {
        buffer = g.safe.link.buffer d below;
        reads =
            log_entries g d below ∙ sym (placed_entries (start_of c.logs d) (on d F ++ on d B) (rw (kept_start c.logs d) at (g.safe.ordered.laid d below)))
            ∙ ap (placed (start_of c.logs d)) (map-append record_of (on d F) (on d B));
        aborts = λ t opened here has.
            subst (λ (n : ℕ). AbortReads c w n t (map record_of (on n F) ++ map record_of (on n B))) here (abort_reads t opened has);
        undoes = λ t opened here. sym (updates_told g t opened (g.accounts.disks t opened)) ∙ ap (λ (n : ℕ). updates_put puts n t) here;
      }
