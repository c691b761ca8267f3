-- The end of a commit: the closing record goes behind the buffered ones of its disk, and the disk is flushed. Before the last
-- store the transaction is not committed; with it, its writes are in the committed contents.
use mathlib.Core.Path.{◌≡◌, refl, sym, ap, subst, fun_ext, ◌∙◌}
use mathlib.Core.List.{List, [], ◌∷◌, ◌++◌, map}
use mathlib.Core.Bool.{true, false}
use Prim.Native.Nat.{ℕ, ◌+◌, ◌≤◌, ◌<◌}
use native.Mathlib.Omega.{arith}
use native.Mathlib.Decide.{ℕ_discrete}
use lib.ListN.{get_or}
use Rattle.model.specs.declared.Sizes.{Sizes}
use Rattle.model.specs.declared.Core.{Core}
use Rattle.model.specs.Sizes.{total, ring_of}
use Rattle.model.specs.Record.{encode}
use Rattle.model.specs.Anchor.{backup_at}
use Rattle.model.specs.World.{World, Action, perform, stores, run}
use Rattle.model.specs.Memory.{copy_of, owner_of}
use Rattle.model.specs.State.{limit, kept_of, end_of, after_flush, with_log, without, is_open}
use Rattle.model.specs.Append.{Appended, append, flush}
use Rattle.model.specs.Reference.{Reference, writes_of, removed, applied, words_in}
use Rattle.model.specs.History.{Told, also}
use Rattle.model.proofs.Lengths.{Lengths, lengths_right_lem}
use Rattle.model.proofs.Run.{SameLengths, same_lengths_trans, perform_lengths, run_lengths}
use Rattle.model.proofs.Flush.{OnlyLogs}
use Rattle.model.proofs.Geometry.{page_of, slot_start, slot_in}
use Rattle.model.proofs.Slots.{patch_of, Shaped, words_applied, applied_shaped}
use Rattle.model.proofs.WriteSets.{writes_removed_other}
use Rattle.model.proofs.Places.{open_place, close_open}
use Rattle.model.proofs.Ledger.Entry.{Entry, record_of, is_close, patched}
use Rattle.model.proofs.Ledger.State.{committed_by, Same}
use Rattle.model.proofs.Ledger.Order.{Ordered, size_of, on}
use Rattle.model.proofs.Ledger.Word.{except_open}
use Rattle.model.proofs.Ledger.Ordered.{ordered_commit}
use Rattle.model.proofs.Ledger.Good.{Good, good_same}
use Rattle.model.proofs.Ledger.Close.{commit_good}
use Rattle.model.proofs.Link.Words.{Fit, Link, lengths_perform, arrays_flushed, arrays_longer, below_eight, Arrays}
use Rattle.model.proofs.Link.Flush.{flush_link, flush_only, flush_cut, cut_only}
use Rattle.model.proofs.Link.Buffered.{InBuffer, owners_same, copies_same}
use Rattle.model.proofs.Store.View.{Kept, view, Devices, Safe, Accounts, Copies, Serving, before, open_used}
use Rattle.model.proofs.Store.Flush.{devices_kept, left}
use Rattle.model.proofs.Store.Logged.{longer, in_buffer, link_logged, ordered_logged, logged_stores, MayLog}
use Rattle.model.proofs.Store.Linked.{kept_linked}
use Rattle.model.proofs.Store.OneMore.{since_still}
use Rattle.model.proofs.Store.Closed.{all_writes, sets_closed, owners_closed, accounts_closed, committed_log, lists, moved, closed, bounds, found, words, told, was_open}
use Rattle.model.proofs.Growth.{start_flushed, kept_flushed, ends_flushed, Longer}
use Rattle.model.proofs.Booleans.{true_false}

-- the reference after the commit of a transaction
abbrev pub committed_reference : Reference → ℕ → Reference
committed_reference r n =
    record { sizes = r.sizes; committed = applied r.sizes (writes_of n r.write_sets) r.committed; write_sets = removed n r.write_sets }

-- The closing record e of an open transaction, appended where the buffer has room, and its disk flushed.
module _ {home : ℕ → ℕ} {puts : Told} {c : Core} {w : World} {r : Reference} {F B : List Entry} (g : Serving 0 home puts c w r F B) (e : Entry)
    (opened : is_open c.table e.number ≡ true) (closes : is_close e ≡ true) (may : MayLog home c F B e) where
  abbrev added : Appended
  added = append c.sizes c.logs w.work e.disk (encode (record_of e))

  abbrev added_world : World
  added_world = perform added.actions w

  abbrev flushing : List Action
  flushing = flush c.sizes added.logs added_world.work e.disk

  abbrev done_world : World
  done_world = perform flushing added_world

  abbrev done_core : Core
  done_core = with_log c (after_flush added.logs e.disk) (without c.table e.number)

  abbrev done_reference : Reference
  done_reference = committed_reference r e.number

  abbrev gone : List Entry
  gone = committed_log F B e

  abbrev rest : List Entry
  rest = left e.disk B

  below : e.disk < c.sizes.disks
  below = may.below

  more : Longer c.sizes e.disk (size_of e) c.logs added.logs
  more = longer g.safe e may

  arrays : Arrays c.sizes added.logs
  arrays = arrays_longer g.safe.devices.arrays more

  buffer : InBuffer c.sizes e.disk w added_world
  buffer = in_buffer g.safe e may

  linked : Link c.sizes added.logs added_world F (B ++ e ∷ [])
  linked = link_logged g.safe e may

  right : Lengths c.sizes (total c.sizes) added_world
  right = lengths_perform added.actions (lengths_right_lem c.sizes (total c.sizes) w g.safe.devices.lengths)

  ring_room : end_of added.logs e.disk ≤ kept_of added.logs e.disk + ring_of c.sizes e.disk
  ring_room = rw (more.kept_same e.disk, more.end_longer) may.in_ring

  only : OnlyLogs added_world done_world
  only = flush_only c.sizes added.logs added_world e.disk

  -- the append stores nothing
  pub closing_append : stores added.actions ≡ 0
  closing_append = logged_stores g.safe e may

  -- cut inside that flush, nothing is lost
  pub closing_cut : (k : ℕ) → k < stores flushing → Kept puts (run k flushing added_world) r
  closing_cut k h =
      let part_way = cut_only c.sizes added.logs added_world e.disk k h in
      kept_linked g.safe (flush_cut linked right arrays e.disk below ring_room k h)
      (part_way.anchor_same ∙ buffer.anchor_same) (part_way.backups_same ∙ buffer.backups_same)
      (same_lengths_trans (run_lengths k flushing added_world) (perform_lengths added.actions w)) more.kept_same puts g.told

  lengths : SameLengths done_world w
  lengths = same_lengths_trans (perform_lengths flushing added_world) (perform_lengths added.actions w)

  kept_same : (d : ℕ) → kept_of (after_flush added.logs e.disk) d ≡ kept_of c.logs d
  kept_same d = kept_flushed added.logs e.disk d ∙ more.kept_same d

  devices : Devices done_core done_world
  devices =
      devices_kept g.safe.devices (after_flush added.logs e.disk) (without c.table e.number) done_world (λ d. start_flushed added.logs e.disk d ∙ more.start_same d)
      (arrays_flushed e.disk arrays) (only.anchor_same ∙ buffer.anchor_same) lengths

  -- each log's end is where it was, on the commit's disk behind the closing record
  ends : (d : ℕ) → d < c.sizes.disks → Dec (d ≡ e.disk)
      → (end_of added.logs d ≤ kept_of added.logs d + ring_of c.sizes d) × (end_of added.logs d ≤ limit)
  unfolding end_of
  ends d h (yes at) = rw at (ring_room, omega (arith, more.end_longer, may.in_limit))
  ends d h (no ne) = rw (more.kept_same d, more.tail_same d ne, more.fill_same d ne) (g.safe.ends d h)

  -- the owners and the copy numbers stay
  owner_same : (i : ℕ) → i < total c.sizes → owner_of c.sizes done_world.work i ≡ owner_of c.sizes w.work i
  owner_same i h = ap (λ (m : List ℕ). owner_of c.sizes m i) only.work_same ∙ owners_same buffer i below

  epoch_same : (p : ℕ) → copy_of c.sizes done_world.work p ≡ copy_of c.sizes w.work p
  epoch_same p = ap (λ (m : List ℕ). copy_of c.sizes m p) only.work_same ∙ copies_same buffer p below

  -- the committed contents are those before with the transaction's writes
  words_committed : (i : ℕ) → get_or (words_in done_reference.committed) i 0
      ≡ patched i (map (patch_of c.sizes) (writes_of e.number r.write_sets)) (get_or (words_in r.committed) i 0)
  words_committed i =
      ap (λ (s : Sizes). get_or (words_in (applied s (writes_of e.number r.write_sets) r.committed)) i 0) g.safe.sizes
      ∙ words_applied c.sizes (writes_of e.number r.write_sets) r.committed g.safe.shaped
      (all_writes _ e.number r.write_sets g.sets.fits) i

  same : Same (total c.sizes) (committed_by (view c w r F B) e) (view done_core done_world done_reference gone rest)
  unfolding view committed_by with_log on
  same =
      record {
        epoch = refl;
        next = refl;
        pages = λ i h. ap (λ (m : List ℕ). get_or m i 0) (sym (only.pages_same ∙ buffer.pages_same));
        current = λ i h. ap (λ (m : List ℕ). get_or m (backup_at c.sizes c.epoch + i) 0) (sym (only.backups_same ∙ buffer.backups_same));
        other = λ i h. ap (λ (m : List ℕ). get_or m (backup_at c.sizes (c.epoch + 1) + i) 0) (sym (only.backups_same ∙ buffer.backups_same));
        copies = λ i h. sym (epoch_same (page_of c.sizes i));
        owners = λ i h. sym (owner_same (slot_start c.sizes i) (slot_in c.sizes i h).start_lt);
        committed = λ i h. sym (words_committed i);
        writes =
            λ u o. ap (map (patch_of c.sizes))
            (sym (writes_removed_other e.number r.write_sets u (except_open (is_open c.table) e.number u o).1));
        opened = λ u. sym (close_open c.table g.accounts.tabled e.number opened u);
        flushed = refl;
        buffered = refl;
      }

  good : Good 0 (total c.sizes) (view done_core done_world done_reference gone rest)
  unfolding view
  good = good_same same (commit_good home e g.safe.ordered.homed may.here closes opened g.safe.good)

  safe : Safe 0 home done_core done_world done_reference gone rest
  unfolding with_log
  safe =
      record {
        devices = devices;
        good = good;
        link =
            lists F B e (Link c.sizes (after_flush added.logs e.disk) done_world)
            (flush_link linked right arrays e.disk below ring_room);
        ordered =
            subst (λ (start : ℕ → ℕ). Ordered c.sizes.disks start home gone rest)
            (fun_ext (λ d. sym (kept_flushed added.logs e.disk d)))
            (ordered_commit B e (ordered_logged g.safe e may));
        fit = moved F B e (Fit c.sizes) g.safe.fit may.fit;
        ends =
            λ d h. rw (kept_flushed added.logs e.disk d, ends_flushed added.logs e.disk more.sized (below_eight arrays below) d)
            (ends d h (ℕ_discrete d e.disk));
        sizes = g.safe.sizes;
        shaped =
            subst (λ (s : Sizes). Shaped c.sizes (applied s (writes_of e.number r.write_sets) r.committed)) (sym g.safe.sizes)
            (applied_shaped c.sizes (writes_of e.number r.write_sets) r.committed g.safe.shaped
            (all_writes _ e.number r.write_sets g.sets.fits));
      }

  accounts : Accounts 0 home done_core gone rest
  accounts =
      accounts_closed g.accounts e gone rest opened closes (λ u ne o z. (open_place c.table u o).0 z) (moved F B e) (closed F B e closes) (bounds F B e)
      (after_flush added.logs e.disk) kept_same (open_used g.safe e.number opened).1 (found F B e) (words F B e)

  not_change : {X : Type 0} → is_close e ≡ false → X
  not_change o = true_false closes o

  copies : Copies done_core done_world gone rest
  unfolding with_log before
  copies =
      record {
        copied = g.copies.copied;
        pages = λ p h. epoch_same p ∙ g.copies.pages p h;
        capped = moved F B e _ g.copies.capped not_change;
        early = moved F B e _ g.copies.early (λ b. not_change);
        ends = λ o d h. rw (kept_same d) (bounds F B e _ _ d (g.copies.ends o d h));
      }

  -- whole, the transaction is committed
  pub closing_serves : Serving 0 home (also puts (record { disk = e.disk; content = record_of e } ∷ [])) done_core done_world done_reference gone rest
  unfolding with_log
  closing_serves =
      record {
        stage = g.stage;
        safe = safe;
        accounts = accounts;
        copies = copies;
        sets = sets_closed g.accounts.tabled e.number opened g.sets (after_flush added.logs e.disk) done_reference refl;
        owners =
            owners_closed g.accounts.tabled e.number opened g.safe.devices.bounds g.owners owner_same
            (after_flush added.logs e.disk) done_reference refl;
        told = λ d h. since_still (kept_same d) (λ t y l. (was_open c.table g.accounts.tabled e.number opened t (y l)).0) (told F B e puts.puts d (g.told d h));
        marks = g.marks;
      }
