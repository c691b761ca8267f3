-- The flush of a disk keeps what holds of an open store, also inside an abort.
use mathlib.Core.Path.{◌≡◌, refl, sym, ap, ◌∙◌}
use mathlib.Core.List.{List, ◌++◌}
use mathlib.Core.Bool.{true, not, ◌&&◌}
use Prim.Native.Nat.{ℕ, ◌+◌, ◌≤◌, ◌<◌}
use lib.Dec.{eqb}
use Rattle.model.specs.declared.Logs.{Logs}
use Rattle.model.specs.declared.Sizes.{Sizes}
use Rattle.model.specs.declared.Table.{Table}
use Rattle.model.specs.declared.Core.{Core}
use Rattle.model.specs.Sizes.{total, ring_of}
use Rattle.model.specs.World.{World, perform, run, stores}
use Rattle.model.specs.Memory.{copy_of, lengths_right}
use Rattle.model.specs.State.{start_of, kept_of, end_of, after_flush, with_log, place_of, first_at}
use Rattle.model.specs.Anchor.{sizes_on, epoch_on, start_on}
use Rattle.model.specs.Append.{flush}
use Rattle.model.specs.Transaction.{disk_of}
use Rattle.model.specs.Reference.{Reference}
use Rattle.model.specs.History.{Told}
use Rattle.model.proofs.KeptBases.{bases_carried}
use Rattle.model.proofs.Lengths.{Lengths, lengths_right_lem}
use Rattle.model.proofs.Run.{SameLengths, perform_lengths, run_lengths}
use Rattle.model.proofs.Flush.{OnlyLogs}
use Rattle.model.proofs.Ledger.Entry.{Entry, All, pick, on_disk}
use Rattle.model.proofs.Ledger.State.{flushed_disk, Same}
use Rattle.model.proofs.Ledger.Order.{on}
use Rattle.model.proofs.Ledger.Sums.{all_map}
use Rattle.model.proofs.Ledger.Good.{good_same}
use Rattle.model.proofs.Ledger.Flush.{flush_good}
use Rattle.model.proofs.Ledger.Lists.{all_flush, closed_flush, on_flush, some_flush}
use Rattle.model.proofs.Ledger.Ordered.{ordered_flush}
use Rattle.model.proofs.Link.Words.{Fit, Arrays, arrays_flushed, below_eight}
use Rattle.model.proofs.Link.Flush.{flush_link, flush_only, flush_cut, cut_only}
use Rattle.model.proofs.Store.View.{view, Devices, Safe, Accounts, Copies, Serving, before}
use Rattle.model.proofs.Store.Same.{owners_same}
use Rattle.model.proofs.Growth.{start_flushed, ends_flushed}
use Rattle.model.proofs.Store.WordsFor.{words_for_flush}

-- lists of the same lengths are as right
pub lengths_same : (s : Sizes) {v w : World} → SameLengths v w → lengths_right s (total s) w ≡ true → lengths_right s (total s) v ≡ true
unfolding lengths_right
lengths_same s k h = rw (k.pages, k.backups, k.logs, k.work) h

-- a change of logs and table that leaves starts and anchor
pub devices_kept : {c : Core} {w : World} → Devices c w → (l : Logs) (t : Table) (v : World)
    → ((d : ℕ) → start_of l d ≡ start_of c.logs d) → Arrays c.sizes l → v.anchor ≡ w.anchor → SameLengths v w
    → Devices (with_log c l t) v
unfolding with_log
devices_kept {c} g l t v starts arrays anchor lengths =
    record {
      bounds = g.bounds;
      bases = bases_carried c (with_log c l t) refl refl g.bases;
      anchor = lengths.anchor ∙ g.anchor;
      lengths = lengths_same c.sizes lengths g.lengths;
      sizes = ap sizes_on anchor ∙ g.sizes;
      epoch = ap epoch_on anchor ∙ g.epoch;
      formatted = g.formatted;
      starts = λ d h. ap (λ (a : List ℕ). start_on a d) anchor ∙ g.starts d h ∙ sym (starts d);
      arrays = arrays;
    }

-- the state after the flush
abbrev pub flushed_core : Core → ℕ → Core
flushed_core c d = with_log c (after_flush c.logs d) c.table

abbrev pub left : ℕ → List Entry → List Entry
left d B = pick (λ r. not (on_disk d r)) B

module _ {x : ℕ} {home : ℕ → ℕ} {c : Core} {w : World} {r : Reference} {F B : List Entry} (g : Safe x home c w r F B)
    (d : ℕ) (below : d < c.sizes.disks) where
  abbrev pub flushed_world : World
  flushed_world = perform (flush c.sizes c.logs w.work d) w

  room : end_of c.logs d ≤ kept_of c.logs d + ring_of c.sizes d
  room = (g.ends d below).0

  right : Lengths c.sizes (total c.sizes) w
  right = lengths_right_lem c.sizes (total c.sizes) w g.devices.lengths

  only : OnlyLogs w flushed_world
  only = flush_only c.sizes c.logs w d

  same : Same (total c.sizes) (flushed_disk (view c w r F B) d) (view (flushed_core c d) flushed_world r (F ++ on d B) (left d B))
  unfolding view flushed_disk with_log on copy_of
  same =
      record {
        epoch = refl;
        next = refl;
        pages = λ i h. rw only.pages_same;
        current = λ i h. rw only.backups_same;
        other = λ i h. rw only.backups_same;
        copies = λ i h. rw only.work_same;
        owners = λ i h. rw only.work_same;
        committed = λ i h. refl;
        writes = λ u h. refl;
        opened = λ u. refl;
        flushed = refl;
        buffered = refl;
      }

  pub flush_safe : Safe x home (flushed_core c d) flushed_world r (F ++ on d B) (left d B)
  unfolding with_log view after_flush kept_of start_of on
  flush_safe =
      record {
        devices =
            devices_kept g.devices (after_flush c.logs d) c.table flushed_world (start_flushed c.logs d)
            (arrays_flushed d g.devices.arrays) only.anchor_same (perform_lengths _ w);
        good = good_same same (flush_good home g.ordered.homed g.good d);
        link = flush_link g.link right g.devices.arrays d below room;
        ordered = ordered_flush g.ordered d;
        fit = all_flush (Fit c.sizes) (on_disk d) F B g.fit;
        ends = λ e h. rw (ends_flushed c.logs d g.devices.arrays.sized (below_eight g.devices.arrays below) e) (g.ends e h);
        sizes = g.sizes;
        shaped = g.shaped;
      }

  -- cut, it changes nothing that a restart sees
  module _ (n : ℕ) (cut : n < stores (flush c.sizes c.logs w.work d)) where
    abbrev pub cut_world : World
    cut_world = run n (flush c.sizes c.logs w.work d) w

    part_way : OnlyLogs w cut_world
    part_way = cut_only c.sizes c.logs w d n cut

    unmoved : Same (total c.sizes) (view c w r F B) (view c cut_world r F B)
    unfolding view copy_of
    unmoved =
        record {
          epoch = refl;
          next = refl;
          pages = λ i h. rw part_way.pages_same;
          current = λ i h. rw part_way.backups_same;
          other = λ i h. rw part_way.backups_same;
          copies = λ i h. rw part_way.work_same;
          owners = λ i h. rw part_way.work_same;
          committed = λ i h. refl;
          writes = λ u h. refl;
          opened = λ u. refl;
          flushed = refl;
          buffered = refl;
        }

    pub cut_safe : Safe x home c cut_world r F B
    unfolding with_log
    cut_safe =
        record {
          devices =
              devices_kept g.devices c.logs c.table cut_world (λ e. refl) g.devices.arrays part_way.anchor_same
              (run_lengths n _ w);
          good = good_same unmoved g.good;
          link = flush_cut g.link right g.devices.arrays d below room n cut;
          ordered = g.ordered;
          fit = g.fit;
          ends = g.ends;
          sizes = g.sizes;
          shaped = g.shaped;
        }

-- the table, the copy numbers and the write sets do not see where an entry of the log lies
module _ {x : ℕ} {home : ℕ → ℕ} {puts : Told} {c : Core} {w : World} {r : Reference} {F B : List Entry} (g : Serving x home puts c w r F B)
    (d : ℕ) (below : d < c.sizes.disks) where
  moved : (P : Entry → Type 0) → All P (F ++ B) → All P ((F ++ on d B) ++ left d B)
  unfolding on
  moved P h = all_flush P (on_disk d) F B h

  accounts : Accounts x home (flushed_core c d) (F ++ on d B) (left d B)
  unfolding with_log on after_flush kept_of start_of disk_of
  accounts =
      record {
        tabled = g.accounts.tabled;
        homes = g.accounts.homes;
        own = λ t o. moved _ (all_map (λ e h same. let k = h same in record { has = k.has; first = k.first; kind = k.kind }) (F ++ B) (g.accounts.own t o));
        firsts = λ t o h. rw (on_flush d F B (disk_of c t)) (g.accounts.firsts t o h);
        disks = g.accounts.disks;
        started = λ t o h. some_flush (λ e. eqb e.number t && eqb e.position (first_at c.table (place_of c.table t))) (on_disk d) F B ∙ g.accounts.started t o h;
        reserved = λ t o ne. g.accounts.reserved t o ne ∙ ap (λ (n : ℕ). 2 + n) (sym (words_for_flush t (on_disk d) F B));
        closed_or_open = moved _ (all_map (λ e h o. closed_flush (on_disk d) F B e.number ∙ h o) (F ++ B) g.accounts.closed_or_open);
        numbered = moved _ g.accounts.numbered;
      }

  copies : Copies (flushed_core c d) (flushed_world g.safe d below) (F ++ on d B) (left d B)
  unfolding with_log on after_flush kept_of start_of before copy_of
  copies =
      record {
        copied = g.copies.copied;
        pages = λ p h. rw (flush_only c.sizes c.logs w d).work_same (g.copies.pages p h);
        capped = moved _ g.copies.capped;
        early = moved _ g.copies.early;
        ends = λ o e h. rw (on_flush d F B e) (g.copies.ends o e h);
      }

  pub flush_serving : Serving x home puts (flushed_core c d) (flushed_world g.safe d below) r (F ++ on d B) (left d B)
  unfolding with_log after_flush kept_of start_of
  flush_serving =
      record {
        stage = g.stage;
        safe = flush_safe g.safe d below;
        accounts = accounts;
        copies = copies;
        sets = record { distinct = g.sets.distinct; has = g.sets.has; fits = g.sets.fits };
        owners = owners_same g.safe.devices.bounds refl refl refl (λ i h. rw (flush_only c.sizes c.logs w d).work_same) g.owners;
        told = λ e h. rw (on_flush d F B e) (g.told e h);
        marks = g.marks;
      }
