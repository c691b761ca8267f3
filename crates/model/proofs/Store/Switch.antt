-- A checkpoint's last store keeps what holds of an open store: with all flushed and copied, the other backup counts and the log
-- begins at the new starts.
use mathlib.Core.Path.{◌≡◌, refl, sym, ap, ◌∙◌}
use mathlib.Core.List.{List, [], ◌++◌}
use mathlib.Core.Bool.{Bool, true, false}
use Prim.Native.Nat.{ℕ, ◌+◌, ◌≤◌, ◌<◌}
use native.Mathlib.Omega.{arith}
use lib.ListN.{length, get_or, replicate, length-append, length-replicate, get_or-replicate}
use borrow.Author.Tests.{le-ltb}
use Rattle.model.specs.declared.Core.{Core}
use Rattle.model.specs.Word.{part}
use Rattle.model.specs.Sizes.{total, ring_of, ring_word}
use Rattle.model.specs.World.{World}
use Rattle.model.specs.Memory.{copy_of, buffer_of}
use Rattle.model.specs.State.{limit, start_of, kept_of, tail_of, fill_of, end_of, has_update, place_of, is_open, switched_to}
use Rattle.model.specs.Causes.{when_open, tail_in}
use Rattle.model.specs.Checkpoint.{per_disk, new_start}
use Rattle.model.specs.Transaction.{disk_of}
use Rattle.model.specs.Reference.{Reference}
use Rattle.model.specs.History.{Told, start_put, started_from}
use Rattle.model.proofs.KeptBases.{bases_carried}
use Rattle.model.proofs.Reader.{Holds, holds_append}
use Rattle.model.proofs.Run.{SameLengths}
use Rattle.model.proofs.Growth.{kept_start}
use Rattle.model.proofs.Ledger.Entry.{Entry, All, pick}
use Rattle.model.proofs.Ledger.State.{switched, Same}
use Rattle.model.proofs.Ledger.Order.{Ordered, words_of, on, boundary}
use Rattle.model.proofs.Ledger.Sums.{all_map}
use Rattle.model.proofs.Ledger.Lists.{words_none}
use Rattle.model.proofs.Ledger.Positions.{Suffix, boundary_from}
use Rattle.model.proofs.Ledger.Ordered.{from_start, all_from_start, switch_suffix, ordered_switch}
use Rattle.model.proofs.Ledger.Good.{good_same}
use Rattle.model.proofs.Ledger.Checkpoint.{switch_good}
use Rattle.model.proofs.Ledger.Switch.{placed_from_start}
use Rattle.model.proofs.Link.Words.{Link}
use Rattle.model.proofs.Store.View.{view, Devices, Safe, Accounts, Copies, SinceOn, Serving, before}
use Rattle.model.proofs.Store.Same.{sets_same, owners_same}
use Rattle.model.proofs.Store.Flush.{lengths_same}
use Rattle.model.proofs.Store.NewStarts.{first_position, boundary_later, new_boundary, start_early, first_stays, reserved_stays, placed, page_copied_lem, may, live_from_start}
use Rattle.model.proofs.Store.ToldStarts.{new_start_told}
use Rattle.model.proofs.Store.Later.{since_later}
use Rattle.model.proofs.Store.Starts.{Moved, backup_back}
use Rattle.model.proofs.Booleans.{true_false}
use Rattle.model.proofs.PerDisk.{get_or_per_disk, length_per_disk}

-- the state that a checkpoint's end leaves
abbrev pub switched_core : Core → Core
switched_core c =
    switched_to c
    (record { starts = per_disk c.sizes (new_start c); tails = per_disk c.sizes (end_of c.logs); fills = replicate 8 0 })

module _ {home : ℕ → ℕ} {puts : Told} {c : Core} {w : World} {r : Reference} {F : List Entry} (g : Serving 0 home puts c w r F [])
    (copying : when_open c.stage ≡ false) (copied : c.sizes.pages ≤ c.checkpoint.copied) where
  abbrev retains : Entry → Bool
  retains = from_start (new_start c)

  cut : (d : ℕ) → d < c.sizes.disks → boundary (new_start c d) (kept_of c.logs d) (on d F) ≡ true
  cut = new_boundary g copying copied

  -- The world after the stores.
  module _ {v : World} (moved : Moved c.epoch (new_start c) c.sizes.disks w v) (lengths : SameLengths v w) where
    abbrev now : Core
    now = switched_core c

    eight : c.sizes.disks ≤ 8
    eight = g.safe.devices.arrays.disks

    start_now : (d : ℕ) → d < c.sizes.disks → start_of now.logs d ≡ new_start c d
    unfolding start_of
    start_now d h = get_or_per_disk c.sizes (new_start c) d eight h

    kept_now : (d : ℕ) → d < c.sizes.disks → kept_of now.logs d ≡ new_start c d
    kept_now d h = kept_start now.logs d ∙ start_now d h

    fill_now : (d : ℕ) → d < c.sizes.disks → fill_of now.logs d ≡ 0
    unfolding fill_of
    fill_now d h = get_or-replicate 8 d 0 0 (omega (arith, eight))

    -- nothing is buffered, so the logs end at their tails
    tail_now : (d : ℕ) → d < c.sizes.disks → tail_of now.logs d ≡ tail_of c.logs d
    unfolding tail_of end_of on pick
    tail_now d h =
        let empty : fill_of c.logs d ≡ 0 = g.safe.link.fill d h ∙ ap length words_none in
        get_or_per_disk c.sizes (end_of c.logs) d eight h ∙ omega arith

    suffix : (d : ℕ) → d < c.sizes.disks → Suffix (kept_of c.logs d) (new_start c d) (on d F) (on d (pick retains F))
    suffix d h = switch_suffix g.safe.ordered (new_start c) d h (cut d h)

    devices : Devices now v
    devices =
        record {
          bounds = g.safe.devices.bounds;
          bases = bases_carried c now refl refl g.safe.devices.bases;
          anchor = lengths.anchor ∙ g.safe.devices.anchor;
          lengths = lengths_same c.sizes lengths g.safe.devices.lengths;
          sizes = moved.sizes ∙ g.safe.devices.sizes;
          epoch = moved.epoch;
          formatted = omega arith;
          starts = λ d h. moved.starts d h ∙ sym (start_now d h);
          arrays =
              record {
                sized = record {
                  starts = length_per_disk c.sizes (new_start c);
                  tails = length_per_disk c.sizes (end_of c.logs);
                  fills = length-replicate {A = ℕ} 8 0;
                };
                disks = eight;
                ring = g.safe.devices.arrays.ring;
              };
        }

    same : Same (total c.sizes) (switched (view c w r F []) retains) (view now v r (pick retains F) [])
    unfolding view switched copy_of
    same =
        record {
          epoch = refl;
          next = refl;
          pages = λ i h. rw moved.pages_same;
          current = λ i h. rw moved.backups_same;
          other = λ i h. rw (moved.backups_same, backup_back c.sizes c.epoch);
          copies = λ i h. rw moved.work_same;
          owners = λ i h. rw moved.work_same;
          committed = λ i h. refl;
          writes = λ u h. refl;
          opened = λ u. refl;
          flushed = refl;
          buffered = refl;
        }

    -- the words from the new start on are those of the entries that it retains
    held : (d : ℕ) → d < c.sizes.disks
        → Holds (λ q. get_or v.logs (ring_word c.sizes d q) 0) (new_start c d) (words_of (on d (pick retains F)))
    held d h =
        let k = suffix d h in
        let at : kept_of c.logs d + length k.front ≡ new_start c d = omega (arith, k.cut) in
        rw moved.logs_same (rw at at (holds_append _ (kept_of c.logs d) k.front _ (rw k.words at (g.safe.link.held d h))).1)

    link : Link c.sizes now.logs v (pick retains F) []
    unfolding tail_in buffer_of part on pick
    link =
        record {
          held = λ d h. rw (kept_now d h) (held d h);
          tail = λ d h.
              let k = suffix d h in
              let both = ap length k.words ∙ length-append k.front (words_of (on d (pick retains F))) in
              omega (arith, kept_now d h, tail_now d h, g.safe.link.tail d h, k.cut);
          stored = λ d h. rw moved.logs_same (g.safe.link.stored d h ∙ sym (tail_now d h));
          buffer = λ d h. rw (fill_now d h) (sym words_none);
          fill = λ d h. rw words_none (fill_now d h);
        }

    ordered : Ordered c.sizes.disks (kept_of now.logs) home (pick retains F) []
    ordered =
        let o = ordered_switch g.safe.ordered (new_start c) cut in
        record { laid = λ d h. rw (kept_now d h) (o.laid d h); inside = o.inside; homed = o.homed; last = o.last }

    -- what holds of all entries holds of those that it retains
    thin : (P : Entry → Type 0) → All P (F ++ []) → All P (pick retains F ++ [])
    thin P h = all_from_start g.safe.ordered (new_start c) P h

    -- a log ends where it did, and it begins no earlier
    ends : (d : ℕ) → d < c.sizes.disks
        → (end_of now.logs d ≤ kept_of now.logs d + ring_of c.sizes d) × (end_of now.logs d ≤ limit)
    unfolding end_of
    ends d h =
        let now_end : end_of now.logs d ≤ end_of c.logs d = omega (arith, tail_now d h, fill_now d h) in
        let later = boundary_from (new_start c d) (kept_of c.logs d) (on d F) (cut d h) in
        let old = g.safe.ends d h in
        (omega (arith, kept_now d h), omega arith)

    safe : Safe 0 home now v r (pick retains F) []
    safe =
        record {
          devices = devices;
          good = good_same same (switch_good g.safe.good (may g copying copied));
          link = link;
          ordered = ordered;
          fit = thin _ g.safe.fit;
          ends = ends;
          sizes = g.safe.sizes;
          shaped = g.safe.shaped;
        }

    first_kept : (t : ℕ) → is_open c.table t ≡ true → has_update c.table (place_of c.table t) ≡ true
        → boundary (first_position c t) (kept_of now.logs (disk_of c t)) (on (disk_of c t) (pick retains F) ++ on (disk_of c t) []) ≡ true
    first_kept t o h =
        let d : ℕ = disk_of c t in
        let below : d < c.sizes.disks = g.accounts.disks t o in
        rw (kept_now d below)
        (boundary_later g.safe.ordered (new_start c) d (first_position c t) below (cut d below)
        (g.accounts.firsts t o h) (start_early g copying copied t o h))

    accounts : Accounts 0 home now (pick retains F) []
    unfolding disk_of
    accounts =
        record {
          tabled = g.accounts.tabled;
          homes = g.accounts.homes;
          own = λ t o.
              thin _
              (all_map (λ e h same. let k = h same in record { has = k.has; first = k.first; kind = k.kind }) (F ++ [])
              (g.accounts.own t o));
          firsts = first_kept;
          disks = g.accounts.disks;
          started = first_stays g copying copied;
          reserved = reserved_stays g copying copied;
          closed_or_open = (placed_from_start g.safe.ordered (new_start c) (placed g copying copied) cut).closed_or_open;
          numbered = thin _ g.accounts.numbered;
        }

    copies : Copies now v (pick retains F) []
    unfolding copy_of before
    copies =
        record {
          copied = λ o. refl;
          pages = λ p h. rw (moved.work_same, le-ltb p 0 (omega arith)) (page_copied_lem g copying copied p h);
          capped = thin _ (all_map (λ e h k. omega (arith, h k)) (F ++ []) g.copies.capped);
          early = thin _ (all_map (λ e h b k. h k) (F ++ []) g.copies.capped);
          ends = λ o. true_false refl o;
        }

    -- the logs start where they are told to
    abbrev started : Told
    started = started_from (start_put puts r.write_sets) puts

    -- what goes is the older part of what was put
    told : (d : ℕ) → d < c.sizes.disks → SinceOn started now d (on d (pick retains F) ++ on d [])
    told d h =
        rw (kept_now d h)
        (since_later g.safe.ordered (new_start c) d h (cut d h) (live_from_start g copying copied) (g.told d h) (new_start_told g d h copying))

    -- the store is open, with the other backup current
    pub switch_serving : Serving 0 home started now v r (pick retains F) []
    switch_serving =
        record {
          stage = refl;
          safe = safe;
          accounts = accounts;
          copies = copies;
          sets = sets_same refl refl g.sets;
          owners = owners_same g.safe.devices.bounds refl refl refl (λ i h. rw moved.work_same) g.owners;
          told = told;
          marks = λ o. true_false refl o;
        }
