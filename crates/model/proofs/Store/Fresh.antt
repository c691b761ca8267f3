-- A fresh open store: nothing logged, no transaction, the committed words in the pages and in the current backup.
-- A format and the end of a restart leave such a store, and what holds between two calls holds of it.
use mathlib.Core.Path.{◌≡◌, refl, sym, ◌∙◌}
use mathlib.Core.List.{List, []}
use mathlib.Core.Bool.{Bool, true, false, true≢false}
use Prim.Native.Nat.{ℕ, ◌+◌, ◌≤◌, ◌<◌}
use native.Mathlib.Omega.{arith}
use lib.ListN.{length, get_or, get_or-replicate}
use borrow.Author.Tests.{le-ltb}
use Rattle.model.specs.declared.Sizes.{Sizes}
use Rattle.model.specs.Word.{part}
use Rattle.model.specs.Sizes.{total, slots_in, ring_of, slot_base}
use Rattle.model.specs.Anchor.{anchor_words, epoch_on, sizes_on, start_on, backup_at}
use Rattle.model.specs.Record.{encode_all}
use Rattle.model.specs.World.{World}
use Rattle.model.specs.Memory.{owner_of, buffer_of, copy_of, lengths_right}
use Rattle.model.specs.State.{limit, places, no_table, empty_logs, open_core, start_of, kept_of, tail_of, fill_of, end_of, number_at, place_of, is_open}
use Rattle.model.specs.Causes.{tail_on}
use Rattle.model.specs.Reference.{Reference, words_in, has_set}
use Rattle.model.specs.Record.{encode_all}
use Rattle.model.specs.Scan.{placed, updates_in}
use Rattle.model.specs.History.{empty_from, records_on}
use Rattle.model.proofs.KeptBases.{bases_made}
use Rattle.model.proofs.Booleans.{true_false}
use Rattle.model.proofs.Bounds.{Bounded}
use Rattle.model.proofs.Geometry.{page_of, slot_start, page_in}
use Rattle.model.proofs.Slots.{Shaped}
use Rattle.model.proofs.Places.{Tabled, place_holds, open_place}
use Rattle.model.proofs.Ledger.Entry.{pick}
use Rattle.model.proofs.Ledger.State.{fresh}
use Rattle.model.proofs.Ledger.Order.{Ordered, on, words_of}
use Rattle.model.proofs.Ledger.Good.{Good, fresh_good, good_same}
use Rattle.model.proofs.Link.Words.{Link}
use Rattle.model.proofs.Store.View.{view, Devices, Safe, Accounts, Copies, Sets, Owners, Served}
use Rattle.model.proofs.Store.Same.{slot_lt}
use Rattle.model.proofs.Growth.{none_buffered, kept_start}

-- What the devices, the memories and the reference are, where the store is open_core s n tails.
pub record Freshly (s : Sizes) (n : ℕ) (tails : List ℕ) (v : World) (r : Reference) : Type 0 where
  -- the sizes and lengths are right
  pub bounds : Bounded s
  pub anchor : length v.anchor ≡ anchor_words
  pub lengths : lengths_right s (total s) v ≡ true
  pub eight : length tails ≡ 8
  -- the anchor says the sizes and checkpoint n, at least 1
  pub sizes : sizes_on v.anchor ≡ s
  pub epoch : epoch_on v.anchor ≡ n
  pub formatted : 1 ≤ n
  -- every log is empty: it starts at its tail, below the bound of positions
  pub starts : (d : ℕ) → d < s.disks → start_on v.anchor d ≡ get_or tails d 0
  pub stored : (d : ℕ) → d < s.disks → tail_on s v d ≡ get_or tails d 0
  pub short : (d : ℕ) → d < s.disks → get_or tails d 0 ≤ limit
  -- the current backup and the pages have the committed words
  pub backup : (i : ℕ) → i < total s → get_or v.backups (backup_at s n + i) 0 ≡ get_or v.pages i 0
  pub pages : (i : ℕ) → i < total s → get_or v.pages i 0 ≡ get_or (words_in r.committed) i 0
  -- every page has copy number n, and no slot an owner
  pub copies : (p : ℕ) → p < s.pages → copy_of s v.work p ≡ n
  pub owners : (i : ℕ) → i < total s → owner_of s v.work i ≡ 0
  -- the reference has these sizes and no write set
  pub reference : r.sizes ≡ s
  pub shaped : Shaped s r.committed
  pub none : r.write_sets ≡ []

-- The empty table: no transaction is open.
none_number : (i : ℕ) → i < places → number_at no_table i ≡ 0
unfolding number_at
none_number i h = get_or-replicate 16 i 0 0 h

pub none_open : (t : ℕ) → is_open no_table t ≡ false
none_open t = go (is_open no_table t) refl
  where
    go : (b : Bool) → is_open no_table t ≡ b → is_open no_table t ≡ false
    go true e =
        let at = open_place no_table t e in
        absurd (at.0 (sym (place_holds no_table t at.1) ∙ none_number (place_of no_table t) at.1))
    go false e = e

none_tabled : Tabled no_table
none_tabled =
    record {
      sized = record { numbers = refl; disks = refl; firsts = refl; reserved = refl; sums = refl };
      distinct = λ i h z. absurd (z (none_number i h));
    }

never : {X : Type 0} (t : ℕ) → is_open no_table t ≡ true → X
never t e = absurd (true≢false (sym e ∙ none_open t))

module _ {s : Sizes} {n : ℕ} {tails : List ℕ} {v : World} {r : Reference} (f : Freshly s n tails v r) where
  fresh_devices : Devices (open_core s n tails) v
  unfolding open_core start_of
  fresh_devices =
      record {
        bounds = f.bounds;
        bases = bases_made (open_core s n tails) refl;
        anchor = f.anchor;
        lengths = f.lengths;
        sizes = f.sizes;
        epoch = f.epoch;
        formatted = f.formatted;
        starts = f.starts;
        arrays = record { sized = record { starts = f.eight; tails = f.eight; fills = refl }; disks = f.bounds.disks_max; ring = omega (arith, f.bounds.ring_min) };
      }

  -- its ledger is a fresh one
  fresh_view : Good 0 (total s) (view (open_core s n tails) v r [] [])
  unfolding view open_core fresh
  fresh_view =
      good_same
      (record {
        epoch = refl;
        next = refl;
        pages = λ i h. refl;
        current = λ i h. sym (f.backup i h);
        other = λ i h. refl;
        copies = λ i h. sym (f.copies (page_of s i) (page_in s i h).0);
        owners = λ i h. refl;
        committed = f.pages;
        writes = λ u o. absurd (true≢false (sym o));
        opened = λ u. sym (none_open u);
        flushed = refl;
        buffered = refl;
      })
      (fresh_good n (λ i. get_or v.pages i 0) (λ i. get_or v.backups (backup_at s (n + 1) + i) 0)
      (λ i. owner_of s v.work (slot_start s i)))

  fresh_link : Link s (empty_logs tails) v [] []
  unfolding start_of tail_of on pick words_of encode_all buffer_of part
  fresh_link =
      record {
        held = λ d h. tt;
        tail = λ d h. omega (arith, kept_start (empty_logs tails) d);
        stored = f.stored;
        buffer = λ d h. rw (none_buffered tails d (omega (arith, f.bounds.disks_max)));
        fill = λ d h. none_buffered tails d (omega (arith, f.bounds.disks_max));
      }

  fresh_ends : (d : ℕ) → d < s.disks
      → (end_of (empty_logs tails) d ≤ kept_of (empty_logs tails) d + ring_of s d) × (end_of (empty_logs tails) d ≤ limit)
  unfolding end_of tail_of start_of
  fresh_ends d h =
      let none : fill_of (empty_logs tails) d ≡ 0 = none_buffered tails d (omega (arith, f.bounds.disks_max)) in
      (omega (arith, kept_start (empty_logs tails) d), omega (arith, f.short d h))

  fresh_ordered : Ordered s.disks (kept_of (empty_logs tails)) (λ t. 0) [] []
  unfolding on pick
  fresh_ordered = record { laid = λ d h. tt; inside = tt; homed = tt; last = tt }

  fresh_safe : Safe 0 (λ t. 0) (open_core s n tails) v r [] []
  unfolding open_core
  fresh_safe =
      record {
        devices = fresh_devices;
        good = fresh_view;
        link = fresh_link;
        ordered = fresh_ordered;
        fit = tt;
        ends = fresh_ends;
        sizes = f.reference;
        shaped = f.shaped;
      }

  fresh_accounts : Accounts 0 (λ t. 0) (open_core s n tails) [] []
  unfolding open_core
  fresh_accounts =
      record {
        tabled = none_tabled;
        homes = λ t o. never t o;
        own = λ t o. tt;
        firsts = λ t o. never t o;
        disks = λ t o. never t o;
        started = λ t o. never t o;
        reserved = λ t o. never t o;
        closed_or_open = tt;
        numbered = tt;
      }

  fresh_copies : Copies (open_core s n tails) v [] []
  unfolding open_core
  fresh_copies =
      record {
        copied = λ o. refl;
        pages = λ p h. rw (le-ltb p 0 (omega arith)) (f.copies p h);
        capped = tt;
        early = tt;
        ends = λ o. absurd (true≢false o);
      }

  fresh_sets : Sets (open_core s n tails) r
  unfolding open_core has_set
  fresh_sets = record { distinct = rw f.none tt; has = λ t. rw f.none (none_open t); fits = rw f.none tt }

  -- the owner of every slot is 0, which is never open
  fresh_owners : Owners (open_core s n tails) v r
  unfolding open_core
  fresh_owners =
      record {
        below = λ page slot p q. rw (unowned page slot p q) (omega arith);
        written = λ page slot p q o. never (owner_of s v.work (slot_base s page slot)) o;
      }
    where
      unowned : (page slot : ℕ) → page < s.pages → slot < slots_in s page → owner_of s v.work (slot_base s page slot) ≡ 0
      unowned page slot p q = f.owners _ (slot_lt s f.bounds page slot p q)

  -- what holds of an open store between two calls holds of a fresh one
  pub fresh_serving : (base : ℕ → ℕ) → ((d : ℕ) → d < s.disks → get_or tails d 0 ≡ base d)
      → Served (empty_from base) (open_core s n tails) v r
  unfolding open_core start_of records_on on pick encode_all placed updates_in
  fresh_serving base there =
      record {
        home = λ t. 0;
        flushed = [];
        buffered = [];
        serving =
            record {
              stage = refl;
              safe = fresh_safe;
              accounts = fresh_accounts;
              copies = fresh_copies;
              sets = fresh_sets;
              owners = fresh_owners;
              told = λ d h.
                  let at : kept_of (empty_logs tails) d ≡ base d = kept_start (empty_logs tails) d ∙ there d h in
                  record { old = []; all = refl; from = omega (arith, at); since = at; past = λ t y. refl };
              marks = λ e. true_false refl e;
            };
      }
