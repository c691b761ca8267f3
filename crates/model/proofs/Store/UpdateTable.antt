-- An update whose record fits the buffer keeps what holds of an open store: the table of transactions, the copy numbers, the write sets.
use mathlib.Core.Path.{◌≡◌, refl, sym, ap, ◌∙◌}
use mathlib.Core.List.{List, [], ◌∷◌, ◌++◌, append_assoc}
use mathlib.Core.Bool.{Bool, true, false, cond, ◌&&◌, ◌||◌, or-true}
use Prim.Native.Nat.{ℕ, ◌+◌, ◌≤◌, ◌<◌}
use native.Mathlib.Omega.{arith}
use native.Mathlib.Decide.{ℕ_discrete}
use lib.Dec.{ltb, eqb}
use lib.ListN.{length, get_or, length-set}
use lib.Seq.{length-sets, get_or-set_other}
use borrow.Author.Tests.{lt-ltb, eq-eqb}
use Rattle.model.specs.declared.Table.{Table}
use Rattle.model.specs.declared.Core.{Core}
use Rattle.model.specs.Sizes.{slot_base, total, ring_of}
use Rattle.model.specs.Record.{encode}
use Rattle.model.specs.World.{World, perform}
use Rattle.model.specs.Memory.{copy_at, work_words, owner_at, copy_of}
use Rattle.model.specs.State.{places, limit, kept_of, fill_of, end_of, with_log, is_open, place_of, number_at, disk_at_place, first_at, reserved_at, has_update, with_place, with_reserved, reserved_on}
use Rattle.model.specs.Append.{Appended, append}
use Rattle.model.specs.Transaction.{disk_of}
use Rattle.model.specs.Reference.{Reference, Write}
use Rattle.model.specs.History.{Told, also}
use Rattle.model.proofs.Lengths.{lengths_right_lem}
use Rattle.model.proofs.Run.{perform_lengths}
use Rattle.model.proofs.WriteSets.{has_added, distinct_added}
use Rattle.model.proofs.SetPlace.{put_disk, put_first, put_reserved, other_same}
use Rattle.model.proofs.Places.{open_place, place_holds, places_apart, update_place, update_open, update_tabled}
use Rattle.model.proofs.Ledger.Entry.{Entry, record_of, some}
use Rattle.model.proofs.Ledger.Order.{size_of, on, boundary}
use Rattle.model.proofs.Ledger.Sums.{all_map}
use Rattle.model.proofs.Ledger.Picks.{some_append}
use Rattle.model.proofs.Ledger.Positions.{boundary_end}
use Rattle.model.proofs.Link.Words.{log_end}
use Rattle.model.proofs.Link.Buffered.{InBuffer, owners_same}
use Rattle.model.proofs.Store.View.{Sets, Owners, Serving, open_used}
use Rattle.model.proofs.Store.Logged.{Written, in_buffer, safe_written, copies_written, MayLog, longer}
use Rattle.model.proofs.Store.LogEnd.{boundary_to, capped, early}
use Rattle.model.proofs.Store.UpdateRoom.{Allowed, update_entry, slot_changed, noted, update_size, update_fit, update_unclosed, good_updated}
use Rattle.model.proofs.Store.UpdateOwners.{fits_added, owners_updated}
use Rattle.model.proofs.Growth.{Small}
use Rattle.model.proofs.Store.OneMore.{told_more, boundary_logged, since_still}
use Rattle.model.proofs.Store.Entered.{Entered, accounts_logged}

module _ {home : ℕ → ℕ} {puts : Told} {c : Core} {w : World} {r : Reference} {F B : List Entry} (g : Serving 0 home puts c w r F B)
    (number page slot : ℕ) (value : List ℕ) (may : Allowed c w number page slot value) (small : Small c.sizes c.logs)
    (room : fill_of c.logs (disk_of c number) + size_of (update_entry c w number page slot value) ≤ 64)
    (in_ring : end_of c.logs (disk_of c number) + size_of (update_entry c w number page slot value) ≤ kept_of c.logs (disk_of c number) + ring_of c.sizes (disk_of c number))
    (in_limit : end_of c.logs (disk_of c number) + size_of (update_entry c w number page slot value) ≤ limit) where
  abbrev e : Entry
  e = update_entry c w number page slot value

  abbrev d : ℕ
  d = disk_of c number

  -- The table after it.
  abbrev place : ℕ
  place = place_of c.table number

  abbrev first : ℕ
  first = cond (has_update c.table place) (first_at c.table place) (end_of c.logs d)

  abbrev reserve : ℕ
  reserve = reserved_at c.table place + size_of e

  abbrev sum : ℕ
  sum = reserved_on c.table d + size_of e

  abbrev t : Table
  t = with_reserved (with_place c.table place number d first reserve) d sum

  placed : place < places
  placed = (open_place c.table number may.opened).1

  holds : number_at c.table place ≡ number
  holds = place_holds c.table number placed

  same_place : (n : ℕ) → place_of t n ≡ place_of c.table n
  same_place = update_place c.table g.accounts.tabled place number d first reserve d sum placed holds

  same_open : (n : ℕ) → is_open t n ≡ is_open c.table n
  same_open = update_open c.table g.accounts.tabled place number d first reserve d sum placed holds

  -- two open transactions have two places
  apart : (n : ℕ) → is_open c.table n ≡ true → (n ≡ number → ⊥) → place_of c.table n ≡ place → ⊥
  apart n o = places_apart c.table n number o may.opened

  -- its first record's place: as it was, or the end of the log
  first_edge : boundary first (kept_of c.logs d) (on d F ++ on d B) ≡ true
  first_edge = go (has_update c.table place) refl
    where
      go : (b : Bool) → has_update c.table place ≡ b
          → boundary (cond b (first_at c.table place) (end_of c.logs d)) (kept_of c.logs d) (on d F ++ on d B) ≡ true
      go true h = g.accounts.firsts number may.opened h
      go false h = rw (log_end g.safe.link d may.disk) (boundary_end (kept_of c.logs d) (on d F ++ on d B))

  first_le : first ≤ end_of c.logs d
  first_le = omega (arith, log_end g.safe.link d may.disk, boundary_to first (kept_of c.logs d) (on d F ++ on d B) first_edge)

  first_is : first_at t (place_of t number) ≡ first
  first_is = ap (first_at t) (same_place number) ∙ put_first c.table g.accounts.tabled.sized place number d first reserve d sum placed

  reserved_is : reserved_at t (place_of t number) ≡ reserve
  reserved_is = ap (reserved_at t) (same_place number) ∙ put_reserved c.table g.accounts.tabled.sized place number d first reserve d sum placed

  -- one of its entries is the first: an old one, or this one
  begun : some (λ q. eqb q.number number && eqb q.position first) (F ++ (B ++ e ∷ [])) ≡ true
  unfolding some
  begun = rw (← append_assoc F B (e ∷ []), some_append _ (F ++ B) (e ∷ [])) (go (has_update c.table place) refl)
    where
      with_first : ℕ → Entry → Bool
      with_first k q = eqb q.number number && eqb q.position k

      go : (b : Bool) → has_update c.table place ≡ b
          → some (with_first (cond b (first_at c.table place) (end_of c.logs d))) (F ++ B)
          || some (with_first (cond b (first_at c.table place) (end_of c.logs d))) (e ∷ []) ≡ true
      go true h = rw (g.accounts.started number may.opened h)
      go false h = rw (eq-eqb number number refl, eq-eqb (end_of c.logs d) (end_of c.logs d) refl) (or-true (some (with_first (end_of c.logs d)) (F ++ B)))

  has_one : has_update t (place_of t number) ≡ true
  unfolding has_update
  has_one = rw reserved_is (lt-ltb 2 reserve (omega (arith, may.reserved, update_size g number page slot value may)))

  disk_same : (n : ℕ) → is_open c.table n ≡ true → Dec (n ≡ number) → disk_at_place t (place_of t n) ≡ disk_of c n
  unfolding disk_of
  disk_same n o (yes same) =
      ap (λ (m : ℕ). disk_at_place t (place_of t m)) same ∙ ap (disk_at_place t) (same_place number)
      ∙ put_disk c.table g.accounts.tabled.sized place number d first reserve d sum placed ∙ ap (disk_of c) (sym same)
  disk_same n o (no ne) =
      ap (disk_at_place t) (same_place n)
      ∙ (other_same c.table place number d first reserve d sum (place_of c.table n) (apart n o ne)).disk

  reserved_same : (n : ℕ) → is_open c.table n ≡ true → (n ≡ number → ⊥) → reserved_at t (place_of t n) ≡ reserved_at c.table (place_of c.table n)
  reserved_same n o ne =
      ap (reserved_at t) (same_place n)
      ∙ (other_same c.table place number d first reserve d sum (place_of c.table n) (apart n o ne)).reserved

  has_same : (n : ℕ) → is_open c.table n ≡ true → (n ≡ number → ⊥) → has_update t (place_of t n) ≡ has_update c.table (place_of c.table n)
  unfolding has_update
  has_same n o ne = ap (λ (k : ℕ). ltb 2 k) (reserved_same n o ne)

  first_same : (n : ℕ) → is_open c.table n ≡ true → (n ≡ number → ⊥) → first_at t (place_of t n) ≡ first_at c.table (place_of c.table n)
  first_same n o ne =
      ap (first_at t) (same_place n)
      ∙ (other_same c.table place number d first reserve d sum (place_of c.table n) (apart n o ne)).first

  loggable : MayLog home c F B e
  loggable =
      record {
        below = may.disk;
        here = sym (g.accounts.homes number may.opened);
        small = small;
        room = room;
        at_end = refl;
        unclosed = update_unclosed g number page slot value may;
        fit = update_fit g number page slot value may;
        in_ring = in_ring;
        in_limit = in_limit;
      }

  entered : Entered g.safe e loggable t
  entered =
      record {
        tabled = update_tabled c.table g.accounts.tabled place number d first reserve d sum placed holds;
        opened = same_open;
        disks = λ n o. disk_same n o (ℕ_discrete n number);
        others = λ n o ne. (has_same n o ne, first_same n o ne, reserved_same n o ne);
        has = has_one;
        first = rw first_is first_le;
        firsts = all_map (λ q h n. rw (first_is, (h n).has) (h n).first) (F ++ B) (g.accounts.own number may.opened);
        at = rw first_is (boundary_logged first (kept_of c.logs d) d F B e first_edge);
        started = rw first_is begun;
        reserved = λ ne. omega (arith, reserved_is, g.accounts.reserved number may.opened ne);
        kind = λ h. refl;
        open? = may.opened;
      }

  -- The words after it.
  abbrev put : Appended
  put = append c.sizes c.logs w.work d (encode (record_of e))

  abbrev buffered_world : World
  buffered_world = perform put.actions w

  abbrev changed : World
  changed = slot_changed c.sizes buffered_world (slot_base c.sizes page slot) value number

  abbrev at : ℕ
  at = owner_at c.sizes (slot_base c.sizes page slot)

  -- the buffers and the copy numbers, which lie before the owners
  before_owners : (i : ℕ) → i < owner_at c.sizes 0 → get_or changed.work i 0 ≡ get_or buffered_world.work i 0
  unfolding owner_at
  before_owners i h = get_or-set_other buffered_world.work at i number 0 (λ x. omega arith)

  copy_word : (p : ℕ) → p < c.sizes.pages → copy_of c.sizes changed.work p ≡ copy_of c.sizes buffered_world.work p
  unfolding copy_of copy_at owner_at
  copy_word p h = before_owners (copy_at c.sizes p) (omega (arith, g.safe.devices.bounds.pages_max))

  written : Written c.sizes buffered_world changed
  unfolding owner_at copy_at
  written =
      record {
        anchor_same = refl;
        backups_same = refl;
        logs_same = refl;
        lengths =
            record {
              anchor = refl;
              pages = length-sets buffered_world.pages (slot_base c.sizes page slot) value;
              backups = refl;
              logs = refl;
              work = length-set buffered_world.work at number;
            };
        buffers_same = λ i h. before_owners i (omega arith);
      }

  buffer : InBuffer c.sizes d w buffered_world
  buffer = in_buffer g.safe e loggable

  long : length buffered_world.work ≡ work_words c.sizes (total c.sizes)
  long = (perform_lengths _ w).work ∙ (lengths_right_lem c.sizes (total c.sizes) w g.safe.devices.lengths).work

  abbrev updated_core : Core
  updated_core = with_log c put.logs t

  sets_after : Sets updated_core (noted r number page slot value)
  unfolding with_log
  sets_after =
      let write : Write = record { page = page; slot = slot; value = value } in
      record {
        distinct = distinct_added number write r.write_sets g.sets.distinct;
        has = λ n. same_open n ∙ g.sets.has n ∙ sym (has_added number write r.write_sets n);
        fits =
            fits_added c.sizes number write (record { page_lt = may.page_lt; slot_lt = may.slot_lt; width = may.width })
            r.write_sets g.sets.fits;
      }

  owners_after : Owners updated_core changed (noted r number page slot value)
  unfolding with_log
  owners_after =
      owners_updated g.owners g.safe.devices.bounds number page slot value may (sym (g.sets.has number) ∙ may.opened) (open_used g.safe number may.opened).1
      buffered_world (omega (arith, long)) (λ i h. owners_same buffer i may.disk) updated_core refl refl same_open

  pub serving_updated : Serving 0 home (also puts (record { disk = d; content = record_of e } ∷ [])) updated_core changed (noted r number page slot value) F (B ++ e ∷ [])
  unfolding with_log
  serving_updated =
      record {
        stage = g.stage;
        safe =
            safe_written g.safe e loggable written 0 t (noted r number page slot value)
            g.safe.sizes g.safe.shaped
            (good_updated g number page slot value may buffered_world buffer long t same_open _);
        accounts = accounts_logged g.safe e loggable g.accounts t entered (open_used g.safe number may.opened).1;
        copies =
            copies_written g.safe e loggable written g.copies
            copy_word (λ o. capped g e page may.page_lt refl) (λ h o. early g e page may.page_lt refl may.disk refl h) t;
        sets = sets_after;
        owners = owners_after;
        told = λ n h.
            since_still ((longer g.safe e loggable).kept_same n) (λ u y l. sym (same_open u) ∙ y l)
            (told_more puts.puts F B e (record { disk = d; content = record_of e }) refl refl n (g.told n h));
        marks = g.marks;
      }
