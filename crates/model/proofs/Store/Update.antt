-- An update keeps what holds of an open store; cut inside the flush that makes room for its record, it loses nothing.
use mathlib.Core.Path.{◌≡◌, refl, subst, ◌∙◌}
use mathlib.Core.List.{List, [], ◌∷◌, ◌++◌, append_assoc}
use mathlib.Core.Bool.{true, false, cond}
use Prim.Native.Nat.{ℕ, ◌+◌, ◌≤◌, ◌<◌}
use native.Mathlib.Omega.{arith}
use lib.ListN.{length}
use borrow.Author.Tests.{leb-false, ne_eqb}
use Rattle.model.specs.declared.Table.{Table}
use Rattle.model.specs.declared.Core.{Core}
use Rattle.model.specs.Sizes.{width_in, slot_base, ring_of}
use Rattle.model.specs.Record.{Record, encode, update_kind}
use Rattle.model.specs.World.{World, Action, write, pages, work, cost, act, perform, stores, run, finishes, each}
use Rattle.model.specs.Memory.{owner_at, owner_of}
use Rattle.model.specs.State.{limit, kept_of, end_of, with_log, is_open, place_of, first_at, reserved_at, has_update, with_place, serving_sound, sound, slot_place, base_of, with_reserved, reserved_on}
use Rattle.model.specs.Refusal.{accepted, verdict}
use Rattle.model.specs.Append.{Appended, append}
use Rattle.model.specs.Transaction.{disk_of, slot_words, update_record, updated, update_rows, update_task}
use Rattle.model.specs.Call.{update}
use Rattle.model.specs.Reference.{Reference, after_taken}
use Rattle.model.specs.History.{Told, also, put_by}
use Rattle.model.proofs.RecordSizes.{words_change}
use Rattle.model.proofs.Bounds.{bounded}
use Rattle.model.proofs.KeptBases.{place_kept, lock_of}
use Rattle.model.proofs.Run.{perform_append, perform_pages, run_cut, stores_append, stores_written}
use Rattle.model.proofs.Counts.{append_fits}
use Rattle.model.proofs.Ledger.Entry.{Entry, record_of, is_close}
use Rattle.model.proofs.Ledger.Order.{size_of}
use Rattle.model.proofs.Store.Told.{update_told}
use Rattle.model.proofs.Store.View.{Kept, Serving, Served, run_at}
use Rattle.model.proofs.Store.Rows.{serving_sound_lem, sizes_sound, bases_sound}
use Rattle.model.proofs.Store.Ready.{Ready, ready}
use Rattle.model.proofs.Store.UpdateRoom.{Allowed, update_entry, slot_changed, noted, update_size}
use Rattle.model.proofs.Store.UpdateTable.{serving_updated}
use Rattle.model.proofs.Growth.{Small}
use Rattle.model.proofs.Booleans.{true_false}
use Rattle.model.proofs.Store.Accepted.{small_buffers, open_entry, open_below, Updating, update_accepted}
use Rattle.model.proofs.Store.Steady.{kept_lost}

-- What its rows say.
module _ {c : Core} {w : World} {number page slot : ℕ} {value : List ℕ} (s : sound c ≡ true) (a : Updating c w number page slot value) where
  within_bounds : serving_sound c ≡ true
  within_bounds = serving_sound_lem c a.serving s

  not_others : (u : ℕ) → is_open c.table u ≡ true → (u ≡ number → ⊥) → u ≡ owner_of c.sizes w.work (slot_base c.sizes page slot) → ⊥
  unfolding is_open
  not_others u o ne owns =
      let small = (bounded c.sizes (sizes_sound c within_bounds)).pages_max in
      true_false (lock_of c (bases_sound c within_bounds) w page slot (omega (arith, a.page_lt)) number ∙ rw (← owns, o, ne_eqb u number ne)) a.unlocked

  pub update_allowed : Allowed c w number page slot value
  update_allowed =
      let mine = open_entry c number within_bounds a.opened in
      record {
        opened = a.opened;
        disk = open_below c number within_bounds a.opened;
        reserved = mine.sound.reserved;
        page_lt = a.page_lt;
        slot_lt = a.slot_lt;
        width = a.width;
        free = not_others;
      }

  update_small : Small c.sizes c.logs
  update_small = small_buffers c within_bounds

  -- the record fits the ring and the bound of positions
  update_room : (end_of c.logs (disk_of c number) + (3 + width_in c.sizes page) ≤ kept_of c.logs (disk_of c number) + ring_of c.sizes (disk_of c number))
      × (end_of c.logs (disk_of c number) + (3 + width_in c.sizes page) ≤ limit)
  update_room =
      let size = words_change update_kind (width_in c.sizes page) (omega arith) in
      (omega (arith, a.room.ring, size), omega (arith, a.room.top, size))

-- cut before a part without stores, a list is cut inside what stands before it
cut_short : (budget : ℕ) (l m : List Action) → stores m ≡ 0 → finishes budget (l ++ m) ≡ false → budget < stores l
unfolding finishes
cut_short budget l m none h = omega (arith, leb-false (stores (l ++ m)) budget h, stores_append l m)

-- An update is the flush that makes room, and an update with room.
module _ {home : ℕ → ℕ} {puts : Told} {c : Core} {w : World} {r : Reference} {F B : List Entry} (g : Serving 0 home puts c w r F B)
    (s : sound c ≡ true) (number page slot : ℕ) (value : List ℕ) (ok : verdict (update_rows c w number page slot value) ≡ accepted) where
  may : Allowed c w number page slot value
  may = update_allowed s (update_accepted c w number page slot value ok)

  abbrev d : ℕ
  d = disk_of c number

  abbrev at : ℕ
  at = slot_base c.sizes page slot

  abbrev words : List ℕ
  words = encode (update_record c w number page slot value)

  size : length words ≡ 3 + width_in c.sizes page
  unfolding size_of record_of is_close update_record
  size = update_size g number page slot value may

  y : Ready 0 home puts c w r d (length words)
  y =
      ready g d (length words) may.disk (update_small s (update_accepted c w number page slot value ok))
      (omega (arith, size, (g.safe.devices.bounds.used page may.page_lt).width_max))

  -- the state and the world between the two
  abbrev c' : Core
  c' = with_log c y.logs c.table

  abbrev v : World
  v = perform y.flushing w

  abbrev put : Appended
  put = append c.sizes y.logs v.work d words

  may' : Allowed c' v number page slot value
  unfolding with_log disk_of
  may' =
      record {
        opened = may.opened;
        disk = may.disk;
        reserved = may.reserved;
        page_lt = may.page_lt;
        slot_lt = may.slot_lt;
        width = may.width;
        free = rw y.only.work_same may.free;
      }

  same_record : record_of (update_entry c' v number page slot value) ≡ update_record c w number page slot value
  unfolding with_log update_record record_of is_close slot_words slot_place base_of
  same_record = rw (y.only.work_same, y.only.pages_same)

  -- where its slot lies
  place : slot_place c page slot ≡ at
  place = place_kept c g.safe.devices.bases page slot (omega (arith, may.page_lt, g.safe.devices.bounds.pages_max))

  -- what an update does, in two
  update_actions : (update_task c w number page slot value).actions
      ≡ y.flushing ++ (put.actions ++ (each (write pages) at value ++ write work (owner_at c.sizes at) number ∷ []))
  unfolding update_task
  update_actions = rw (place, y.split words refl) (simp append_assoc)

  update_world : perform (update_task c w number page slot value).actions w ≡ slot_changed c.sizes (perform put.actions v) at value number
  unfolding perform act
  update_world = rw (update_actions, perform_append, perform_append, perform_append, perform_pages)

  update_core : (update_task c w number page slot value).core ≡ with_log c put.logs (updated c number (length words))
  unfolding update_task
  update_core = rw (y.split words refl)

  -- the end of the disk's log is the same before the flush and after it
  abbrev table_of : ℕ → Table
  table_of n =
      with_reserved
      (with_place c.table (place_of c.table number) number d
      (cond (has_update c.table (place_of c.table number)) (first_at c.table (place_of c.table number)) (end_of y.logs d))
      (reserved_at c.table (place_of c.table number) + n))
      d
      (reserved_on c.table d + n)

  same_table : table_of (length words) ≡ updated c number (length words)
  unfolding updated
  same_table = rw y.ends

  -- what holds after record q
  abbrev After : Record → Table → Type 0
  After q t =
      Serving 0 home (also puts (record { disk = d; content = q } ∷ [])) (with_log c (append c.sizes y.logs v.work d (encode q)).logs t)
      (slot_changed c.sizes (perform (append c.sizes y.logs v.work d (encode q)).actions v) at value number)
      (noted r number page slot value) y.flushed (y.buffered ++ update_entry c' v number page slot value ∷ [])

  size' : size_of (update_entry c' v number page slot value) ≡ length words
  unfolding size_of
  size' = rw same_record

  after : After (record_of (update_entry c' v number page slot value)) (table_of (length (encode (record_of (update_entry c' v number page slot value)))))
  unfolding with_log disk_of size_of
  after =
      let h = update_room s (update_accepted c w number page slot value ok) in
      serving_updated y.serving number page slot value may' y.small (omega (arith, size', y.room))
      (omega (arith, size, size', h.0, y.kept d, y.ends)) (omega (arith, size, size', h.1, y.ends))

  pub update_served : Served (also puts (record { disk = d; content = update_record c w number page slot value } ∷ []))
      (update_task c w number page slot value).core (perform (update_task c w number page slot value).actions w)
      (noted r number page slot value)
  update_served =
      record {
        home = home;
        flushed = y.flushed;
        buffered = y.buffered ++ update_entry c' v number page slot value ∷ [];
        serving =
            rw (update_core, update_world)
            (subst (After (update_record c w number page slot value)) same_table
            (subst (λ (q : Record). After q (table_of (length (encode q)))) same_record after));
      }

  -- only the flush has stores
  abbrev rest : List Action
  rest = put.actions ++ (each (write pages) at value ++ write work (owner_at c.sizes at) number ∷ [])

  stores_rest : stores rest ≡ 0
  unfolding stores cost
  stores_rest =
      simp (stores_append, stores_written) (omega (arith, append_fits c.sizes y.logs v.work d words y.room))

  pub update_kept : (budget : ℕ) → finishes budget (update_task c w number page slot value).actions ≡ false
      → Kept puts (run budget (update_task c w number page slot value).actions w) r
  update_kept budget = rw update_actions (λ h. rw (run_cut budget y.flushing rest w (short h)) (y.cut budget (short h)))
    where
      short : finishes budget (y.flushing ++ rest) ≡ false → budget < stores y.flushing
      short h = cut_short budget y.flushing rest stores_rest h

module _ {puts : Told} {c : Core} {w : World} {r : Reference} (g : Served puts c w r) (s : sound c ≡ true) where
  -- finished, it leaves an open store whose reference has noted its write
  pub update_serves : (number page slot : ℕ) (value : List ℕ) (budget n : ℕ) → verdict (update_rows c w number page slot value) ≡ accepted
      → Served (also puts (put_by (update number page slot value budget) (run_at c w r) puts)) (update_task c w number page slot value).core (perform (update_task c w number page slot value).actions w)
      (after_taken (update number page slot value budget) n r)
  update_serves number page slot value budget n ok =
      let may = update_accepted c w number page slot value ok in
      rw (update_told g.serving number page slot value may.page_lt may.slot_lt) (update_served g.serving s number page slot value ok)

  -- cut, it leaves devices that restart to what was committed
  pub update_cut : (number page slot : ℕ) (value : List ℕ) (budget : ℕ) → verdict (update_rows c w number page slot value) ≡ accepted
      → finishes budget (update_task c w number page slot value).actions ≡ false
      → Kept (also puts (put_by (update number page slot value budget) (run_at c w r) puts)) (run budget (update_task c w number page slot value).actions w) r
  update_cut number page slot value budget ok h = kept_lost (update_kept g.serving s number page slot value ok budget h) _
