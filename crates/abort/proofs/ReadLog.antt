-- The log that an abort reads, by what it found of its transaction: it can be read, and there is room for what takes its updates back.
use Rattle.std.specs.Prelude.{None, Option}
use mathlib.Core.Path.{◌≡◌, refl, sym, ap, ◌∙◌}
use mathlib.Core.List.{List}
use mathlib.Core.Bool.{Bool, true, false, cond, not, ◌||◌}
use Prim.Native.Nat.{ℕ, ◌+◌, ◌-◌, ◌≤◌}
use native.Mathlib.Omega.{arith}
use lib.Dec.{leb, ltb, eqb}
use lib.ListN.{drop, length-drop}
use borrow.Author.Tests.{leb-true, ltb-false, eqb-true}
use Rattle.model.specs.declared.Logs.{Logs}
use Rattle.model.specs.declared.Sizes.{Sizes}
use Rattle.model.specs.declared.Core.{Core}
use Rattle.model.specs.declared.Carried.{Carried}
use Rattle.model.specs.declared.BadRecord.{BadRecord}
use Rattle.model.specs.Record.{bad_record}
use Rattle.model.specs.Sizes.{total, ring_of, log_words, disk_at, sizes_in_bounds}
use Rattle.model.specs.Scan.{Scan, end, ring_then_buffer, fault_in, updates_in, update_words}
use Rattle.model.specs.World.{World}
use Rattle.model.specs.Memory.{buffer_at, copy_at, owner_at, work_words}
use Rattle.model.specs.State.{tail_of, fill_of, end_of, place_of, is_open, first_at, reserved_at, has_update}
use Rattle.model.specs.Reads.{scope_fits, sizes_fit}
use Rattle.model.specs.Transaction.{disk_of}
use Rattle.model.specs.Abort.{abort_scan, updates_left, abort_fault}
use Rattle.model.specs.View.{head_words, core_of, body_of}
use Rattle.model.proofs.Booleans.{both}
use Rattle.model.proofs.Reading.{ending}
use Rattle.model.proofs.Faults.{fault_rest}
use Rattle.model.proofs.RingThenBuffer.{parts_end}
use Rattle.model.proofs.Growth.{tail_end}
use Rattle.model.proofs.Updates.{abort_words}
use Rattle.model.proofs.View.Head.{carried_back}
use Rattle.disk_log.specs.declared.write.Tip.{Tip}
use Rattle.abort.specs.declared.scope.Scope.{Scope}
use Rattle.abort.specs.declared.scope.Target.{Target}
use Rattle.abort.specs.Undo.{only_log, Serving, reader, log_from, parts_from, Undoable}
use Rattle.abort.specs.Scope.{scope_of}
use Rattle.abort.proofs.Tips.{tip_tail, tip_fill, tip_end, tip_small}
use Rattle.abort.proofs.Malformed.{sound_end}
use Rattle.abort.proofs.Examining.{as_one_lem}
use Rattle.abort.proofs.Aborts.{Standing, scope_disk}

-- up to the tail and then in the buffer it is what an abort reads
scan_is : (c : Core) (w : World) (number : ℕ) → is_open c.table number ≡ true
    → abort_scan c w number ≡ parts_from c.sizes c.logs (disk_of c number) w.logs w.work (scope_of c number).from
unfolding abort_scan parts_from scope_of
scan_is c w number opened = rw opened (go (has_update c.table (place_of c.table number)))
  where
    tail : ℕ
    tail = tail_of c.logs (disk_of c number)

    stop : ℕ
    stop = end_of c.logs (disk_of c number)

    read : ℕ → ℕ
    read = reader c.sizes c.logs (disk_of c number) w.logs w.work

    first : ℕ
    first = first_at c.table (place_of c.table number)

    go : (b : Bool) → cond b (ring_then_buffer c.sizes read tail stop first) end ≡ ring_then_buffer c.sizes read tail stop (cond b first stop)
    go true = refl
    go false = sym (parts_end c.sizes read tail stop (tail_end c.logs (disk_of c number)) stop (omega arith))

module _ (h : Carried) (w : World) (number : ℕ) {t : Target} (st : Standing h w number t) where
  abbrev c : Core
  c = core_of h w.work

  abbrev place : ℕ
  place = place_of c.table number

  abbrev d : ℕ
  d = t.scope.disk

  abbrev tip : Tip
  tip = record { tail = t.entry.tail; fill = t.entry.fill }

  abbrev only : Logs
  only = only_log d tip

  abbrev body : List ℕ
  body = drop head_words w.work

  pub disk_here : d ≡ disk_of c number
  unfolding scope_of
  disk_here = ap (λ (x : Scope). x.disk) st.read.scope

  pub tail_here : tail_of c.logs d ≡ tip.tail
  tail_here = rw (scope_disk st.read) (sym st.read.entry.tail)

  pub fill_here : fill_of c.logs d ≡ tip.fill
  fill_here = rw (scope_disk st.read) (sym st.read.entry.fill)

  only_tail : tail_of only d ≡ tail_of c.logs d
  only_tail = tip_tail d tip st.low ∙ sym tail_here

  only_fill : fill_of only d ≡ fill_of c.logs d
  only_fill = tip_fill d tip st.low ∙ sym fill_here

  only_end : end_of only d ≡ end_of c.logs d
  unfolding end_of
  only_end = rw (only_tail, only_fill) refl

  -- the sizes of the state are those that it carries
  disks_here : c.sizes.disks ≡ h.disks
  disks_here = ap (λ (x : Carried). x.disks) (carried_back h w.work)

  ring_here : c.sizes.ring ≡ h.ring
  ring_here = ap (λ (x : Carried). x.ring) (carried_back h w.work)

  known : (sizes_in_bounds c.sizes ≡ true) × (total c.sizes ≡ h.total)
  unfolding sizes_fit
  known =
      let fits = both (sizes_in_bounds c.sizes) (eqb c.bases.total (total c.sizes)) st.read.fits in
      (fits.0, sym (eqb-true _ _ fits.1) ∙ ap (λ (x : Carried). x.total) (carried_back h w.work))

  pub lent_serves : Serving t.sizes only d w.logs body
  unfolding log_words disk_at work_words owner_at copy_at buffer_at
  lent_serves =
      let long = st.ready.work in
      rw st.read.sizes
      (record {
        sizes = known.0;
        disk_below = omega (arith, scope_disk st.read, st.placed.below, disks_here);
        log_words_lem = rw (disks_here, ring_here) st.ready.logs;
        work_words_lem = rw (disks_here, known.1) (length-drop head_words w.work ∙ omega (arith, long));
        fills_small = λ e k. tip_small d tip st.low st.placed.fill_small e (omega (arith, k, disks_here, st.ready.counts.disks_max));
        end_small = omega (arith, tip_end d tip st.low, st.placed.end_small);
      })

  -- from where it is read, the log and the words reserved are no longer than the ring
  room : (words : ℕ) → words ≤ reserved_at c.table place - 2 → end_of only d + words ≤ t.scope.from + c.sizes.ring
  unfolding scope_of scope_fits disk_of ring_of has_update
  room words few = rw (only_end, disk_here, st.read.scope) (go (has_update c.table place) refl st.read.near)
    where
      stop : ℕ
      stop = end_of c.logs (disk_of c number)

      first : ℕ
      first = first_at c.table place

      go : (b : Bool) → has_update c.table place ≡ b
          → (not b || leb (stop - first + reserved_at c.table place) c.sizes.ring) ≡ true
          → stop + words ≤ cond b first stop + c.sizes.ring
      go true e near = omega (arith, leb-true (stop - first + reserved_at c.table place) c.sizes.ring near, few)
      go false e near = omega (arith, ltb-false 2 (reserved_at c.table place) e, few)

  pub lent_near : end_of only d ≤ t.scope.from + 65536
  lent_near = omega (arith, room 0 (omega arith), ring_here, st.ready.counts.ring_max)

  -- the fault that an abort answers
  abbrev parts : Scan
  parts = parts_from t.sizes only d w.logs body t.scope.from

  abbrev long : Option BadRecord
  long = cond (ltb t.scope.words (update_words (updates_in number parts))) (bad_record d t.scope.first) None

  reads : abort_scan c (body_of w) number ≡ parts
  unfolding parts_from body_of
  reads =
      scan_is c (body_of w) number st.opened
      ∙ rw (← disk_here, ← ap (λ (x : Scope). x.from) st.read.scope, st.read.sizes, only_tail, only_fill, only_end) refl

  pub fault_here : abort_fault c (body_of w) number ≡ fault_in d parts long
  unfolding abort_fault updates_left scope_of
  fault_here = rw reads (rw st.read.scope refl)

  -- where there is none, its updates are those of the log as one, and can be taken back
  module _ (none : abort_fault c (body_of w) number ≡ None) where
    whole : ending parts ≡ end
    whole = sound_end d parts (rw (fault_rest d parts long (sym fault_here ∙ none)) at (sym fault_here ∙ none))

    pub updates_here : updates_left c (body_of w) number ≡ updates_in number (log_from t.sizes only d w.logs body t.scope.from)
    unfolding updates_left
    updates_here = ap (updates_in number) (reads ∙ as_one_lem t.sizes only t.scope number w.logs body whole)

    pub lent_undoable : Undoable t.sizes only d number t.scope.from w.pages w.logs body
    unfolding ring_of
    lent_undoable =
        let few = abort_words c (body_of w) number (rw none refl) in
        let fits = room (update_words (updates_left c (body_of w) number)) few in
        let ring = ap (λ (s : Sizes). s.ring) st.read.sizes in
        let own = st.read.entry.reserved ∙ ap (reserved_at c.table) st.read.entry.place in
        record {
          serving = lent_serves;
          page_words_lem = st.ready.pages ∙ sym known.1 ∙ ap total (sym st.read.sizes);
          ring = rw (← updates_here) (omega (arith, fits, ring));
          in_limit = rw (← updates_here) (omega (arith, few, own, tip_end d tip st.low, st.placed.end_small, st.placed.own_part));
        }
