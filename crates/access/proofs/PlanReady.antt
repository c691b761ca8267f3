-- Update: what its checks leave, as its plan.
use mathlib.Core.Path.{◌≡◌, refl, sym, ap, ◌∙◌}
use mathlib.Core.Bool.{true, cond}
use Prim.Native.Nat.{ℕ, ◌+◌, ◌≤◌, ◌<◌}
use native.Mathlib.Omega.{arith}
use lib.Dec.{ltb}
use lib.ListN.{length, get_or, drop, length-drop}
use lib.Seq.{get_or-drop}
use Rattle.model.specs.declared.Core.{Core}
use Rattle.model.specs.declared.Carried.{Carried}
use Rattle.model.specs.Sizes.{log_words, disk_at}
use Rattle.model.specs.World.{World}
use Rattle.model.specs.Memory.{buffer_at, copy_at, owner_at, work_words, copy_of}
use Rattle.model.specs.State.{limit, end_of, first_at, has_update}
use Rattle.model.specs.Transaction.{disk_of}
use Rattle.model.specs.View.{head_firsts, head_words, own_work, core_of, body_of}
use Rattle.model.specs.Fields.{firsts}
use Rattle.model.proofs.View.Head.{carried_back}
use Rattle.model.proofs.View.Fields.{field_read}
use Rattle.disk_log.specs.Write.{Within}
use Rattle.frame.specs.declared.entry.Entry.{Entry}
use Rattle.frame.specs.Home.{home_of}
use Rattle.frame.specs.Entry.{EntryOf}
use Rattle.frame.proofs.FirstChecks.{Ready}
use Rattle.frame.proofs.Fitting.{placed}
use Rattle.frame.proofs.Homes.{home_fits_lem}
use Rattle.frame.specs.declared.refusal.Refusal.{Refusal}
use Rattle.frame.specs.Refusal.{row_in}
use Rattle.std.specs.Prelude.{Result, Ok}
use Rattle.access.specs.declared.slots.Slot.{Slot}
use Rattle.access.specs.Slots.{Finds}
use Rattle.access.specs.Plans.{plan_of, Plans}
use Rattle.access.proofs.FirstRows.{slotted, slot_within, owner_within}

module _ (h : Carried) (w : World) (own : own_work h w.work ≡ true) (ready : Ready h w) where
  abbrev c : Core
  c = core_of h w.work

  -- an open transaction's numbers
  module _ {number : ℕ} {e : Entry} (found : EntryOf c number e) where
    disk_below : e.disk < h.disks
    disk_below = omega (arith, (placed found.fits).below, ap (λ (x : Carried). x.disks) (carried_back h w.work))

    pub disk_low : e.disk < 8
    disk_low = omega (arith, disk_below, ready.counts.disks_max)

    home_here : Within (home_of c.sizes c.logs e.disk) (body_of w).logs (body_of w).work
    unfolding body_of log_words disk_at work_words owner_at copy_at buffer_at core_of end_of
    home_here =
        let p = placed found.fits in
        home_fits_lem c.sizes h.total c.logs w.logs (drop head_words w.work) e.disk (omega (arith, ready.counts.ring_min)) ready.logs
        (length-drop head_words w.work ∙ omega (arith, ready.work)) disk_below (omega (arith, found.fill, p.fill_small))
        (omega (arith, found.tail, found.fill, p.end_small))

    pub entry_small : (e.place < 16) × (e.reserved ≤ e.sum) × (e.tail + e.fill + e.sum ≤ limit)
    entry_small = let p = placed found.fits in (found.low, p.own_part, p.end_small)

    -- the first position
    first_word : first_at c.table e.place ≡ get_or w.work (head_firsts + e.place) 0
    unfolding first_at
    first_word = field_read h w.work own firsts e.place found.low

    first_here : cond (ltb 2 e.reserved) (get_or w.work (head_firsts + e.place) 0) (e.tail + e.fill)
        ≡ cond (has_update c.table e.place) (first_at c.table e.place) (end_of c.logs e.disk)
    unfolding has_update end_of
    first_here = rw (first_word, ← found.reserved, ← found.tail, ← found.fill) refl

    disk_here : e.disk ≡ disk_of c number
    unfolding disk_of
    disk_here = found.disk ∙ rw found.place refl

  -- the words behind the head
  owner_here : (at : ℕ) → buffer_at h.disks + 64 + at ≡ owner_at c.sizes at
  unfolding owner_at copy_at core_of
  owner_here at = refl

  copy_here : (page : ℕ) → get_or w.work (head_words + (buffer_at h.disks + page)) 0 ≡ copy_of c.sizes (body_of w).work page
  unfolding copy_of copy_at core_of body_of
  copy_here page = sym (get_or-drop head_words w.work (buffer_at h.disks + page) 0)

  module _ {number : ℕ} {e : Entry} (found : EntryOf c number e) where
    -- with a slot
    module _ {page slot : ℕ} {r : Result Slot Refusal} (finds : Finds c page slot r) {f : Slot} (there : r ≡ Ok f) where
      pub slot_small : (h.disks ≤ 8) × (page < 64) × (f.at < 8192) × (f.width ≤ 32) × (head_words + (buffer_at h.disks + 64 + f.at) < length w.work)
      slot_small =
          let s = slotted finds (ap row_in there) in
          let o = owner_within h w ready finds there in
          let pages = ap (λ (x : Carried). x.pages) (carried_back h w.work) in (
            o.0,
            omega (arith, s.page_below, pages, ready.counts.pages_max),
            o.1,
            omega (arith, s.width_max, (finds.ready f there).width),
            o.2,
          )

      pub plan_ready : {width : ℕ} → width ≡ f.width
          → Plans c (body_of w) number page slot width
          (plan_of f e (buffer_at h.disks + 64 + f.at) (get_or w.work (head_words + (buffer_at h.disks + page)) 0) (get_or w.work (head_firsts + e.place) 0))
      unfolding body_of
      plan_ready {width} same =
          let s = slotted finds (ap row_in there) in
          let small = slot_small in
          record {
            at = (finds.ready f there).place;
            same_width = same ∙ (finds.ready f there).width;
            page_small = small.1;
            slot_small = omega (arith, s.slot_below, s.slots_max);
            width_max = omega (arith, same, small.3);
            end = omega (arith, same, slot_within h w ready finds there);
            owner = owner_here f.at;
            owner_within = omega (arith, small.4, length-drop head_words w.work);
            copy = copy_here page;
            place = found.place;
            place_low = found.low;
            disk = disk_here found;
            disk_low = disk_low found;
            tail = found.tail;
            fill = found.fill;
            first = first_here found;
            reserved = rw (same, ← found.reserved) refl;
            sum = rw (same, ← found.sum) refl;
            home = home_here found;
          }
