-- Checkpoint begin and step: each disk's end is remembered, then the pages go one by one to the other backup.
use mathlib.Core.Path.{◌≡◌, refl, sym, ap, ◌∙◌}
use mathlib.Core.List.{List, [], ◌∷◌, ◌++◌}
use mathlib.Core.Bool.{Bool, true, false, cond}
use Prim.Native.Nat.{ℕ, ◌+◌, ◌<◌}
use native.Mathlib.Omega.{arith}
use native.Mathlib.Decide.{ℕ_discrete}
use lib.Dec.{ltb}
use lib.ListN.{length-set}
use lib.Seq.{length-sets}
use borrow.Author.Tests.{ltb-true, ltb-false, lt-ltb, le-ltb}
use Rattle.model.specs.declared.Core.{Core}
use Rattle.model.specs.Sizes.{page_base, page_words, total}
use Rattle.model.specs.World.{World, backups, work, store, write, perform, run, finishes, each}
use Rattle.model.specs.Memory.{copy_at, copy_of, lengths_right}
use Rattle.model.specs.State.{kept_of, fill_of, end_of, sound}
use Rattle.model.specs.Refusal.{accepted, verdict}
use Rattle.model.specs.Causes.{when_open, tail_in}
use Rattle.model.specs.Checkpoint.{checkpoint_begin_rows, checkpoint_begin_task, lowest_to_copy, checkpoint_step_rows, copy_page, checkpoint_step_task}
use Rattle.model.specs.Reference.{Reference}
use Rattle.model.specs.History.{Told, marked}
use Rattle.model.proofs.Geometry.{page_of, page_of_lem, page_in, slot_start, slot_in}
use Rattle.model.proofs.Ledger.Entry.{Entry, All, spanning}
use Rattle.model.proofs.Ledger.State.{Same, copied}
use Rattle.model.proofs.Ledger.Order.{on}
use Rattle.model.proofs.Ledger.Positions.{boundary_end}
use Rattle.model.proofs.Ledger.Sums.{all_map}
use Rattle.model.proofs.Ledger.Good.{Good, good_same}
use Rattle.model.proofs.Ledger.Checkpoint.{copy_good}
use Rattle.model.proofs.Link.Words.{Link, log_end}
use Rattle.model.proofs.Restart.Aside.{Aside, aside_append, aside_backup}
use Rattle.model.proofs.Store.View.{Kept, view, before, Devices, Copies, Serving, Served}
use Rattle.model.proofs.Store.Rows.{stage_row, copying_not_open, serving_sound_lem, disk_sound_lem}
use Rattle.model.proofs.Store.Page.{at, words, after, copying, page_lt, page_first, stepped, fits, size_words_lem, other_word, current_word, epoch_page, epoch_other, owner_word, buffer_words_lem}
use Rattle.model.proofs.Store.Same.{devices_same, accounts_same, sets_same, owners_same}
use Rattle.model.proofs.Store.Steady.{kept_aside}
use Rattle.model.proofs.Store.LogEnd.{end_told}
use Rattle.model.proofs.Booleans.{true_false}
use Rattle.model.proofs.Parts.{spanning_true, spanning_in}
use Rattle.model.proofs.Verdict.{row_passed}
use Rattle.model.proofs.PerDisk.{get_or_per_disk}

-- ---- checkpoint begin

module _ {home : ℕ → ℕ} {puts : Told} {c : Core} {w : World} {r : Reference} {F B : List Entry}
    (ok : verdict (checkpoint_begin_rows c w) ≡ accepted) (v : Serving 0 home puts c w r F B) where
  opened : when_open c.stage ≡ true
  unfolding checkpoint_begin_rows
  opened = stage_row when_open _ c (row_passed _ _ ok).0

  remembering : Copies (checkpoint_begin_task c w).core w F B
  unfolding checkpoint_begin_task before
  remembering =
      record {
        copied = λ e. refl;
        pages = λ p h. rw (v.copies.copied opened) at (v.copies.pages p h);
        capped = v.copies.capped;
        early = all_map (λ e h b. h (rw opened refl)) (F ++ B) v.copies.early;
        ends = λ e d h.
            rw (get_or_per_disk c.sizes (end_of c.logs) d v.safe.devices.bounds.disks_max h, log_end v.safe.link d h)
            (boundary_end (kept_of c.logs d) (on d F ++ on d B));
      }

  begin_serving : Serving 0 home (marked puts) (checkpoint_begin_task c w).core w r F B
  unfolding checkpoint_begin_task view
  begin_serving =
      record {
        stage = refl;
        safe = record {
          devices = devices_same refl refl refl refl refl v.safe.devices.lengths v.safe.devices;
          good = v.safe.good;
          link = v.safe.link;
          ordered = v.safe.ordered;
          fit = v.safe.fit;
          ends = v.safe.ends;
          sizes = v.safe.sizes;
          shaped = v.safe.shaped;
        };
        accounts = accounts_same refl refl refl refl v.accounts;
        copies = remembering;
        sets = sets_same refl refl v.sets;
        owners = owners_same v.safe.devices.bounds refl refl refl (λ i h. refl) v.owners;
        told = v.told;
        marks = λ e d h. get_or_per_disk c.sizes (end_of c.logs) d v.safe.devices.bounds.disks_max h ∙ end_told v d h;
      }

pub checkpoint_begin_serves : {puts : Told} {c : Core} {w : World} {r : Reference} → Served puts c w r → verdict (checkpoint_begin_rows c w) ≡ accepted
    → Served (marked puts) (checkpoint_begin_task c w).core w r
checkpoint_begin_serves s ok =
    record { home = s.home; flushed = s.flushed; buffered = s.buffered; serving = begin_serving ok s.serving }

-- ---- checkpoint step
-- a number other than k lies below k + 1 as it lies below k
ltb_other : (q k : ℕ) → (q ≡ k → ⊥) → ltb q k ≡ ltb q (k + 1)
ltb_other q k ne = go (ltb q k) refl
  where
    go : (b : Bool) → ltb q k ≡ b → b ≡ ltb q (k + 1)
    go true e = sym (lt-ltb q (k + 1) (omega (arith, ltb-true q k e)))
    go false e = sym (le-ltb q (k + 1) (omega (arith, ltb-false q k e)))

module _ {home : ℕ → ℕ} {puts : Told} {c : Core} {w : World} {r : Reference} {F B : List Entry}
    (ok : verdict (checkpoint_step_rows c w) ≡ accepted) (s : sound c ≡ true) (v : Serving 0 home puts c w r F B) where
  abbrev u : World
  u = after ok v.safe.devices

  abbrev p : ℕ
  p = lowest_to_copy c

  below : p < c.sizes.pages
  below = page_lt ok v.safe.devices

  in_page : ℕ → Bool
  in_page i = spanning (page_base c.sizes p) (page_words c.sizes p) i

  page_word : (i : ℕ) → in_page i ≡ true → page_of c.sizes i ≡ p
  unfolding in_page
  page_word i e =
      let near = spanning_true (page_base c.sizes p) (page_words c.sizes p) i e in
      page_of_lem c.sizes p i below near.0 near.1

  other_page : (i : ℕ) → i < total c.sizes → in_page i ≡ false → page_of c.sizes i ≡ p → ⊥
  unfolding in_page
  other_page i h e same =
      let near = rw same at (page_in c.sizes i h) in
      true_false (spanning_in (page_base c.sizes p) (page_words c.sizes p) i near.1 near.2) e

  -- the page was not copied before, and is now
  old_epoch : copy_of c.sizes w.work p ≡ c.epoch
  old_epoch = v.copies.pages p below ∙ rw (le-ltb p c.checkpoint.copied (omega (arith, page_first ok v.safe.devices)))

  new_epoch : (i : ℕ) → i < total c.sizes → (b : Bool) → in_page i ≡ b
      → cond b (c.epoch + 1) (copy_of c.sizes w.work (page_of c.sizes i)) ≡ copy_of c.sizes u.work (page_of c.sizes i)
  new_epoch i h true e = rw (page_word i e) (sym (epoch_page ok v.safe.devices))
  new_epoch i h false e = sym (epoch_other ok v.safe.devices (page_of c.sizes i) (other_page i h e))

  good : Good 0 (total c.sizes) (view (checkpoint_step_task c w).core u r F B)
  unfolding checkpoint_step_task view copied in_page
  good = good_same same (copy_good in_page (λ i h e. rw (page_word i e, old_epoch) (omega arith)) v.safe.good)
    where
      same : Same (total c.sizes) (copied (view c w r F B) in_page) (view (checkpoint_step_task c w).core u r F B)
      same =
          record {
            epoch = refl;
            next = refl;
            pages = λ i h. refl;
            current = current_word ok v.safe.devices;
            other = λ i h. other_word ok v.safe.devices i h (in_page i) refl;
            copies = λ i h. new_epoch i h (in_page i) refl;
            owners = λ i h. sym (owner_word ok v.safe.devices (slot_start c.sizes i) (slot_in c.sizes i h).start_lt);
            committed = λ i h. refl;
            writes = λ t o. refl;
            opened = λ t. refl;
            flushed = refl;
            buffered = refl;
          }

  stepped_lengths : lengths_right c.sizes (total c.sizes) u ≡ true
  unfolding lengths_right
  stepped_lengths = simp (length-sets, length-set) v.safe.devices.lengths

  stepped_link : Link c.sizes c.logs u F B
  unfolding tail_in
  stepped_link =
      let right = serving_sound_lem c v.stage s in
      record {
        held = v.safe.link.held;
        tail = v.safe.link.tail;
        stored = v.safe.link.stored;
        buffer = λ d h. buffer_words_lem ok v.safe.devices d (fill_of c.logs d) h (disk_sound_lem c d right h).fill ∙ v.safe.link.buffer d h;
        fill = v.safe.link.fill;
      }

  copy_copies : Copies (checkpoint_step_task c w).core u F B
  unfolding checkpoint_step_task before
  copy_copies =
      record {
        copied = λ e. true_false e (copying_not_open c (copying ok v.safe.devices));
        pages = λ q h. go q h (ℕ_discrete q p);
        capped = v.copies.capped;
        early = v.copies.early;
        ends = v.copies.ends;
      }
    where
      first : p ≡ c.checkpoint.copied
      first = page_first ok v.safe.devices

      go : (q : ℕ) → q < c.sizes.pages → Dec (q ≡ p)
          → copy_of c.sizes u.work q ≡ cond (ltb q (c.checkpoint.copied + 1)) (c.epoch + 1) c.epoch
      go q h (yes e) = rw (e, lt-ltb p (c.checkpoint.copied + 1) (omega (arith, first))) (epoch_page ok v.safe.devices)
      go q h (no ne) =
          epoch_other ok v.safe.devices q ne ∙ v.copies.pages q h
          ∙ ap (λ (b : Bool). cond b (c.epoch + 1) c.epoch) (ltb_other q c.checkpoint.copied (λ e. ne (e ∙ sym first)))

  step_serving : Serving 0 home puts (checkpoint_step_task c w).core u r F B
  unfolding checkpoint_step_task
  step_serving =
      record {
        stage = v.stage;
        safe = record {
          devices = devices_same refl refl refl refl refl stepped_lengths v.safe.devices;
          good = good;
          link = stepped_link;
          ordered = v.safe.ordered;
          fit = v.safe.fit;
          ends = v.safe.ends;
          sizes = v.safe.sizes;
          shaped = v.safe.shaped;
        };
        accounts = accounts_same refl refl refl refl v.accounts;
        copies = copy_copies;
        sets = sets_same refl refl v.sets;
        owners = owners_same v.safe.devices.bounds refl refl refl (owner_word ok v.safe.devices) v.owners;
        told = v.told;
        marks = v.marks;
      }

pub checkpoint_step_serves : {puts : Told} {c : Core} {w : World} {r : Reference} → Served puts c w r → sound c ≡ true
    → verdict (checkpoint_step_rows c w) ≡ accepted → Served puts (checkpoint_step_task c w).core (perform (checkpoint_step_task c w).actions w) r
checkpoint_step_serves g s ok =
    rw (stepped ok g.serving.safe.devices)
    (record { home = g.home; flushed = g.flushed; buffered = g.buffered; serving = step_serving ok s g.serving })

-- Cut short, it has stored in the other backup only, so a restart finds what it found before.
step_aside : {c : Core} {w : World} → Devices c w → verdict (checkpoint_step_rows c w) ≡ accepted → All (Aside c.sizes c.epoch) (checkpoint_step_task c w).actions
unfolding checkpoint_step_task copy_page
step_aside {c} {w} v ok =
    aside_append c.sizes c.epoch (each (store backups) (at ok v) (words ok v))
    (write work (copy_at c.sizes (lowest_to_copy c)) (c.epoch + 1) ∷ [])
    (aside_backup c.sizes c.epoch (at ok v) (words ok v) (omega arith) (omega (arith, size_words_lem ok v, fits ok v))) (tt, tt)

pub checkpoint_step_cut : {puts : Told} {c : Core} {w : World} {r : Reference} (budget : ℕ) → Served puts c w r → verdict (checkpoint_step_rows c w) ≡ accepted → Kept puts w r
    → finishes budget (checkpoint_step_task c w).actions ≡ false → Kept puts (run budget (checkpoint_step_task c w).actions w) r
checkpoint_step_cut {c = c} {w = w} budget s ok k cut =
    let v : Devices c w = s.serving.safe.devices in
    kept_aside budget (checkpoint_step_task c w).actions (rw (v.sizes, v.epoch) (step_aside v ok)) k
