-- Begin: a new transaction with no record and no write.
use mathlib.Core.Path.{◌≡◌, refl, sym, ◌∙◌}
use mathlib.Core.List.{List, [], ◌++◌, map}
use mathlib.Core.Bool.{Bool, true, false, cond, ◌&&◌}
use Prim.Native.Nat.{ℕ, ◌+◌, ◌<◌}
use native.Mathlib.Omega.{arith}
use lib.Dec.{eqb}
use borrow.Author.Tests.{eq-eqb, ne_eqb}
use Rattle.model.specs.declared.Table.{Table}
use Rattle.model.specs.declared.Core.{Core}
use Rattle.model.specs.Sizes.{total, slot_base}
use Rattle.model.specs.World.{World}
use Rattle.model.specs.Memory.{owner_of}
use Rattle.model.specs.State.{kept_of, disk_at_place, first_at, reserved_at, place_of, is_open}
use Rattle.model.specs.Room.{idlest}
use Rattle.model.specs.Refusal.{accepted, verdict}
use Rattle.model.specs.Transaction.{disk_of, begin_rows, begun, begin_task}
use Rattle.model.specs.Call.{begin}
use Rattle.model.specs.Reference.{Reference, writes_of, after_taken}
use Rattle.model.specs.History.{Told}
use Rattle.model.proofs.Slots.{patch_of}
use Rattle.model.proofs.WriteSets.{distinct_front, front_writes, front_has}
use Rattle.model.proofs.Ledger.Entry.{Entry, some as some_entry, All}
use Rattle.model.proofs.Ledger.State.{Same, begun as begun_ledger}
use Rattle.model.proofs.Ledger.Order.{on, boundary}
use Rattle.model.proofs.Ledger.Sums.{all_map, all_zip}
use Rattle.model.proofs.Ledger.Good.{good_same, begin_good}
use Rattle.model.proofs.Store.OneMore.{since_still}
use Rattle.model.proofs.Store.View.{view, before, Safe, Own, words_for, Accounts, Copies, Sets, Owners, Serving, Served, SinceOn}
use Rattle.model.proofs.Store.Same.{devices_same}
use Rattle.model.proofs.Booleans.{true_false, or_none}
use Rattle.model.proofs.Store.Accepted.{begin_accepted}
use Rattle.model.proofs.Store.BeginTable.{T as table, new, open_after, newly, old, same_disk, same_first, same_reserved, same_update, new_disk, new_reserved, no_update, new_tabled}
use Rattle.model.proofs.Store.WordsFor.{words_for_none}

module _ {home : ℕ → ℕ} {puts : Told} {c : Core} {w : World} {r : Reference} {F B : List Entry}
    (class : ℕ) (ok : verdict (begin_rows c w class) ≡ accepted) (v : Serving 0 home puts c w r F B) where
  abbrev T : Table
  T = table class ok v

  abbrev R : Reference
  R = after_taken (begin class) c.next r

  abbrev homes : ℕ → ℕ
  homes t = cond (eqb t c.next) (idlest c class 2) (home t)

  safe : Safe 0 homes (begun c class) w R F B
  unfolding begun begun_ledger view
  safe =
      record {
        devices = devices_same refl refl refl refl refl v.safe.devices.lengths v.safe.devices;
        good = good_same same (begin_good v.safe.good);
        link = v.safe.link;
        ordered = record {
          laid = v.safe.ordered.laid;
          inside = v.safe.ordered.inside;
          homed = all_zip (λ e q l. rw (ne_eqb e.number c.next (λ x. omega arith)) q) (F ++ B) v.safe.ordered.homed v.accounts.numbered;
          last = v.safe.ordered.last;
        };
        fit = v.safe.fit;
        ends = v.safe.ends;
        sizes = v.safe.sizes;
        shaped = v.safe.shaped;
      }
    where
      none_or : (u : ℕ) (b : Bool)
          → cond b [] (map (patch_of c.sizes) (writes_of u r.write_sets)) ≡ map (patch_of c.sizes) (cond b [] (writes_of u r.write_sets))
      none_or u true = refl
      none_or u false = refl

      same : Same (total c.sizes) (begun_ledger (view c w r F B)) (view (begun c class) w R F B)
      same =
          record {
            epoch = refl;
            next = refl;
            pages = λ i h. refl;
            current = λ i h. refl;
            other = λ i h. refl;
            copies = λ i h. refl;
            owners = λ i h. refl;
            committed = λ i h. refl;
            writes = λ u o. rw (front_writes c.next r.write_sets u) (none_or u (eqb u c.next));
            opened = λ u. sym (open_after class ok v u);
            flushed = refl;
            buffered = refl;
          }

  accounts : Accounts 0 homes (begun c class) F B
  unfolding begun disk_of
  accounts =
      record {
        tabled = new_tabled class ok v;
        homes =
            λ t o.
            newly class ok v t (homes t ≡ disk_at_place T (place_of T t)) o
            (λ e. rw (eq-eqb t c.next e, e) (sym (new_disk class ok v)))
            (λ p. rw (ne_eqb t c.next (old class ok v t p)) (v.accounts.homes t p ∙ sym (same_disk class ok v t p)));
        own =
            λ t o.
            newly class ok v t (All (λ e. e.number ≡ t → Own 0 (begun c class) t e) (F ++ B)) o
            (λ q. all_map (λ e l n. absurd (omega arith)) (F ++ B) v.accounts.numbered)
            (λ p. all_map (λ e h n. still t p e (h n)) (F ++ B) (v.accounts.own t p));
        firsts =
            λ t o u.
            newly class ok v t (boundary (first_at T (place_of T t)) (kept_of c.logs (disk_at_place T (place_of T t))) (on (disk_at_place T (place_of T t)) F ++ on (disk_at_place T (place_of T t)) B) ≡ true) o
            (λ q. true_false u (rw q (no_update class ok v)))
            (λ p. rw (same_first class ok v t p, same_disk class ok v t p) (v.accounts.firsts t p (sym (same_update class ok v t p) ∙ u)));
        disks =
            λ t o.
            newly class ok v t (disk_at_place T (place_of T t) < c.sizes.disks) o
            (λ q. rw (q, new_disk class ok v) ((begin_accepted c w class ok).chosen v.safe.devices.bounds.disks_max).below)
            (λ p. rw (same_disk class ok v t p) (v.accounts.disks t p));
        started =
            λ t o u.
            newly class ok v t (some_entry (λ e. eqb e.number t && eqb e.position (first_at T (place_of T t))) (F ++ B) ≡ true) o
            (λ q. true_false u (rw q (no_update class ok v)))
            (λ p. rw (same_first class ok v t p) (v.accounts.started t p (sym (same_update class ok v t p) ∙ u)));
        reserved =
            λ t o ne.
            newly class ok v t (reserved_at T (place_of T t) ≡ 2 + words_for t (F ++ B)) o
            (λ q. rw (q, new_reserved class ok v, words_for_none c.next (F ++ B) v.accounts.numbered))
            (λ p. same_reserved class ok v t p ∙ v.accounts.reserved t p ne);
        closed_or_open = all_map (λ e h s. h (or_none _ _ (sym (open_after class ok v e.number) ∙ s)).0) (F ++ B) v.accounts.closed_or_open;
        numbered = all_map (λ e l. omega arith) (F ++ B) v.accounts.numbered;
      }
    where
      still : (t : ℕ) (p : is_open c.table t ≡ true) (e : Entry) → Own 0 c t e → Own 0 (begun c class) t e
      still t p e o =
          record { has = same_update class ok v t p ∙ o.has; first = rw (same_first class ok v t p) o.first; kind = o.kind }

  copies : Copies (begun c class) w F B
  unfolding begun before
  copies =
      let h = v.copies in
      record { copied = h.copied; pages = h.pages; capped = h.capped; early = h.early; ends = h.ends }

  sets : Sets (begun c class) R
  unfolding begun
  sets =
      record {
        distinct = distinct_front c.next r.write_sets (sym (v.sets.has c.next) ∙ (new class ok v)) v.sets.distinct;
        has = λ t. open_after class ok v t ∙ rw (v.sets.has t) (sym (front_has c.next r.write_sets t));
        fits = (tt, v.sets.fits);
      }

  -- a slot's owner is an older one, and its write set is as before
  owners : Owners (begun c class) w R
  unfolding begun
  owners =
      record {
        below = λ page slot p q. omega (arith, v.owners.below page slot p q);
        written =
            λ page slot p q o.
            let t : ℕ = owner_of c.sizes w.work (slot_base c.sizes page slot) in
            let less = v.owners.below page slot p q in
            rw (front_writes c.next r.write_sets t, ne_eqb t c.next (λ e. omega arith))
            (v.owners.written page slot p q (newly class ok v t (is_open c.table t ≡ true) o (λ e. absurd (omega arith)) (λ h. h)));
      }

  told : (d : ℕ) → d < c.sizes.disks → SinceOn puts (begun c class) d (on d F ++ on d B)
  unfolding begun
  told d h =
      since_still refl
      (λ t y l. newly class ok v t (is_open c.table t ≡ true) (y (omega arith)) (λ q. absurd (omega (arith, q))) (λ p. p))
      (v.told d h)

  begin_serving : Serving 0 homes puts (begun c class) w R F B
  unfolding begun
  begin_serving = record { stage = v.stage; safe = safe; accounts = accounts; copies = copies; sets = sets; owners = owners; told = told; marks = v.marks }

-- begin keeps what holds of an open store, with the reference's (new class ok v), empty write set
pub begin_serves : {puts : Told} {c : Core} {w : World} {r : Reference} → Served puts c w r → (class : ℕ) → verdict (begin_rows c w class) ≡ accepted
    → Served puts (begin_task c w class).core w (after_taken (begin class) c.next r)
unfolding begin_task
begin_serves s class ok =
    record {
      home = homes class ok s.serving;
      flushed = s.flushed;
      buffered = s.buffered;
      serving = begin_serving class ok s.serving;
    }
