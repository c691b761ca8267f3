-- One update taken back inside an abort: the store goes on as it did, and a cut loses nothing.
use mathlib.Core.Path.{◌≡◌, refl, sym, ap, ◌∙◌}
use mathlib.Core.List.{List, [], ◌∷◌, ◌++◌}
use mathlib.Core.Bool.{true}
use Prim.Native.Nat.{ℕ, ◌+◌, ◌≤◌, ◌<◌}
use native.Mathlib.Omega.{arith}
use lib.Dec.{eqb}
use lib.ListN.{length, get_or}
use borrow.Author.Tests.{eq-eqb}
use Rattle.model.specs.declared.Sizes.{Sizes}
use Rattle.model.specs.declared.Core.{Core}
use Rattle.model.specs.Word.{◌⊕◌, xors, part}
use Rattle.model.specs.Sizes.{slot_base, total}
use Rattle.model.specs.Scan.{Update}
use Rattle.model.specs.World.{World, Action, pages, perform, stores, run}
use Rattle.model.specs.Memory.{copy_of}
use Rattle.model.specs.State.{kept_of, end_of, with_log}
use Rattle.model.specs.Append.{Appended}
use Rattle.model.specs.Transaction.{disk_of}
use Rattle.model.specs.Abort.{xor_in, compensate}
use Rattle.model.specs.Image.{xor_at}
use Rattle.model.specs.Reference.{Reference}
use Rattle.model.specs.History.{Told, also, compensation}
use Rattle.model.proofs.Run.{perform_append, stores_written}
use Rattle.model.proofs.Lengths.{lengths_right_lem}
use Rattle.model.proofs.Geometry.{page_of, slot_start, slot_start_lem, slot_end_total}
use Rattle.model.proofs.Restart.Words.{with_pages, perform_xor, xor_at_word, length_xor_at}
use Rattle.model.proofs.Ledger.Entry.{Entry, record_of, is_close, mask, spanning, share, adds}
use Rattle.model.proofs.Ledger.State.{logged, Same}
use Rattle.model.proofs.Ledger.Word.{of_txn}
use Rattle.model.proofs.Ledger.Good.{Good, good_same}
use Rattle.model.proofs.Ledger.Update.{compensate_good}
use Rattle.model.proofs.Link.Buffered.{InBuffer, owners_same, copies_same}
use Rattle.model.proofs.Store.View.{Kept, view, Serving, open_used}
use Rattle.model.proofs.Store.Same.{owners_same as owners_kept}
use Rattle.model.proofs.Store.Logged.{Written}
use Rattle.model.proofs.Store.LogEnd.{capped, early}
use Rattle.model.proofs.Store.Put.{MayPut, put, put_longer, put_in_buffer, F1, B1, made_good, put_sums, put_safe, put_copies, put_own, put_told, put_cut}
use Rattle.model.proofs.Growth.{Small}
use Rattle.model.proofs.Parts.{spanning_true}
use Rattle.model.proofs.Store.Steady.{kept_lost}
use Rattle.model.proofs.Store.Compensation.{MayCompensate, compensation_entry, compensation_changes, compensation_size, compensation_record, may_compensate}

-- What some compensations leave: the log of disk d has n words more, and the transaction's entries add `more` besides;
-- `after` is what is then told of the logs.
pub record Compensated (t : ℕ) (home : ℕ → ℕ) (after : Told) (c : Core) (w : World) (r : Reference) (F B : List Entry) (d n : ℕ) (more : ℕ → ℕ) (done : Appended) : Type 0 where
  pub flushed : List Entry
  pub buffered : List Entry
  pub serving : Serving t home after (with_log c done.logs c.table) (perform done.actions w) r flushed buffered
  pub sums : (i : ℕ) → of_txn i t (flushed ++ buffered) ≡ of_txn i t (F ++ B) ⊕ more i
  pub kept : (e : ℕ) → kept_of done.logs e ≡ kept_of c.logs e
  pub ends : end_of done.logs d ≡ end_of c.logs d + n
  pub small : Small c.sizes done.logs
  pub copies : (page : ℕ) → copy_of c.sizes (perform done.actions w).work page ≡ copy_of c.sizes w.work page
  pub cut : (k : ℕ) → k < stores done.actions → Kept after (run k done.actions w) r

-- One update u of transaction t taken back, with room for its record.
module _ {t : ℕ} {home : ℕ → ℕ} {puts : Told} {c : Core} {w : World} {r : Reference} {F B : List Entry} (g : Serving t home puts c w r F B)
    (u : Update) (ok : MayCompensate c t u) where
  abbrev s : Sizes
  s = c.sizes

  abbrev d : ℕ
  d = disk_of c t

  abbrev at : ℕ
  at = slot_base s u.page u.slot

  abbrev e : Entry
  e = compensation_entry c w t u

  may : MayPut c e
  may = may_compensate c w t u ok g.safe.devices.bounds (open_used g.safe t ok.opened).0

  abbrev added : Appended
  added = put g e may

  abbrev w1 : World
  w1 = perform added.actions w

  -- the slot changed back
  abbrev w2 : World
  w2 = with_pages w1 (xor_at at u.diff w1.pages)

  abbrev F' : List Entry
  F' = F1 g e may

  abbrev B' : List Entry
  B' = B1 g e may ++ e ∷ []

  buffer : InBuffer s d w w1
  buffer = put_in_buffer g e may

  inside : at + length u.diff ≤ length w1.pages
  inside =
      rw (buffer.pages_same, ok.slotted.width, (lengths_right_lem s (total s) w g.safe.devices.lengths).pages)
      (slot_end_total s u.page u.slot ok.slotted.page_in ok.slotted.slot_in)

  -- every word takes what the record adds
  pages_after : (i : ℕ) → get_or w.pages i 0 ⊕ adds i e ≡ get_or (xor_at at u.diff w1.pages) i 0
  unfolding adds is_close
  pages_after i = rw (xor_at_word at u.diff w1.pages i inside, buffer.pages_same)

  copies_after : (page : ℕ) → copy_of s w.work page ≡ copy_of s w1.work page
  copies_after page = sym (copies_same buffer page ok.below)

  -- the words of the slot have the copy number of its page
  copy : (i : ℕ) → i < total s → spanning at (length u.diff) i ≡ true → copy_of s w.work (page_of s i) ≡ e.copy
  copy i h k =
      let there = spanning_true at (length u.diff) i k in
      ap (copy_of s w.work) (slot_start_lem s u.page u.slot i ok.slotted.page_in ok.slotted.slot_in there.0 (omega (arith, ok.slotted.width))).1

  same : Same (total s) (logged (view c w r F' (B1 g e may)) e) (view (with_log c added.logs c.table) w2 r F' B')
  unfolding view logged with_log
  same =
      record {
        epoch = refl;
        next = refl;
        pages = λ i h. pages_after i;
        current = λ i h. rw buffer.backups_same;
        other = λ i h. rw buffer.backups_same;
        copies = λ i h. copies_after (page_of s i);
        owners = λ i h. sym (owners_same buffer (slot_start s i) ok.below);
        committed = λ i h. refl;
        writes = λ v h. refl;
        opened = λ v. refl;
        flushed = refl;
        buffered = refl;
      }

  good : Good t (total s) (view (with_log c added.logs c.table) w2 r F' B')
  unfolding view
  good = good_same same (compensate_good e (made_good g e may) ok.opened (compensation_changes c w t u) copy)

  written : Written s w1 w2
  written =
      record {
        anchor_same = refl;
        backups_same = refl;
        logs_same = refl;
        lengths = record { anchor = refl; pages = length_xor_at at u.diff w1.pages; backups = refl; logs = refl; work = refl };
        buffers_same = λ i h. refl;
      }

  -- what is told of the logs, with its record
  abbrev told : Told
  told = also puts (record { disk = disk_of c t; content = compensation c w t u } ∷ [])

  serving : Serving t home told (with_log c added.logs c.table) w2 r F' B'
  unfolding with_log
  serving =
      record {
        stage = g.stage;
        safe = put_safe g e may written t c.table r g.safe.sizes g.safe.shaped good;
        accounts = put_own g e may ok.has refl;
        copies =
            put_copies g e may written (λ p h. refl) (λ h. capped g e u.page ok.slotted.page_in refl)
            (λ h k. early g e u.page ok.slotted.page_in refl ok.below refl h) c.table;
        sets = record { distinct = g.sets.distinct; has = g.sets.has; fits = g.sets.fits };
        owners = owners_kept g.safe.devices.bounds refl refl refl (λ i h. owners_same buffer i ok.below) g.owners;
        told = put_told g e may (record { disk = d; content = compensation c w t u }) refl (compensation_record c w t u);
        marks = g.marks;
      }

  -- the record put, then the slot's words
  abbrev slot_words_lem : List Action
  slot_words_lem = xor_in at u.diff w.pages

  is_put : compensate s c.logs w t d u ≡ record { actions = added.actions ++ slot_words_lem; logs = added.logs }
  unfolding compensate record_of is_close
  is_put = refl

  world : perform (added.actions ++ slot_words_lem) w ≡ w2
  world =
      perform_append added.actions slot_words_lem w ∙ ap (λ (l : List ℕ). perform (xor_in at u.diff l) w1) (sym buffer.pages_same)
      ∙ perform_xor at u.diff w1

  storeless : stores slot_words_lem ≡ 0
  unfolding xor_in
  storeless = stores_written pages at (xors (part at (length u.diff) w.pages) u.diff)

  sums : (i : ℕ) → of_txn i t (F' ++ B') ≡ of_txn i t (F ++ B) ⊕ share at u.diff i
  unfolding adds is_close
  sums i = put_sums g e may (λ q. mask (eqb q.number t) (adds i q)) ∙ rw (eq-eqb t t refl)

  pub compensated : Compensated t home (also puts (record { disk = disk_of c t; content = compensation c w t u } ∷ [])) c w r F B d (3 + length u.diff) (share at u.diff) (compensate s c.logs w t d u)
  compensated =
      rw is_put
      (record {
        flushed = F';
        buffered = B';
        serving = rw world serving;
        sums = sums;
        kept = (put_longer g e may).kept_same;
        ends = (put_longer g e may).end_longer ∙ ap (λ (n : ℕ). end_of c.logs d + n) (compensation_size c w t u);
        small = (put_longer g e may).small;
        copies = λ page. rw world (sym (copies_after page));
        cut = λ k h. kept_lost (put_cut g e may slot_words_lem storeless k h) _;
      })
