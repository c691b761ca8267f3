-- The power may go at any moment: what holds of an open store makes its image restart to the committed contents.
use mathlib.Core.Path.{◌≡◌, refl, sym, ap, ap₂, subst, ◌∙◌}
use mathlib.Core.List.{List, [], ◌∷◌, ◌++◌, map, map-append}
use Prim.Native.Nat.{ℕ, ◌+◌, ◌≤◌, ◌<◌}
use native.Mathlib.Omega.{arith}
use lib.ListN.{length, get_or, length-append}
use lib.Seq.{ext_get_or}
use Rattle.model.specs.declared.Sizes.{Sizes}
use Rattle.model.specs.declared.Core.{Core}
use Rattle.model.specs.Word.{◌⊕◌}
use Rattle.model.specs.Sizes.{total, ring_of}
use Rattle.model.specs.Anchor.{sizes_on, start_on, backup_at}
use Rattle.model.specs.Record.{Record, encode_all}
use Rattle.model.specs.World.{World}
use Rattle.model.specs.Scan.{end}
use Rattle.model.specs.State.{limit, kept_of, tail_of, end_of}
use Rattle.model.specs.Causes.{tail_on, retained as retained_scan}
use Rattle.model.specs.Image.{Image, image_of, retained_words, log_of, restarted, image_from}
use Rattle.model.specs.Reference.{Reference, words_in}
use Rattle.model.specs.History.{Told}
use Rattle.model.specs.LogPromise.{Stored}
use Rattle.model.proofs.Bounds.{in_bounds}
use Rattle.model.proofs.Reading.{ending}
use Rattle.model.proofs.RoundTrip.{encode_append}
use Rattle.model.proofs.Slots.{words_length}
use Rattle.model.proofs.Ledger.Entry.{Entry, record_of, adds, All, closed_in, chosen, mask, sum}
use Rattle.model.proofs.Ledger.Order.{on, words_of, entries_scan}
use Rattle.model.proofs.Ledger.Sums.{all_map}
use Rattle.model.proofs.Ledger.Picks.{all_pick}
use Rattle.model.proofs.Ledger.Lists.{all_left}
use Rattle.model.proofs.Ledger.Ordered.{closed_same, closes_last}
use Rattle.model.proofs.Ledger.Good.{recovers}
use Rattle.model.proofs.Link.Words.{Fit, placed_entries, retained, image_log, retained_scan_lem}
use Rattle.model.proofs.Restart.Words.{xor_below_cong}
use Rattle.model.proofs.Restart.Gain.{gain, gains, restarted_word, length_restarted}
use Rattle.model.proofs.Restart.Image.{length_backup}
use Rattle.model.proofs.Restart.Entries.{gain_entries, sum_by_disk}
use Rattle.model.proofs.Checked.{Whole, Restartable}
use Rattle.model.proofs.Store.View.{Kept, view, Safe, SinceOn, anchor_kept, flushed_laid}
use Rattle.model.proofs.Parts.{get_or_part}

-- entries are read to their end
entries_end : (l : List Entry) → ending (entries_scan l) ≡ end
unfolding entries_scan ending
entries_end [] = refl
entries_end (r ∷ l) = entries_end l

-- where a restart sees the same of a disk, it holds the same of what was put
unfoldable pub stored_same : {v w : World} {puts : Told} {d : ℕ} → sizes_on v.anchor ≡ sizes_on w.anchor → start_on v.anchor d ≡ start_on w.anchor d
    → tail_on (sizes_on w.anchor) v d ≡ tail_on (sizes_on w.anchor) w d
    → retained_words (sizes_on w.anchor) v d ≡ retained_words (sizes_on w.anchor) w d
    → retained_scan (sizes_on w.anchor) v d ≡ retained_scan (sizes_on w.anchor) w d
    → image_of v ≡ image_of w → Stored puts w d → Stored puts v d
stored_same {d = d} sizes start tail words scan image k =
    record {
      old = k.old;
      stretch = k.stretch;
      rest = k.rest;
      parts = k.parts;
      start = start ∙ k.start;
      since = start ∙ k.since;
      tail = rw sizes (tail ∙ k.tail);
      words = rw sizes (words ∙ k.words);
      finds = rw (sizes, start) (scan ∙ k.finds);
      reads = rw start (ap (λ (i : Image). log_of i d) image ∙ k.reads);
    }

module _ {x : ℕ} {home : ℕ → ℕ} {c : Core} {w : World} {r : Reference} {F B : List Entry} (g : Safe x home c w r F B) where
  abbrev s : Sizes
  s = c.sizes

  pub fit : All (Fit s) F
  fit = all_left (Fit s) F B g.fit

  -- what a restart chooses of an entry, at word i
  part_of : ℕ → Entry → ℕ
  part_of i e = mask (chosen (closed_in F) c.epoch e) (adds i e)

  pub log : (d : ℕ) → d < s.disks → log_of (image_of w) d ≡ entries_scan (on d F)
  unfolding image_of
  log d h = rw g.devices.sizes (image_log g.link d h _ (start_on w.anchor) w.backups (anchor_kept g.devices d h) fit (flushed_laid g d h))

  log_gain : (i d : ℕ) → d < s.disks → gain s c.epoch (log_of (image_of w) d) i ≡ sum (part_of i) (on d F)
  unfolding part_of on
  log_gain i d h =
      rw (log d h)
      (gain_entries s c.epoch (closed_in F) i (on d F) (all_map (λ e k. k.slotted) (on d F) (all_pick (Fit s) _ F fit))
      (closes_last g.ordered d h)
      (all_map (λ e k. sym k) (on d F) (closed_same g.ordered d)))

  image_sizes : (image_of w).sizes ≡ s
  unfolding image_of image_from
  image_sizes = g.devices.sizes

  image_epoch : (image_of w).epoch ≡ c.epoch
  unfolding image_of image_from
  image_epoch = g.devices.epoch

  all_gains : (i : ℕ) → gains (image_of w) s.disks i ≡ sum (part_of i) F
  unfolding gains on
  all_gains i =
      xor_below_cong _ _ s.disks (λ d h. ap₂ (λ (z : Sizes) (e : ℕ). gain z e (log_of (image_of w) d) i) image_sizes image_epoch ∙ log_gain i d h)
      ∙ sum_by_disk (part_of i) s.disks F (all_left _ F B g.ordered.inside)

  backup_long : length (image_of w).backup ≡ total (image_of w).sizes
  unfolding image_of image_from
  backup_long = length_backup w (rw g.devices.sizes g.devices.lengths)

  backup_word : (i : ℕ) → i < total s → get_or (image_of w).backup i 0 ≡ get_or w.backups (backup_at s c.epoch + i) 0
  unfolding image_of image_from
  backup_word i h = rw (g.devices.sizes, g.devices.epoch) (get_or_part (backup_at s c.epoch) (total s) w.backups i h)

  word : (i : ℕ) → i < total s → get_or (restarted (image_of w)) i 0 ≡ get_or (words_in r.committed) i 0
  unfolding view part_of
  word i h =
      restarted_word (image_of w) i backup_long
      ∙ ap₂ (λ (a b : ℕ). a ⊕ b) (backup_word i h) (ap (λ (z : Sizes). gains (image_of w) z.disks i) image_sizes ∙ all_gains i)
      ∙ recovers g.good i h

  -- and no check of a restart applies
  within_ring : (d : ℕ) → d < s.disks
      → (kept_of c.logs d ≤ tail_of c.logs d) × (tail_of c.logs d ≤ kept_of c.logs d + ring_of s d) × (tail_of c.logs d ≤ limit)
  unfolding end_of
  within_ring d h =
      let e = g.ends d h in
      (omega (arith, g.link.tail d h), omega arith, omega arith)

  whole : (start : ℕ → ℕ) → ((d : ℕ) → d < s.disks → start d ≡ kept_of c.logs d) → Whole s start w.logs
  whole start same =
      record {
        tails = λ d h. rw (same d h, g.link.stored d h) (within_ring d h);
        clean = λ d h. rw (retained_scan_lem g.link d h start (same d h) fit (flushed_laid g d h)) (entries_end (on d F));
      }

  restartable : Restartable w
  restartable =
      record {
        image = record {
          long = g.devices.anchor;
          formatted = rw g.devices.epoch g.devices.formatted;
          bounds = rw g.devices.sizes (in_bounds s g.devices.bounds);
          whole = rw g.devices.sizes (whole (start_on w.anchor) (anchor_kept g.devices));
        };
        lengths = rw g.devices.sizes g.devices.lengths;
      }

  -- the logs of the image are the flushed entries; what is buffered would be lost
  unfoldable pub stored : (d : ℕ) → d < s.disks → (puts : Told) → SinceOn puts c d (on d F ++ on d B) → Stored puts w d
  unfolding words_of
  stored d h puts told =
      let start = anchor_kept g.devices d h in
      let laid = sym (placed_entries (kept_of c.logs d) (on d F) (flushed_laid g d h)) in
      let long = ap length (encode_append told.old (map record_of (on d F))) ∙ length-append (encode_all told.old) (encode_all (map record_of (on d F))) in
      record {
        old = told.old;
        stretch = map record_of (on d F);
        rest = map record_of (on d B);
        parts = told.all ∙ ap (λ (l : List Record). told.old ++ l) (map-append record_of (on d F) (on d B));
        start = start ∙ told.from;
        since = start ∙ told.since;
        tail = rw g.devices.sizes (g.link.stored d h ∙ g.link.tail d h ∙ omega (arith, told.from, long));
        words = rw g.devices.sizes (retained g.link d h (start_on w.anchor) start);
        finds = rw (g.devices.sizes, start) (retained_scan_lem g.link d h (start_on w.anchor) start fit (flushed_laid g d h) ∙ laid);
        reads = rw start (log d h ∙ laid);
      }

  -- a restart from this moment on gives what is committed
  pub kept : (puts : Told) → ((d : ℕ) → d < s.disks → SinceOn puts c d (on d F ++ on d B)) → Kept puts w r
  kept puts told =
      record {
        sizes = g.devices.sizes ∙ sym g.sizes;
        shaped = rw g.sizes g.shaped;
        image =
            ext_get_or 0 _ _ (length_restarted (image_of w) backup_long ∙ ap total image_sizes ∙ sym (words_length s r.committed g.shaped))
            (λ i h. word i (subst (λ (n : ℕ). i < n) (length_restarted (image_of w) backup_long ∙ ap total image_sizes) h));
        logs = λ d h. let k = rw g.devices.sizes at h in stored d k puts (told d k);
        restartable = restartable;
      }
