-- What a restart sees of two worlds whose rings hold the same flushed entries is the same, whatever is buffered beside them.
use mathlib.Core.Path.{◌≡◌, sym, ap, ◌∙◌}
use mathlib.Core.List.{List, ◌++◌}
use Prim.Native.Nat.{ℕ, ◌<◌}
use native.Mathlib.Omega.{arith}
use Rattle.model.specs.declared.Sizes.{Sizes}
use Rattle.model.specs.declared.Logs.{Logs}
use Rattle.model.specs.declared.Core.{Core}
use Rattle.model.specs.Word.{part}
use Rattle.model.specs.Sizes.{total}
use Rattle.model.specs.Anchor.{sizes_on, epoch_on, start_on, backup_at}
use Rattle.model.specs.World.{World}
use Rattle.model.specs.State.{kept_of}
use Rattle.model.specs.Causes.{tail_on, retained as retained_scan}
use Rattle.model.specs.Image.{image_of, retained_words, restarted}
use Rattle.model.specs.Reference.{Reference}
use Rattle.model.specs.History.{Told}
use Rattle.model.proofs.Run.{SameLengths}
use Rattle.model.proofs.Reading.{ending}
use Rattle.model.proofs.Ledger.Entry.{Entry}
use Rattle.model.proofs.Ledger.Order.{on}
use Rattle.model.proofs.Ledger.Lists.{all_left}
use Rattle.model.proofs.Link.Words.{Fit, Link, retained, retained_scan_lem}
use Rattle.model.proofs.Restart.Image.{image_same}
use Rattle.model.proofs.Checked.{Restartable}
use Rattle.model.proofs.Store.View.{Kept, Safe, SinceOn, anchor_kept, flushed_laid}
use Rattle.model.proofs.Store.Crash.{kept, stored, stored_same}
use Rattle.model.proofs.Store.Flush.{lengths_same}

-- w is the world of an open store, v another one with its flushed entries, its anchor and its backups.
module _ {x : ℕ} {home : ℕ → ℕ} {c : Core} {m : Logs} {w v : World} {r : Reference} {F B D : List Entry} (g : Safe x home c w r F B)
    (j : Link c.sizes m v F D) (anchor : v.anchor ≡ w.anchor) (backups : v.backups ≡ w.backups) (lengths : SameLengths v w)
    (same : (d : ℕ) → kept_of m d ≡ kept_of c.logs d) where
  abbrev s : Sizes
  s = c.sizes

  sizes : sizes_on v.anchor ≡ s
  sizes = ap sizes_on anchor ∙ g.devices.sizes

  start : (d : ℕ) → d < s.disks → start_on v.anchor d ≡ kept_of m d
  start d h = ap (λ (a : List ℕ). start_on a d) anchor ∙ anchor_kept g.devices d h ∙ sym (same d)

  words : (d : ℕ) → d < s.disks → retained_words s v d ≡ retained_words s w d
  words d h = retained j d h (start_on v.anchor) (start d h) ∙ sym (retained g.link d h (start_on w.anchor) (anchor_kept g.devices d h))

  pub image_linked : image_of v ≡ image_of w
  image_linked =
      image_same v w (ap sizes_on anchor) (ap epoch_on anchor)
      (ap (part (backup_at (sizes_on w.anchor) (epoch_on w.anchor)) (total (sizes_on w.anchor))) backups)
      (λ d h. ap (λ (a : List ℕ). start_on a d) anchor)
      (rw g.devices.sizes words)

  tail_linked : (d : ℕ) → d < s.disks → tail_on s v d ≡ tail_on s w d
  tail_linked d h = omega (arith, j.stored d h, j.tail d h, same d, g.link.stored d h, g.link.tail d h)

  scan_linked : (d : ℕ) → d < s.disks → retained_scan s v d ≡ retained_scan s w d
  scan_linked d h =
      let fit = all_left (Fit s) F B g.fit in
      retained_scan_lem j d h (start_on v.anchor) (start d h) fit (rw (same d) (flushed_laid g d h))
      ∙ sym (retained_scan_lem g.link d h (start_on w.anchor) (anchor_kept g.devices d h) fit (flushed_laid g d h))

  restartable_linked : Restartable w → Restartable v
  restartable_linked h =
      record {
        image = record {
          long = lengths.anchor ∙ h.image.long;
          formatted = rw anchor h.image.formatted;
          bounds = rw anchor h.image.bounds;
          whole = record {
            tails =
                let was = rw g.devices.sizes at h.image.whole.tails in
                λ d. rw (sizes, ap (λ (a : List ℕ). start_on a d) anchor) (λ l. rw (tail_linked d l) (was d l));
            clean =
                let was = rw g.devices.sizes at h.image.whole.clean in
                λ d. rw sizes (λ l. ap ending (scan_linked d l) ∙ was d l);
          };
        };
        lengths = rw sizes (lengths_same s lengths g.devices.lengths);
      }

  -- so what one of them keeps, the other keeps
  pub kept_linked : (puts : Told) → ((d : ℕ) → d < s.disks → SinceOn puts c d (on d F ++ on d B)) → Kept puts v r
  kept_linked puts told =
      let h = kept g puts told in
      record {
        sizes = ap sizes_on anchor ∙ h.sizes;
        shaped = h.shaped;
        image = ap restarted image_linked ∙ h.image;
        logs = λ d l.
            let k = rw sizes at l in
            stored_same (ap sizes_on anchor) (ap (λ (a : List ℕ). start_on a d) anchor) (rw g.devices.sizes (tail_linked d k))
            (rw g.devices.sizes (words d k)) (rw g.devices.sizes (scan_linked d k)) image_linked (stored g d k puts (told d k));
        restartable = restartable_linked h.restartable;
      }
