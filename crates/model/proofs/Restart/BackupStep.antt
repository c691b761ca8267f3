-- A restart step from the backup keeps the progress: the page that it takes adds to the pages what the rest of the backup has less.
use mathlib.Core.Path.{◌≡◌, sym, ap, subst, ◌∙◌}
use mathlib.Core.List.{List}
use Prim.Native.Nat.{ℕ, ◌+◌, ◌-◌, ◌≤◌, ◌<◌}
use native.Mathlib.Omega.{arith}
use native.Mathlib.Decide.{dec_lt}
use lib.Dec.{leb}
use lib.ListN.{length, get_or}
use lib.Seq.{ext_get_or}
use borrow.Author.Tests.{le-leb, lt-leb, le-ltb}
use Rattle.model.specs.declared.Sizes.{Sizes}
use Rattle.model.specs.declared.Core.{Core}
use Rattle.model.specs.Word.{◌⊕◌, part}
use Rattle.model.specs.Sizes.{page_base, page_words, total}
use Rattle.model.specs.Anchor.{backup_at}
use Rattle.model.specs.World.{World, perform}
use Rattle.model.specs.Causes.{tail_in}
use Rattle.model.specs.State.{with_replay}
use Rattle.model.specs.Restart.{position_of, read_disk, backup_step, restart_step_task}
use Rattle.model.specs.Image.{image_of, xor_at, restarted, words_from, image_from}
use Rattle.model.specs.LogPromise.{BackupStep}
use Rattle.model.proofs.Ledger.Entry.{mask, spanning, share}
use Rattle.model.proofs.Xor.{xor, ⊕-zero-l, ⊕-zero-r}
use Rattle.model.proofs.Restart.Words.{length_xor_at, xor_at_word, with_pages, perform_xor}
use Rattle.model.proofs.Restart.Image.{backup_within}
use Rattle.model.proofs.Restart.Progress.{log_left, backup_left, logs_left, Progress}
use Rattle.model.proofs.Geometry.{page_end, page_base_step}
use Rattle.model.proofs.Parts.{length_part, get_or_part, spanning_in, spanning_before, spanning_after}

regroup : (p v b g : ℕ) → (p ⊕ v) ⊕ (b ⊕ g) ≡ p ⊕ ((v ⊕ b) ⊕ g)
regroup p v b g = simp xor

-- what stands from `base` on is a difference there of n words, and what stands from base + n on
from_base : (base n x v : ℕ) (diff : List ℕ) → length diff ≡ n → (base ≤ x → x < base + n → get_or diff (x - base) 0 ≡ v)
    → mask (leb base x) v ≡ share base diff x ⊕ mask (leb (base + n) x) v
unfolding share
from_base base n x v diff long here = rw long (go (dec_lt x base) (dec_lt x (base + n)))
  where
    go : Dec (x < base) → Dec (x < base + n)
        → mask (leb base x) v ≡ mask (spanning base n x) (get_or diff (x - base) 0) ⊕ mask (leb (base + n) x) v
    go (yes a) b = rw (lt-leb base x a, spanning_before base n x a, lt-leb (base + n) x (omega arith)) (sym (⊕-zero-r 0))
    go (no a) (yes b) =
        rw (le-leb base x (omega arith), spanning_in base n x (omega arith) b, lt-leb (base + n) x b)
        (sym (here (omega arith) b) ∙ sym (⊕-zero-r (get_or diff (x - base) 0)))
    go (no a) (no b) =
        rw (le-leb base x (omega arith), spanning_after base n x (omega arith), le-leb (base + n) x (omega arith)) (sym (⊕-zero-l v))

-- the words of a backup from a page on are the page's and those from the next page on
module _ (s : Sizes) (at page : ℕ) (backups : List ℕ) (h : page < s.pages) (fits : at + total s ≤ length backups) where
  page_length_lem : length (part (at + page_base s page) (page_words s page) backups) ≡ page_words s page
  page_length_lem = length_part (at + page_base s page) (page_words s page) backups (omega (arith, page_end s page h))

  page_word : (x : ℕ) → page_base s page ≤ x → x < page_base s page + page_words s page
      → get_or (part (at + page_base s page) (page_words s page) backups) (x - page_base s page) 0 ≡ get_or (part at (total s) backups) x 0
  page_word x l m =
      get_or_part (at + page_base s page) (page_words s page) backups (x - page_base s page) (omega arith)
      ∙ ap (λ (i : ℕ). get_or backups i 0) (omega arith)
      ∙ sym (get_or_part at (total s) backups x (omega (arith, page_end s page h)))

  page_less : (x : ℕ)
      → mask (leb (page_base s page) x) (get_or (part at (total s) backups) x 0)
      ≡ share (page_base s page) (part (at + page_base s page) (page_words s page) backups) x
      ⊕ mask (leb (page_base s (page + 1)) x) (get_or (part at (total s) backups) x 0)
  page_less x =
      rw (page_base_step s page)
      (from_base (page_base s page) (page_words s page) x (get_or (part at (total s) backups) x 0)
      (part (at + page_base s page) (page_words s page) backups) page_length_lem (page_word x))

module _ (c : Core) (w : World) (m : Progress c w) (h : c.replay.page < c.sizes.pages) where
  base : ℕ
  base = page_base c.sizes c.replay.page

  diff : List ℕ
  diff = part (backup_at c.sizes c.epoch + page_base c.sizes c.replay.page) (page_words c.sizes c.replay.page) w.backups

  fits : backup_at c.sizes c.epoch + total c.sizes ≤ length w.backups
  fits = omega (arith, backup_within c.sizes c.epoch, m.lengths.backups)

  image_backup : (image_of w).backup ≡ part (backup_at c.sizes c.epoch) (total c.sizes) w.backups
  unfolding image_of image_from
  image_backup = rw (m.sizes, m.epoch)

  backup_less : (x : ℕ) → backup_left c w x ≡ share base diff x ⊕ backup_left (backup_step c w).core w x
  unfolding backup_left backup_step with_replay base diff
  backup_less x =
      rw image_backup
      (page_less c.sizes (backup_at c.sizes c.epoch) c.replay.page w.backups h fits x)

  inside : base + length diff ≤ length w.pages
  unfolding base diff
  inside =
      omega (arith, page_end c.sizes c.replay.page h, m.lengths.pages, page_length_lem c.sizes (backup_at c.sizes c.epoch) c.replay.page w.backups h fits)

  backup_words : (x : ℕ) → x < total c.sizes
      → get_or (xor_at base diff w.pages) x 0 ⊕ (backup_left (backup_step c w).core w x ⊕ logs_left c w x) ≡ get_or (restarted (image_of w)) x 0
  backup_words x k =
      rw (xor_at_word base diff w.pages x inside)
      (regroup (get_or w.pages x 0) (share base diff x) (backup_left (backup_step c w).core w x) (logs_left c w x)
      ∙ ap (λ (b : ℕ). get_or w.pages x 0 ⊕ (b ⊕ logs_left c w x)) (sym (backup_less x))
      ∙ m.words x k)

  stepped : Progress (backup_step c w).core (with_pages w (xor_at base diff w.pages))
  unfolding backup_step with_replay backup_left logs_left log_left position_of read_disk image_of image_from words_from tail_in
  stepped =
      record {
        stage = m.stage;
        sizes = m.sizes;
        epoch = m.epoch;
        bounds = m.bounds;
        lengths = record { pages = length_xor_at base diff w.pages ∙ m.lengths.pages; backups = m.lengths.backups; logs = m.lengths.logs; work = m.lengths.work };
        backup = m.backup;
        starts = m.starts;
        tails = m.tails;
        eight = m.eight;
        room = m.room;
        positions = m.positions;
        clean = m.clean;
        page = omega arith;
        words = backup_words;
      }

  -- the step takes its page of the image's backup
  page_of_backup : part (page_base c.sizes c.replay.page) (page_words c.sizes c.replay.page) (image_of w).backup ≡ diff
  unfolding diff
  page_of_backup =
      let s : Sizes = c.sizes in
      let at : ℕ = backup_at s c.epoch in
      let page : ℕ = c.replay.page in
      let whole : List ℕ = part at (total s) w.backups in
      let long = length_part (page_base s page) (page_words s page) whole (omega (arith, page_end s page h, length_part at (total s) w.backups fits)) in
      rw image_backup
      (ext_get_or 0 _ _ (long ∙ sym (page_length_lem s at page w.backups h fits)) (λ i l.
      let inside : i < page_words s page = subst (λ (n : ℕ). i < n) long l in
      get_or_part (page_base s page) (page_words s page) whole i inside
      ∙ get_or_part at (total s) w.backups (page_base s page + i) (omega (arith, page_end s page h))
      ∙ ap (λ (j : ℕ). get_or w.backups j 0) (omega arith)
      ∙ sym (get_or_part (at + page_base s page) (page_words s page) w.backups i inside)))

  pub backup_step_lem : BackupStep c w c.replay.page
  unfolding restart_step_task backup_step diff
  backup_step_lem =
      record {
        changes = rw (le-ltb c.sizes.disks c.sizes.disks (omega arith), page_of_backup);
        moves = rw (le-ltb c.sizes.disks c.sizes.disks (omega arith));
      }

  pub backup_progress : Progress (backup_step c w).core (perform (backup_step c w).actions w)
  unfolding backup_step base diff
  backup_progress = rw (perform_xor base diff w) stepped
