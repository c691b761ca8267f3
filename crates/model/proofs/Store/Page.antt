-- A page copied to the other backup: which one it is, and the slices after it.
use mathlib.Core.Path.{◌≡◌, sym, ap, ◌∙◌}
use mathlib.Core.Logic.{◌⊎◌, inl, inr}
use mathlib.Core.List.{List, [], ◌∷◌}
use mathlib.Core.Bool.{Bool, true, false, cond}
use Prim.Native.Nat.{ℕ, ◌+◌, ◌-◌, ◌*◌, ◌%◌, ◌≤◌, ◌<◌}
use native.Mathlib.Omega.{arith}
use native.Mathlib.Decide.{ℕ_discrete}
use native.Mathlib.Nat.{zero-mul, one-mul}
use lib.ListN.{length, get_or, set, drop}
use lib.Seq.{sets, get_or-set_same, get_or-set_other, get_or-take, get_or-drop}
use borrow.Author.Tests.{leb-true, leb-false, le-leb}
use Rattle.model.specs.declared.Sizes.{Sizes}
use Rattle.model.specs.declared.Core.{Core}
use Rattle.model.specs.Below.{first_below}
use Rattle.model.specs.Word.{part}
use Rattle.model.specs.Sizes.{page_base, page_words, total}
use Rattle.model.specs.Anchor.{backup_at}
use Rattle.model.specs.World.{World, backups, store, act, perform, each}
use Rattle.model.specs.Memory.{buffer_at, copy_at, buffer_of, copy_of, work_words, owner_at, owner_of}
use Rattle.model.specs.Refusal.{accepted, verdict}
use Rattle.model.specs.Causes.{when_copying}
use Rattle.model.specs.Checkpoint.{to_copy, lowest_to_copy, checkpoint_step_rows, copy_page, checkpoint_step_task}
use Rattle.model.proofs.Below.{first_passes, first_before}
use Rattle.model.proofs.Run.{perform_append, perform_backups}
use Rattle.model.proofs.Lengths.{Lengths, lengths_right_lem}
use Rattle.model.proofs.Geometry.{page_end}
use Rattle.model.proofs.Ledger.Entry.{spanning}
use Rattle.model.proofs.Parts.{get_or_sets_before, get_or_sets_behind, part_sets_before, length_part, get_or_sets_inside, spanning_true, spanning_false}
use Rattle.model.proofs.Restart.Image.{backup_within}
use Rattle.model.proofs.Store.View.{Devices}
use Rattle.model.proofs.Store.Rows.{stage_row}
use Rattle.model.proofs.Booleans.{true_false}
use Rattle.model.proofs.Verdict.{row_passed}

-- the two backups lie apart
backups_apart : (s : Sizes) (c : ℕ) → (backup_at s c + total s ≤ backup_at s (c + 1)) ⊎ (backup_at s (c + 1) + total s ≤ backup_at s c)
unfolding backup_at
backups_apart s c = go (ℕ_discrete (c % 2) 0)
  where
    go : Dec (c % 2 ≡ 0) → (c % 2 * total s + total s ≤ (c + 1) % 2 * total s) ⊎ ((c + 1) % 2 * total s + total s ≤ c % 2 * total s)
    go (yes e) =
        let f : (c + 1) % 2 ≡ 1 = omega arith in
        inl (rw (e, f, zero-mul, one-mul) (omega arith))
    go (no e) =
        let f : (c + 1) % 2 ≡ 0 = omega arith in
        let g : c % 2 ≡ 1 = omega arith in
        inr (rw (f, g, zero-mul, one-mul) (omega arith))

-- The page that is copied, and the slices after it.
module _ {c : Core} {w : World} (ok : verdict (checkpoint_step_rows c w) ≡ accepted) (devices : Devices c w) where
  lengths : Lengths c.sizes (total c.sizes) w
  lengths = lengths_right_lem c.sizes (total c.sizes) w devices.lengths

  pub copying : when_copying c.stage ≡ true
  unfolding checkpoint_step_rows
  copying = stage_row when_copying _ c (row_passed _ _ ok).0

  abbrev pub page : ℕ
  page = lowest_to_copy c

  pub page_lt : page < c.sizes.pages
  unfolding checkpoint_step_rows
  page_lt =
      let stage = row_passed _ _ ok in
      let anchor = row_passed _ _ stage.1 in
      let others = row_passed _ _ anchor.1 in
      leb-false _ _ (row_passed _ _ others.1).0

  -- it is the first that was not copied
  pub page_first : page ≡ c.checkpoint.copied
  unfolding lowest_to_copy to_copy
  page_first = omega (arith, leb-true c.checkpoint.copied (first_below (to_copy c) c.sizes.pages) (first_passes (to_copy c) c.sizes.pages page_lt), not_after)
    where
      not_after : c.checkpoint.copied < first_below (to_copy c) c.sizes.pages → ⊥
      not_after l = true_false (le-leb c.checkpoint.copied c.checkpoint.copied (omega arith)) (first_before (to_copy c) c.sizes.pages c.checkpoint.copied l)

  abbrev pub from : ℕ
  from = page_base c.sizes page

  abbrev pub size : ℕ
  size = page_words c.sizes page

  abbrev pub words : List ℕ
  words = part from size w.pages

  abbrev pub at : ℕ
  at = backup_at c.sizes (c.epoch + 1) + from

  abbrev pub after : World
  after =
      record {
        anchor = w.anchor;
        pages = w.pages;
        backups = sets w.backups at words;
        logs = w.logs;
        work = set w.work (copy_at c.sizes page) (c.epoch + 1);
      }

  pub stepped : perform (checkpoint_step_task c w).actions w ≡ after
  unfolding checkpoint_step_task copy_page perform act
  stepped = perform_append (each (store backups) at words) _ w ∙ rw (perform_backups at words w)

  pub fits : from + size ≤ total c.sizes
  fits = page_end c.sizes page page_lt

  pub size_words_lem : length words ≡ size
  size_words_lem = length_part from size w.pages (omega (arith, fits, lengths.pages))

  word : (k : ℕ) → k < size → get_or words k 0 ≡ get_or w.pages (from + k) 0
  unfolding part
  word k h = get_or-take size (drop from w.pages) k 0 h ∙ get_or-drop from w.pages k 0

  end_within_lem : at + length words ≤ length w.backups
  end_within_lem = rw (size_words_lem, lengths.backups) (omega (arith, fits, backup_within c.sizes (c.epoch + 1)))

  -- word i of either backup
  pub other_word : (i : ℕ) → i < total c.sizes → (b : Bool) → spanning from size i ≡ b
      → cond b (get_or w.pages i 0) (get_or w.backups (backup_at c.sizes (c.epoch + 1) + i) 0)
      ≡ get_or after.backups (backup_at c.sizes (c.epoch + 1) + i) 0
  other_word i h true e =
      let near = spanning_true from size i e in
      let k : i ≡ from + (i - from) = omega arith in
      let j : backup_at c.sizes (c.epoch + 1) + i ≡ at + (i - from) = omega arith in
      rw j (ap (λ (x : ℕ). get_or w.pages x 0) k ∙ sym (word (i - from) (omega arith))
      ∙ sym (get_or_sets_inside w.backups at words (i - from) end_within_lem (omega (arith, size_words_lem))))
  other_word i h false e = go (spanning_false from size i e)
    where
      go : (i < from) ⊎ (from + size ≤ i)
          → get_or w.backups (backup_at c.sizes (c.epoch + 1) + i) 0 ≡ get_or after.backups (backup_at c.sizes (c.epoch + 1) + i) 0
      go (inl l) = sym (get_or_sets_before w.backups at words _ (omega arith))
      go (inr l) = sym (get_or_sets_behind w.backups at words _ (omega (arith, size_words_lem)))

  pub current_word : (i : ℕ) → i < total c.sizes
      → get_or w.backups (backup_at c.sizes c.epoch + i) 0 ≡ get_or after.backups (backup_at c.sizes c.epoch + i) 0
  current_word i h = go (backups_apart c.sizes c.epoch)
    where
      go : (backup_at c.sizes c.epoch + total c.sizes ≤ backup_at c.sizes (c.epoch + 1))
          ⊎ (backup_at c.sizes (c.epoch + 1) + total c.sizes ≤ backup_at c.sizes c.epoch)
          → get_or w.backups (backup_at c.sizes c.epoch + i) 0 ≡ get_or after.backups (backup_at c.sizes c.epoch + i) 0
      go (inl l) = sym (get_or_sets_before w.backups at words _ (omega arith))
      go (inr l) = sym (get_or_sets_behind w.backups at words _ (omega (arith, size_words_lem, fits)))

  epoch_within : copy_at c.sizes page < length w.work
  unfolding work_words owner_at copy_at
  epoch_within = omega (arith, lengths.work, page_lt, devices.bounds.pages_max)

  -- the copy number of the page, and of the others
  pub epoch_page : copy_of c.sizes after.work page ≡ c.epoch + 1
  unfolding copy_of
  epoch_page = get_or-set_same w.work (copy_at c.sizes page) (c.epoch + 1) 0 epoch_within

  pub epoch_other : (q : ℕ) → (q ≡ page → ⊥) → copy_of c.sizes after.work q ≡ copy_of c.sizes w.work q
  unfolding copy_of copy_at
  epoch_other q ne = get_or-set_other w.work (copy_at c.sizes page) (copy_at c.sizes q) (c.epoch + 1) 0 (omega arith)

  pub owner_word : (i : ℕ) → i < total c.sizes → owner_of c.sizes after.work i ≡ owner_of c.sizes w.work i
  unfolding owner_of owner_at copy_at
  owner_word i h =
      get_or-set_other w.work (copy_at c.sizes page) (owner_at c.sizes i) (c.epoch + 1) 0 (omega (arith, page_lt, devices.bounds.pages_max))

  pub buffer_words_lem : (d fill : ℕ) → d < c.sizes.disks → fill ≤ 64 → buffer_of after.work d fill ≡ buffer_of w.work d fill
  unfolding buffer_of copy_at buffer_at
  buffer_words_lem d fill h f =
      part_sets_before (buffer_at d) fill w.work (copy_at c.sizes page) ((c.epoch + 1) ∷ []) (omega arith)
