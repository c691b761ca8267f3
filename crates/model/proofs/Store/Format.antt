-- A format that is taken leaves a fresh open store: the anchor says the sizes handed to it and checkpoint 1, all else is zero.
use mathlib.Core.Path.{◌≡◌, refl, sym, ap, ◌∙◌}
use mathlib.Core.List.{List, [], ◌∷◌, ◌++◌}
use mathlib.Core.Bool.{true}
use Prim.Native.Nat.{ℕ, ◌+◌, ◌*◌, ◌≤◌, ◌<◌}
use native.Mathlib.Omega.{arith}
use lib.ListN.{length, get_or, replicate, get_or-replicate}
use lib.Seq.{sets, ext_get_or}
use borrow.Author.Tests.{eqb-true, not-false}
use Rattle.model.specs.declared.Sizes.{Sizes}
use Rattle.model.specs.declared.Core.{Core}
use Rattle.model.specs.Below.{list_below}
use Rattle.model.specs.Word.{part}
use Rattle.model.specs.Sizes.{total, tail_word, sizes_in_bounds}
use Rattle.model.specs.Anchor.{epoch_word, slots_at, widths_at, rows_at, epoch_on, sizes_on, start_word, start_on, backup_at}
use Rattle.model.specs.World.{World, store, write, anchor, backups, logs, pages, work, act, perform, each}
use Rattle.model.specs.Memory.{copy_at, lengths_right, owner_at}
use Rattle.model.specs.Refusal.{accepted, verdict}
use Rattle.model.specs.Causes.{anchor_wrong, sizes_wrong, lengths_wrong, tail_on, tail_in}
use Rattle.model.specs.Format.{format_rows, format_stores, fresh_memory, fresh_work, format_task}
use Rattle.model.specs.History.{nothing_told}
use Rattle.model.specs.Reference.{blank}
use Rattle.model.proofs.Run.{perform_append, perform_anchor, perform_backups, perform_pages, perform_work}
use Rattle.model.proofs.Bounds.{Bounded, bounded}
use Rattle.model.proofs.Lengths.{Lengths, lengths_right_lem}
use Rattle.model.proofs.Ring.{tails_apart, disk_within}
use Rattle.model.proofs.Slots.{blank_shaped, blank_words}
use Rattle.model.proofs.Restart.Image.{backup_within}
use Rattle.model.proofs.Link.Words.{lengths_perform}
use Rattle.model.proofs.Store.View.{Served}
use Rattle.model.proofs.Store.Puts.{set_each, set_each_in, perform_each_log, lengths_made, same_word, fresh_is, fresh_copy, fresh_owner}
use Rattle.model.proofs.Store.Anchor.{laid_anchor, Laid, laid_anchor_lem}
use Rattle.model.proofs.Store.Fresh.{Freshly, fresh_serving}
use Rattle.model.proofs.Parts.{length_part, get_or_part}
use Rattle.model.proofs.Verdict.{row_passed}

-- what a format's actions do, for any words that they put
laid_world : (s : Sizes) (w : World) (front slots widths rows zeros owners copies : List ℕ)
    → perform
    ((store anchor epoch_word 0 ∷ []) ++ each (store anchor) 0 front ++ each (store anchor) slots_at slots
    ++ each (store anchor) widths_at widths ++ each (store anchor) rows_at rows
    ++ list_below (λ d. store logs (tail_word s d) 0) s.disks
    ++ each (store backups) (backup_at s 1) zeros ++ (store anchor epoch_word 1 ∷ [])
    ++ each (write pages) 0 zeros ++ (each (write work) (owner_at s 0) owners ++ each (write work) (copy_at s 0) copies)) w
    ≡ record {
      anchor = laid_anchor w.anchor front slots widths rows;
      pages = sets w.pages 0 zeros;
      backups = sets w.backups (backup_at s 1) zeros;
      logs = set_each (tail_word s) (λ d. 0) s.disks w.logs;
      work = sets (sets w.work (owner_at s 0) owners) (copy_at s 0) copies;
    }
unfolding perform act laid_anchor
laid_world s w front slots widths rows zeros owners copies =
    simp (perform_append, perform_anchor, perform_backups, perform_pages, perform_work, perform_each_log (tail_word s) (λ d. 0))

-- The world after a format.
module _ (s : Sizes) (w : World) (b : Bounded s) (long : length w.anchor ≡ 148) (right : Lengths s (total s) w) where
  abbrev front : List ℕ
  front = s.pages ∷ s.disks ∷ s.ring ∷ []

  abbrev zeros : List ℕ
  zeros = replicate (total s) 0

  abbrev formatted : World
  formatted =
      record {
        anchor = laid_anchor w.anchor front s.slots s.widths (replicate 16 0);
        pages = sets w.pages 0 zeros;
        backups = sets w.backups (backup_at s 1) zeros;
        logs = set_each (tail_word s) (λ d. 0) s.disks w.logs;
        work = fresh_work s 1 w.work;
      }

  format_world : perform (format_task s).actions w ≡ formatted
  unfolding format_task format_stores fresh_memory
  format_world = rw (fresh_is s 1 w.work) (laid_world s w front s.slots s.widths (replicate 16 0) zeros zeros (replicate 64 1))

  words : Laid formatted.anchor front s.slots s.widths (replicate 16 0)
  words = laid_anchor_lem w.anchor front s.slots s.widths (replicate 16 0) long refl b.slots_length b.widths_length refl

  -- 64 words of the anchor as a list
  array : (at : ℕ) (l : List ℕ) → length l ≡ 64 → at + 64 ≤ 148
      → ((i : ℕ) → i < 64 → get_or formatted.anchor (at + i) 0 ≡ get_or l i 0) → part at 64 formatted.anchor ≡ l
  array at l e fits same =
      let n : length (part at 64 formatted.anchor) ≡ 64 = length_part at 64 formatted.anchor (omega (arith, words.long)) in
      ext_get_or 0 (part at 64 formatted.anchor) l (n ∙ sym e)
      (λ i h. get_or_part at 64 formatted.anchor i (omega arith) ∙ same i (omega arith))

  format_sizes : sizes_on formatted.anchor ≡ s
  unfolding sizes_on
  format_sizes =
      λ i.
      record {
        pages = words.front 0 (omega arith) i;
        disks = words.front 1 (omega arith) i;
        ring = words.front 2 (omega arith) i;
        slots = array 4 s.slots b.slots_length (omega arith) words.slots i;
        widths = array 68 s.widths b.widths_length (omega arith) words.widths i;
      }

  -- every log starts, and ends, at position 0
  format_start : (d : ℕ) → d < s.disks → start_on formatted.anchor d ≡ 0
  unfolding start_on start_word epoch_on
  format_start d h =
      let eight : d < 8 = omega (arith, b.disks_max) in
      let here : 132 + 8 * 1 + d ≡ 132 + (8 + d) = omega arith in
      ap (λ (c : ℕ). get_or formatted.anchor (start_word c d) 0) words.epoch
      ∙ ap (λ (k : ℕ). get_or formatted.anchor k 0) here
      ∙ words.rows (8 + d) (omega arith)
      ∙ get_or-replicate 16 (8 + d) 0 0 (omega arith)

  format_tail : (d : ℕ) → d < s.disks → tail_on s formatted d ≡ 0
  unfolding tail_in tail_word
  format_tail d h =
      set_each_in (tail_word s) (λ d. 0) s.disks w.logs (tails_apart s) d h (omega (arith, disk_within s d h, right.logs))

  zero_page : (i : ℕ) → i < total s → get_or formatted.pages i 0 ≡ 0
  zero_page i h =
      ap (λ (k : ℕ). get_or formatted.pages k 0) (omega arith) ∙ same_word w.pages 0 (total s) 0 i (omega (arith, right.pages)) h

  format_fresh : Freshly s 1 (replicate 8 0) formatted (blank s)
  unfolding blank epoch_on
  format_fresh =
      let eight : (d : ℕ) → d < s.disks → ◌≡◌ {A = ℕ} 0 (get_or (replicate 8 0) d 0) =
      λ d h. sym (get_or-replicate 8 d 0 0 (omega (arith, b.disks_max))) in
      record {
        bounds = b;
        anchor = words.long;
        lengths = lengths_made s formatted (rw format_world at (lengths_perform (format_task s).actions right));
        eight = refl;
        sizes = format_sizes;
        epoch = words.epoch;
        formatted = omega arith;
        starts = λ d h. format_start d h ∙ eight d h;
        stored = λ d h. format_tail d h ∙ eight d h;
        short = λ d h. rw (sym (eight d h)) (omega arith);
        backup =
            λ i h.
            same_word w.backups (backup_at s 1) (total s) 0 i (omega (arith, backup_within s 1, right.backups)) h
            ∙ sym (zero_page i h);
        pages = λ i h. zero_page i h ∙ sym (ap (λ (l : List ℕ). get_or l i 0) (blank_words s) ∙ get_or-replicate (total s) i 0 0 h);
        copies = λ p h. fresh_copy s 1 w.work right.work p (omega (arith, b.pages_max));
        owners = fresh_owner s 1 w.work right.work;
        reference = refl;
        shaped = blank_shaped s;
        none = refl;
      }

-- What a format that is accepted found: the anchor has 148 words, the sizes are in bounds, the lengths are theirs.
pub format_rows_lem : (c : Core) (w : World) (s : Sizes) → verdict (format_rows c w s) ≡ accepted
    → (length w.anchor ≡ 148) × (sizes_in_bounds s ≡ true) × (lengths_right s (total s) w ≡ true)
unfolding format_rows anchor_wrong sizes_wrong lengths_wrong
format_rows_lem c w s e =
    let first = row_passed _ _ e in
    let second = row_passed _ _ first.1 in
    let third = row_passed _ _ second.1 in
    let fourth = row_passed _ _ third.1 in
    (eqb-true _ _ (not-false _ second.0), not-false _ third.0, not-false _ fourth.0)

-- A format that is taken leaves an open store with the blank reference.
pub format_serves : (c : Core) (w : World) (s : Sizes) → verdict (format_rows c w s) ≡ accepted
    → Served nothing_told (format_task s).core (perform (format_task s).actions w) (blank s)
unfolding format_task nothing_told
format_serves c w s v =
    let rows = format_rows_lem c w s v in
    let right = lengths_right_lem s (total s) w rows.2 in
    rw (format_world s w (bounded s rows.1) rows.0 right)
    (fresh_serving (format_fresh s w (bounded s rows.1) rows.0 right) (λ d. 0)
    (λ d h. get_or-replicate 8 d 0 0 (omega (arith, (bounded s rows.1).disks_max))))
