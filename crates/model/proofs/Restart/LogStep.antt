-- A restart step from a log keeps the progress: the record that it takes adds to the pages what the rest of the log has less.
use mathlib.Core.Path.{◌≡◌, refl, sym, ap, ◌∙◌}
use mathlib.Core.List.{List, []}
use mathlib.Core.Bool.{Bool, true, false, cond}
use Prim.Native.Nat.{ℕ, ◌+◌, ◌≤◌, ◌<◌}
use native.Mathlib.Omega.{arith}
use native.Mathlib.Decide.{ℕ_discrete}
use lib.ListN.{length, get_or, length-set}
use lib.Seq.{get_or-set_same, get_or-set_other}
use Rattle.model.specs.declared.Sizes.{Sizes}
use Rattle.model.specs.declared.Core.{Core}
use Rattle.model.specs.declared.Decoded.{Decoded}
use Rattle.model.specs.declared.Decoded.TheVariants.{Change, Close, Malformed}
use Rattle.model.specs.Word.{◌⊕◌}
use Rattle.model.specs.Sizes.{slot_base, total}
use Rattle.model.specs.Decode.{span, decode_at}
use Rattle.model.specs.Scan.{Scan, end, scan, fate_in}
use Rattle.model.specs.World.{World, perform}
use Rattle.model.specs.State.{with_replay, start_of, tail_of}
use Rattle.model.specs.Causes.{tail_in}
use Rattle.model.specs.Abort.{xor_in}
use Rattle.model.specs.Restart.{replays, position_of, read_disk, fate_from, next_record, moved_to, record_step}
use Rattle.model.specs.Image.{image_of, xor_at, restarted, words_from, image_from}
use Rattle.model.proofs.Ledger.Entry.{mask, share}
use Rattle.model.proofs.Xor.{xor, ⊕-zero-l, ⊕-zero-r}
use Rattle.model.proofs.Decode.{found_change, found_close}
use Rattle.model.proofs.Reading.{ending}
use Rattle.model.proofs.Scan.{scan_change, scan_close}
use Rattle.model.proofs.Restart.Words.{with_pages, perform_xor, xor_below_less}
use Rattle.model.proofs.Restart.Gain.{gain, length_span, choice_length, choice_word}
use Rattle.model.proofs.Restart.Progress.{log_left, backup_left, logs_left, Progress}
use Rattle.model.proofs.Geometry.{slot_end_total}

-- the words stay right where a step adds `v` to a word and what is to come has `v` less
log_regroup : (p v b g : ℕ) → (p ⊕ v) ⊕ (b ⊕ g) ≡ p ⊕ (b ⊕ (v ⊕ g))
log_regroup p v b g = simp xor

-- A log step: disk d goes on to `next`, and `added` is what the record between adds.
module _ (c : Core) (w : World) (m : Progress c w) (d next : ℕ) (h : d < c.sizes.disks)
    (from : position_of c d ≤ next) (until : next ≤ tail_of c.logs d)
    (l : List ℕ) (long : length l ≡ total c.sizes) (added : ℕ → ℕ)
    (now : (x : ℕ) → x < total c.sizes → get_or l x 0 ≡ get_or w.pages x 0 ⊕ added x)
    (less : (x : ℕ) → gain c.sizes c.epoch (log_left c w d) x
    ≡ added x ⊕ gain c.sizes c.epoch (scan c.sizes (read_disk c w d) (tail_of c.logs d) next) x)
    (well : ending (scan c.sizes (read_disk c w d) (tail_of c.logs d) next) ≡ end) where
  moved_here : position_of (moved_to c d next) d ≡ next
  unfolding position_of moved_to with_replay
  moved_here = get_or-set_same c.replay.positions d next 0 (omega (arith, m.room))

  moved_other : (e : ℕ) → (e ≡ d → ⊥) → position_of (moved_to c d next) e ≡ position_of c e
  unfolding position_of moved_to with_replay
  moved_other e ne = get_or-set_other c.replay.positions d e next 0 ne

  left_here : log_left (moved_to c d next) (with_pages w l) d ≡ scan c.sizes (read_disk c w d) (tail_of c.logs d) next
  unfolding log_left moved_to with_replay read_disk
  left_here = ap (scan c.sizes (read_disk c w d) (tail_of c.logs d)) moved_here

  left_other : (e : ℕ) → (e ≡ d → ⊥) → log_left (moved_to c d next) (with_pages w l) e ≡ log_left c w e
  unfolding log_left moved_to with_replay read_disk
  left_other e ne = ap (scan c.sizes (read_disk c w e) (tail_of c.logs e)) (moved_other e ne)

  moved_logs : (x : ℕ) → logs_left c w x ≡ added x ⊕ logs_left (moved_to c d next) (with_pages w l) x
  unfolding logs_left moved_to with_replay
  moved_logs x =
      xor_below_less _ _ c.sizes.disks d (added x) h
      (less x ∙ ap (λ (k : Scan). added x ⊕ gain c.sizes c.epoch k x) (sym left_here))
      (λ e ne. ap (λ (k : Scan). gain c.sizes c.epoch k x) (sym (left_other e ne)))

  moved_words : (x : ℕ) → x < total c.sizes
      → get_or l x 0 ⊕ (backup_left c w x ⊕ logs_left (moved_to c d next) (with_pages w l) x) ≡ get_or (restarted (image_of w)) x 0
  moved_words x k =
      rw (now x k)
      (log_regroup (get_or w.pages x 0) (added x) (backup_left c w x) (logs_left (moved_to c d next) (with_pages w l) x)
      ∙ ap (λ (g : ℕ). get_or w.pages x 0 ⊕ (backup_left c w x ⊕ g)) (sym (moved_logs x))
      ∙ m.words x k)

  moved_positions : (e : ℕ) → e < c.sizes.disks
      → (start_of c.logs e ≤ position_of (moved_to c d next) e) × (position_of (moved_to c d next) e ≤ tail_of c.logs e)
  moved_positions e k = go (ℕ_discrete e d)
    where
      go : Dec (e ≡ d) → (start_of c.logs e ≤ position_of (moved_to c d next) e) × (position_of (moved_to c d next) e ≤ tail_of c.logs e)
      go (yes same) =
          rw (same, moved_here) (omega (arith, (m.positions d h).0, from), until)
      go (no ne) = rw (moved_other e ne) (m.positions e k)

  moved_clean : (e : ℕ) → e < c.sizes.disks → ending (log_left (moved_to c d next) (with_pages w l) e) ≡ end
  moved_clean e k = go (ℕ_discrete e d)
    where
      go : Dec (e ≡ d) → ending (log_left (moved_to c d next) (with_pages w l) e) ≡ end
      go (yes same) = rw (same, left_here) well
      go (no ne) = rw (left_other e ne) (m.clean e k)

  moved : Progress (moved_to c d next) (with_pages w l)
  unfolding moved_to with_replay backup_left image_of image_from words_from tail_in
  moved =
      record {
        stage = m.stage;
        sizes = m.sizes;
        epoch = m.epoch;
        bounds = m.bounds;
        lengths = record { pages = long; backups = m.lengths.backups; logs = m.lengths.logs; work = m.lengths.work };
        backup = m.backup;
        starts = m.starts;
        tails = m.tails;
        eight = m.eight;
        room = simp length-set m.room;
        positions = moved_positions;
        clean = moved_clean;
        page = m.page;
        words = moved_words;
      }

-- the record at the next position: a change is XORed in or not by its transaction's fate, a closing record is passed over
module _ (c : Core) (w : World) (m : Progress c w) (d : ℕ) (h : d < c.sizes.disks) (k : position_of c d < tail_of c.logs d) where
  choose : (at : ℕ) (diff : List ℕ) (b : Bool)
      → perform (cond b (xor_in at diff w.pages) []) w ≡ with_pages w (cond b (xor_at at diff w.pages) w.pages)
  unfolding perform
  choose at diff true = perform_xor at diff w
  choose at diff false = refl

  change_less : {kind page slot number copy width next : ℕ}
      → decode_at c.sizes (read_disk c w d) (tail_of c.logs d) (position_of c d) ≡ Change kind page slot number copy width next
      → (x : ℕ) → gain c.sizes c.epoch (log_left c w d) x
      ≡ mask (replays c.epoch (fate_in number (scan c.sizes (read_disk c w d) (tail_of c.logs d) next)) copy)
      (share (slot_base c.sizes page slot) (span (read_disk c w d) (position_of c d + 3) width) x)
      ⊕ gain c.sizes c.epoch (scan c.sizes (read_disk c w d) (tail_of c.logs d) next) x
  unfolding log_left gain
  change_less e x = rw (scan_change c.sizes (read_disk c w d) (tail_of c.logs d) k e)

  close_less : {kind number next : ℕ}
      → decode_at c.sizes (read_disk c w d) (tail_of c.logs d) (position_of c d) ≡ Close kind number next
      → (x : ℕ) → gain c.sizes c.epoch (log_left c w d) x
      ≡ 0 ⊕ gain c.sizes c.epoch (scan c.sizes (read_disk c w d) (tail_of c.logs d) next) x
  unfolding log_left gain
  close_less e x = rw (scan_close c.sizes (read_disk c w d) (tail_of c.logs d) k e) (sym (⊕-zero-l _))

  -- the rest of a well-formed log behind a record is well formed
  pub change_well : {kind page slot number copy width next : ℕ}
      → decode_at c.sizes (read_disk c w d) (tail_of c.logs d) (position_of c d) ≡ Change kind page slot number copy width next
      → ending (scan c.sizes (read_disk c w d) (tail_of c.logs d) next) ≡ end
  unfolding log_left ending
  change_well e = rw (scan_change c.sizes (read_disk c w d) (tail_of c.logs d) k e) at (m.clean d h)

  close_well : {kind number next : ℕ}
      → decode_at c.sizes (read_disk c w d) (tail_of c.logs d) (position_of c d) ≡ Close kind number next
      → ending (scan c.sizes (read_disk c w d) (tail_of c.logs d) next) ≡ end
  unfolding log_left ending
  close_well e = rw (scan_close c.sizes (read_disk c w d) (tail_of c.logs d) k e) at (m.clean d h)

  change_progress : {kind page slot number copy width next : ℕ}
      → decode_at c.sizes (read_disk c w d) (tail_of c.logs d) (position_of c d) ≡ Change kind page slot number copy width next
      → Progress (record_step c w d (Change kind page slot number copy width next)).core
      (perform (record_step c w d (Change kind page slot number copy width next)).actions w)
  unfolding fate_from
  change_progress {kind} {page} {slot} {number} {copy} {width} {next} e =
      let s : Sizes = c.sizes in
      let at : ℕ = slot_base s page slot in
      let diff : List ℕ = span (read_disk c w d) (position_of c d + 3) width in
      let b : Bool = replays c.epoch (fate_in number (scan s (read_disk c w d) (tail_of c.logs d) next)) copy in
      let f = found_change s (read_disk c w d) (tail_of c.logs d) e in
      let fits = slot_end_total s page slot f.page_in f.slot_in in
      let wide = length_span (read_disk c w d) (position_of c d + 3) width in
      rw (choose at diff b)
      (moved c w m d next h (omega (arith, f.next_eq)) f.next_le (cond b (xor_at at diff w.pages) w.pages)
      (choice_length at diff w.pages b ∙ m.lengths.pages)
      (λ x. mask b (share at diff x))
      (λ x _. choice_word at diff w.pages b x (omega (arith, m.lengths.pages, f.width_eq)))
      (change_less e) (change_well e))

  pub record_progress : (r : Decoded) → next_record c w d ≡ r
      → Progress (record_step c w d r).core (perform (record_step c w d r).actions w)
  unfolding next_record perform
  record_progress (Change kind page slot number copy width next) e = change_progress e
  record_progress (Close kind number next) e =
      let f = found_close c.sizes (read_disk c w d) (tail_of c.logs d) e in
      moved c w m d next h (omega (arith, f.next_eq)) f.next_le w.pages m.lengths.pages (λ x. 0)
      (λ x _. sym (⊕-zero-r (get_or w.pages x 0)))
      (close_less e) (close_well e)
  record_progress Malformed e = m
