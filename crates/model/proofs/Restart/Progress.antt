-- A restart under way: the pages so far and what the steps to come add make the image's pages. It holds after restart begin.
use mathlib.Core.Path.{◌≡◌, refl, sym, ap, ◌∙◌}
use mathlib.Core.List.{List, []}
use mathlib.Core.Bool.{true}
use Prim.Native.Nat.{ℕ, ◌-◌, ◌≤◌, ◌<◌}
use native.Mathlib.Omega.{arith}
use lib.Dec.{leb, leb-zero}
use lib.ListN.{length, get_or, replicate, length-replicate, get_or-replicate}
use lib.Seq.{sets, length-sets}
use Rattle.model.specs.declared.Stage.TheVariants.{Replaying}
use Rattle.model.specs.declared.Sizes.{Sizes}
use Rattle.model.specs.declared.Core.{Core}
use Rattle.model.specs.Below.{sum_below}
use Rattle.model.specs.Word.{◌⊕◌}
use Rattle.model.specs.Sizes.{page_base, total, sizes_in_bounds}
use Rattle.model.specs.Anchor.{epoch_on, sizes_on, start_on}
use Rattle.model.specs.Decode.{read_log}
use Rattle.model.specs.Scan.{Scan, end, scan}
use Rattle.model.specs.World.{World, perform}
use Rattle.model.specs.State.{start_of, tail_of}
use Rattle.model.specs.Causes.{lengths_wrong, tail_on, retained_from, retained}
use Rattle.model.specs.Restart.{position_of, read_disk, image_rows, restart_begin_rows, restart_begin_task}
use Rattle.model.specs.Reference.{taken, outcome_of}
use Rattle.model.specs.Call.{restart_begin, result_of}
use Rattle.model.specs.Image.{image_of, log_of, restarted, image_from}
use Rattle.model.proofs.Ledger.Entry.{mask}
use Rattle.model.proofs.Xor.{⊕-zero-l}
use Rattle.model.proofs.Reading.{ending}
use Rattle.model.proofs.Checked.{Restartable, rows_restartable}
use Rattle.model.proofs.Run.{perform_pages}
use Rattle.model.proofs.Storeless.{nothing_stored}
use Rattle.model.proofs.Restart.Words.{with_pages, xor_below, xor_below_cong}
use Rattle.model.proofs.Restart.Gain.{gain, gains, restarted_word}
use Rattle.model.proofs.Lengths.{Lengths, lengths_right_lem as lengths}
use Rattle.model.proofs.Restart.Image.{disks_le, length_backup, image_log, SameDevices, memory_devices}
use Rattle.model.proofs.Restart.Taken.{Taken, taken_call}
use Rattle.model.proofs.Parts.{get_or_sets_in}
use Rattle.model.proofs.Verdict.{row_passed, accepted_first}
use Rattle.model.proofs.PerDisk.{get_or_per_disk, length_per_disk}

-- the rest of a disk's log: from the next position up to the tail
unfoldable pub log_left : Core → World → ℕ → Scan
log_left c w d = scan c.sizes (read_disk c w d) (tail_of c.logs d) (position_of c d)

-- the rest of the backup at word x: its word, if its page is not XORed in yet
unfoldable pub backup_left : Core → World → ℕ → ℕ
backup_left c w x = mask (leb (page_base c.sizes c.replay.page) x) (get_or (image_of w).backup x 0)

-- the rest of all logs at word x
unfoldable pub logs_left : Core → World → ℕ → ℕ
logs_left c w x = xor_below (λ d. gain c.sizes c.epoch (log_left c w d) x) c.sizes.disks

-- The state is that of the devices, what is left of each log is well formed, and a word of the pages with what is left of the
-- backup and of the logs is the image's word.
pub record Progress (c : Core) (w : World) : Type 0 where
  pub stage : c.stage ≡ Replaying
  pub sizes : c.sizes ≡ sizes_on w.anchor
  pub epoch : c.epoch ≡ epoch_on w.anchor
  pub bounds : sizes_in_bounds c.sizes ≡ true
  pub lengths : Lengths c.sizes (total c.sizes) w
  pub backup : length (image_of w).backup ≡ total c.sizes
  pub starts : (d : ℕ) → d < c.sizes.disks → start_of c.logs d ≡ start_on w.anchor d
  pub tails : (d : ℕ) → d < c.sizes.disks → tail_of c.logs d ≡ tail_on c.sizes w d
  pub eight : length c.logs.tails ≡ 8
  pub room : c.sizes.disks ≤ length c.replay.positions
  pub positions : (d : ℕ) → d < c.sizes.disks → (start_of c.logs d ≤ position_of c d) × (position_of c d ≤ tail_of c.logs d)
  pub clean : (d : ℕ) → d < c.sizes.disks → ending (log_left c w d) ≡ end
  pub page : c.replay.page ≤ c.sizes.pages
  pub words : (x : ℕ) → x < total c.sizes
      → get_or w.pages x 0 ⊕ (backup_left c w x ⊕ logs_left c w x) ≡ get_or (restarted (image_of w)) x 0

-- what an accepted restart begin found
pub begin_restartable : (c : Core) (w : World) → Taken restart_begin c w → Restartable w
unfolding restart_begin_rows
begin_restartable c w t =
    rows_restartable w (accepted_first (image_rows (λ s. lengths_wrong s (total s) w) w.anchor w.logs) _ (row_passed _ _ t.accepted).1)

-- at the start of its log, a disk's rest is the whole retained log
pub left_retained : (c : Core) (w : World) (d : ℕ) → tail_of c.logs d ≡ tail_on c.sizes w d
    → position_of c d ≡ start_on w.anchor d → log_left c w d ≡ retained c.sizes w d
unfolding log_left read_disk retained_from
left_retained c w d e f =
    ap (λ (t : ℕ). scan c.sizes (read_log c.sizes w.logs d t []) t (position_of c d)) e
    ∙ ap (λ (p : ℕ). scan c.sizes (read_log c.sizes w.logs d (tail_on c.sizes w d) []) (tail_on c.sizes w d) p) f

perform_begin : (w : World)
    → perform (restart_begin_task w).actions w ≡ with_pages w (sets w.pages 0 (replicate (total (sizes_on w.anchor)) 0))
unfolding restart_begin_task
perform_begin w = perform_pages 0 (replicate (total (sizes_on w.anchor)) 0) w

-- the state and the pages that restart begin makes
module _ (w : World) (k : Restartable w) where
  eight : (sizes_on w.anchor).disks ≤ 8
  eight = disks_le (sizes_on w.anchor) k.image.bounds

  begun_retained : (d : ℕ) → d < (sizes_on w.anchor).disks → (l : List ℕ)
      → log_left (restart_begin_task w).core (with_pages w l) d ≡ retained (sizes_on w.anchor) w d
  unfolding restart_begin_task tail_of position_of
  begun_retained d h l =
      left_retained (restart_begin_task w).core (with_pages w l) d (get_or_per_disk (sizes_on w.anchor) (tail_on (sizes_on w.anchor) w) d eight h)
      (get_or_per_disk (sizes_on w.anchor) (start_on w.anchor) d eight h)

  begun_log : (d : ℕ) → d < (sizes_on w.anchor).disks → (l : List ℕ)
      → log_left (restart_begin_task w).core (with_pages w l) d ≡ log_of (image_of w) d
  unfolding image_of
  begun_log d h l =
      begun_retained d h l
      ∙ sym (image_log (sizes_on w.anchor) (epoch_on w.anchor) (start_on w.anchor) w.backups w.logs d h (k.image.whole.tails d h).0)

  begun_logs : (x : ℕ) (l : List ℕ) → logs_left (restart_begin_task w).core (with_pages w l) x ≡ gains (image_of w) (sizes_on w.anchor).disks x
  unfolding restart_begin_task logs_left gains image_of image_from
  begun_logs x l =
      xor_below_cong _ _ (sizes_on w.anchor).disks
      (λ d h. ap (λ (log : Scan). gain (sizes_on w.anchor) (epoch_on w.anchor) log x) (begun_log d h l))

  begun_backup : (x : ℕ) (l : List ℕ) → backup_left (restart_begin_task w).core (with_pages w l) x ≡ get_or (image_of w).backup x 0
  unfolding restart_begin_task backup_left page_base sum_below image_of image_from
  begun_backup x l = rw (leb-zero x)

  zeroed : (x : ℕ) → x < total (sizes_on w.anchor) → get_or (sets w.pages 0 (replicate (total (sizes_on w.anchor)) 0)) x 0 ≡ 0
  zeroed x h =
      let n : ℕ = total (sizes_on w.anchor) in
      let long = length-replicate {A = ℕ} n 0 in
      let fits = (lengths (sizes_on w.anchor) (total (sizes_on w.anchor)) w k.lengths).pages in
      get_or_sets_in w.pages 0 (replicate n 0) x (omega arith) (omega arith) (omega arith)
      ∙ get_or-replicate n (x - 0) 0 0 (omega arith)

  begun_progress : Progress (restart_begin_task w).core (with_pages w (sets w.pages 0 (replicate (total (sizes_on w.anchor)) 0)))
  unfolding restart_begin_task tail_of start_of position_of image_of image_from
  begun_progress =
      let s : Sizes = sizes_on w.anchor in
      let zeros : List ℕ = replicate (total s) 0 in
      let long = lengths s (total s) w k.lengths in
      let back = length_backup w k.lengths in
      record {
        stage = refl;
        sizes = refl;
        epoch = refl;
        bounds = k.image.bounds;
        lengths = record { pages = length-sets w.pages 0 zeros ∙ long.pages; backups = long.backups; logs = long.logs; work = long.work };
        backup = back;
        starts = λ d h. get_or_per_disk s (start_on w.anchor) d eight h;
        tails = λ d h. get_or_per_disk s (tail_on s w) d eight h;
        eight = length_per_disk s (tail_on s w);
        room = omega (arith, eight, length_per_disk s (start_on w.anchor));
        positions = λ d h.
            let e = get_or_per_disk s (start_on w.anchor) d eight h in
            let f = get_or_per_disk s (tail_on s w) d eight h in
            let g = k.image.whole.tails d h in
            (omega arith, omega arith);
        clean = λ d h. ap ending (begun_retained d h (sets w.pages 0 zeros)) ∙ k.image.whole.clean d h;
        page = omega arith;
        words = λ x h.
            rw (zeroed x h, begun_backup x (sets w.pages 0 zeros), begun_logs x (sets w.pages 0 zeros))
            (⊕-zero-l _ ∙ sym (restarted_word (image_of w) x back));
      }

-- after a restart begin that was taken, with the devices as they were
pub begin_progress : (c : Core) (w : World) → outcome_of (result_of restart_begin c w).answer ≡ taken
    → Progress (result_of restart_begin c w).core (result_of restart_begin c w).world
    × SameDevices (result_of restart_begin c w).world w
begin_progress c w e =
    let t = taken_call restart_begin c w e in
    rw (t.core, t.world) (
      rw (perform_begin w) (begun_progress w (begin_restartable c w t)),
      memory_devices (restart_begin_task w).actions w (nothing_stored restart_begin c w refl),
    )
