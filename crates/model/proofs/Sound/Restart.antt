-- Format and restart begin, step and end hand back a state that passes the first test.
use mathlib.Core.Path.{◌≡◌, refl, sym, ◌∙◌}
use mathlib.Core.List.{List}
use mathlib.Core.Bool.{Bool, true, false, cond}
use Prim.Native.Nat.{ℕ, ◌+◌, ◌-◌, ◌≤◌, ◌<◌}
use native.Mathlib.Omega.{arith}
use native.Mathlib.Decide.{ℕ_discrete}
use lib.Dec.{ltb, eqb}
use lib.ListN.{length, get_or, set, replicate, length-set, get_or-replicate}
use lib.Seq.{get_or-set_same, get_or-set_other}
use borrow.Author.Tests.{leb-false, ltb-true, ltb-false, le-ltb, eqb-false, eq-eqb, not-false}
use Rattle.model.specs.declared.Sizes.{Sizes}
use Rattle.model.specs.declared.Core.{Core}
use Rattle.model.specs.declared.Decoded.{Decoded}
use Rattle.model.specs.declared.Decoded.TheVariants.{Change, Close, Malformed}
use Rattle.model.specs.Below.{sum_below}
use Rattle.model.specs.Sizes.{sizes_in_bounds, total}
use Rattle.model.specs.Anchor.{sizes_on, start_on}
use Rattle.model.specs.World.{World}
use Rattle.model.specs.State.{with_replay, places, limit, no_table, empty_logs, open_core, start_of, tail_of, end_of, number_at, served_by, reserved_for, reserved_on, serving_sound, sound}
use Rattle.model.specs.Refusal.{Row, accepted, verdict}
use Rattle.model.specs.Causes.{when_replaying, sizes_wrong, lengths_wrong, tail_on, source_missing, spent}
use Rattle.model.specs.Format.{format_rows, format_task}
use Rattle.model.specs.Restart.{image_rows, restart_begin_rows, restart_begin_task, remaining, read_disk, next_record, restart_step_rows, backup_step, moved_to, record_step, restart_step_task, restart_run_task, restart_end_rows, restart_end_task}
use Rattle.model.proofs.Decode.{found_change, found_close}
use Rattle.model.proofs.Bounds.{bounded}
use Rattle.model.proofs.KeptBases.{bases_made, bases_carried}
use Rattle.model.proofs.Restart.Run.{run_keeps}
use Rattle.model.proofs.Store.Rows.{stage_row}
use Rattle.model.proofs.Sound.Test.{Sized, Passing, serving_test, ReplaySound, replay_sound_lem, replaying_test}
use Rattle.model.proofs.Verdict.{row_passed, verdict_append, accepted_first}
use Rattle.model.proofs.Checked.{rows_restartable}
use Rattle.model.proofs.PerDisk.{get_or_per_disk, length_per_disk}
use Rattle.model.proofs.Growth.{none_buffered, kept_start}

-- An open state with no transaction and empty logs.
none_reserved : (d : ℕ) → d < 8 → reserved_on no_table d ≡ 0
unfolding reserved_on
none_reserved d h = get_or-replicate 8 d 0 0 h

none_owed : (d : ℕ) → reserved_for no_table d ≡ 0
unfolding reserved_for sum_below served_by number_at
none_owed d = refl

module _ (s : Sizes) (epoch : ℕ) (tails : List ℕ) (bounds : sizes_in_bounds s ≡ true) (eight : length tails ≡ 8)
    (top : (d : ℕ) → d < s.disks → get_or tails d 0 ≤ limit) where
  open_serving : serving_sound (open_core s epoch tails) ≡ true
  unfolding open_core start_of tail_of end_of number_at
  open_serving =
      serving_test (open_core s epoch tails) bounds (bases_made (open_core s epoch tails) refl) (omega arith)
      (λ d h.
      let eight = (bounded s bounds).disks_max in
      let none = none_buffered tails d (omega arith) in
      let unreserved = none_reserved d (omega arith) in
      record {
        counted = unreserved ∙ sym (none_owed d);
        fill = omega arith;
        ordered = omega arith;
        room = omega (arith, kept_start (empty_logs tails) d);
        limit = omega (arith, top d h);
      })
      (λ i h some. absurd (some (get_or-replicate places i 0 0 h)))

  open_passes : Passing (open_core s epoch tails)
  unfolding open_core sound
  open_passes = (
    record {
      logs = record { starts = eight; tails = eight; fills = refl };
      table = record { numbers = refl; disks = refl; firsts = refl; reserved = refl; sums = refl };
      ends = refl;
      positions = refl;
    },
    open_serving,
  )

pub format_passes : (c : Core) (w : World) (s : Sizes) → verdict (format_rows c w s) ≡ accepted → Passing (format_task s).core
unfolding format_rows format_task sizes_wrong
format_passes c w s ok =
    let stage = row_passed _ _ ok in
    let anchor = row_passed _ _ stage.1 in
    let sizes = row_passed _ _ anchor.1 in
    let bounds = not-false _ sizes.0 in
    open_passes s 1 (replicate 8 0) bounds refl
    (λ d h. omega (arith, get_or-replicate {A = ℕ} 8 d 0 0 (omega (arith, (bounded s bounds).disks_max))))

-- Restart begin: the rows found sizes, tails and the checkpoint number within their bounds.
pub restart_begin_passes : (c : Core) (w : World) → verdict (restart_begin_rows c w) ≡ accepted → Passing (restart_begin_task w).core
unfolding restart_begin_rows image_rows restart_begin_task spent tail_of
restart_begin_passes c w ok =
    let s : Sizes = sizes_on w.anchor in
    let after = (row_passed _ _ ok).1 in
    let checks : List Row = image_rows (λ s. lengths_wrong s (total s) w) w.anchor w.logs in
    let found = (rows_restartable w (accepted_first checks _ after)).image in
    let epoch = row_passed _ _ (sym (verdict_append checks _ (accepted_first checks _ after)) ∙ after) in
    let bounds = found.bounds in
    let eight = (bounded s bounds).disks_max in (
      record {
        logs = record { starts = length_per_disk s (start_on w.anchor); tails = length_per_disk s (tail_on s w); fills = refl };
        table = record { numbers = refl; disks = refl; firsts = refl; reserved = refl; sums = refl };
        ends = refl;
        positions = length_per_disk s (start_on w.anchor);
      },
      replaying_test (restart_begin_task w).core refl
          (record {
            bounds = bounds;
            bases = bases_made (restart_begin_task w).core refl;
            epoch = leb-false _ _ epoch.0;
            page = omega arith;
            tails = λ d h. omega (arith, get_or_per_disk s (tail_on s w) d eight h, found.whole.tails d h);
            positions = λ d h. omega (arith, get_or_per_disk s (tail_on s w) d eight h, get_or_per_disk s (start_on w.anchor) d eight h, found.whole.tails d h);
          }),
    )

-- Restart step: a log's next position is the end of a record that was read, and the next page is one of the pages.
module _ (c : Core) (w : World) (sized : Sized c) (replaying : when_replaying c.stage ≡ true) (s : sound c ≡ true) where
  k : ReplaySound c
  k = replay_sound_lem c replaying s

  moved_passes : (d next : ℕ) → d < c.sizes.disks → next ≤ tail_of c.logs d → Passing (moved_to c d next)
  unfolding moved_to with_replay
  moved_passes d next below near = (
    record { logs = sized.logs; table = sized.table; ends = sized.ends; positions = simp length-set sized.positions },
    replaying_test (moved_to c d next) replaying
        (record {
          bounds = k.bounds;
          bases = bases_carried c (moved_to c d next) refl refl k.bases;
          epoch = k.epoch;
          page = k.page;
          tails = k.tails;
          positions = λ e h. go e h (ℕ_discrete e d);
        }),
  )
    where
      go : (e : ℕ) → e < c.sizes.disks → Dec (e ≡ d) → get_or (set c.replay.positions d next) e 0 ≤ tail_of c.logs e
      go e h (yes same) =
          rw (same, get_or-set_same c.replay.positions d next 0 (omega (arith, sized.positions, (bounded c.sizes k.bounds).disks_max)))
          near
      go e h (no ne) = rw (get_or-set_other c.replay.positions d e next 0 ne) (k.positions e h)

  record_passes : (d : ℕ) → d < c.sizes.disks → (r : Decoded) → next_record c w d ≡ r → Passing (record_step c w d r).core
  unfolding next_record
  record_passes d below (Change kind page slot number copy width next) e =
      moved_passes d next below (found_change c.sizes (read_disk c w d) (tail_of c.logs d) e).next_le
  record_passes d below (Close kind number next) e =
      moved_passes d next below (found_close c.sizes (read_disk c w d) (tail_of c.logs d) e).next_le
  record_passes d below Malformed e = (sized, s)

  backup_passes : c.replay.page < c.sizes.pages → Passing (backup_step c w).core
  unfolding backup_step with_replay
  backup_passes h = (
    record { logs = sized.logs; table = sized.table; ends = sized.ends; positions = sized.positions },
    replaying_test (backup_step c w).core replaying
        (record { bounds = k.bounds; bases = bases_carried c (backup_step c w).core refl refl k.bases; epoch = k.epoch; page = omega arith; tails = k.tails; positions = k.positions }),
  )

-- of the backup, a page remains
page_left : (c : Core) (source : ℕ) → c.sizes.disks ≡ source → eqb (remaining c source) 0 ≡ false → c.replay.page < c.sizes.pages
unfolding remaining
page_left c source same e =
    let left : c.sizes.pages - c.replay.page ≡ 0 → ⊥ =
    eqb-false _ _ (rw (le-ltb source c.sizes.disks (omega arith), eq-eqb source c.sizes.disks (sym same)) at e) in
    omega (arith, left)

pub restart_step_passes : (c : Core) (w : World) (source : ℕ) → Sized c → sound c ≡ true → verdict (restart_step_rows c w source) ≡ accepted
    → Passing (restart_step_task c w source).core
unfolding restart_step_rows restart_step_task source_missing
restart_step_passes c w source sized s ok =
    let stage = row_passed _ _ ok in
    let anchor = row_passed _ _ stage.1 in
    let lengths = row_passed _ _ anchor.1 in
    let records = row_passed _ _ lengths.1 in
    let missing = row_passed _ _ records.1 in
    let rest = row_passed _ _ missing.1 in
    go (stage_row when_replaying _ c stage.0) missing.0 rest.0 (ltb source c.sizes.disks) refl
  where
    go : when_replaying c.stage ≡ true → ltb c.sizes.disks source ≡ false → eqb (remaining c source) 0 ≡ false
        → (b : Bool) → ltb source c.sizes.disks ≡ b
        → Passing (cond b (record_step c w source (next_record c w source)) (backup_step c w)).core
    go replaying near left true e =
        record_passes c w sized replaying s source (ltb-true _ _ e) (next_record c w source) refl
    go replaying near left false e =
        backup_passes c w sized replaying s
        (page_left c source (omega (arith, ltb-false source c.sizes.disks e, ltb-false c.sizes.disks source near)) left)

-- A run of them.
pub restart_run_passes : (c : Core) (w : World) (source most : ℕ) → Passing c → Passing (restart_run_task most c w source).core
restart_run_passes c w source most p =
    run_keeps most (λ k n v. Passing n) source (λ k n v ok now. restart_step_passes n v source now.0 now.1 ok) c w p

-- Restart end: the logs start at their tails.
pub restart_end_passes : (c : Core) (w : World) → Sized c → sound c ≡ true → verdict (restart_end_rows c w) ≡ accepted → Passing (restart_end_task c w).core
unfolding restart_end_rows restart_end_task tail_of
restart_end_passes c w sized s ok =
    let k = replay_sound_lem c (stage_row when_replaying _ c (row_passed _ _ ok).0) s in
    open_passes c.sizes (c.epoch + 1) c.logs.tails k.bounds sized.logs.tails k.tails
