-- As Calls.antt, for a format and a restart, and so for every call: what it gives on what is carried by value and on the whole work memory
-- is seen as what its definition gives.
use mathlib.Core.Path.{◌≡◌, refl, sym, ap, ◌∙◌}
use mathlib.Core.List.{List}
use Prim.Native.Nat.{ℕ, ◌+◌}
use lib.Dec.{ltb}
use lib.ListN.{length, get_or, length-set}
use borrow.Author.Tests.{not-false}
use Rattle.model.specs.declared.Sizes.{Sizes}
use Rattle.model.specs.declared.Core.{Core}
use Rattle.model.specs.declared.Decoded.{Decoded}
use Rattle.model.specs.declared.Decoded.TheVariants.{Change, Close, Malformed}
use Rattle.model.specs.Sizes.{total, page_base}
use Rattle.model.specs.Anchor.{sizes_on, start_on}
use Rattle.model.specs.World.{World}
use Rattle.model.specs.Memory.{work_words}
use Rattle.model.specs.State.{sound, bases_of, open_core, with_replay}
use Rattle.model.specs.Refusal.{accepted, verdict, Task}
use Rattle.model.specs.Causes.{when_replaying, sizes_wrong, lengths_wrong}
use Rattle.model.specs.Format.{format_rows, format_task}
use Rattle.model.specs.Restart.{image_rows, restart_begin_rows, restart_begin_task, next_record, record_step, backup_step, moved_to, restart_step_rows, restart_step_task, restart_run_task, restart_end_rows, restart_end_task}
use Rattle.model.proofs.Booleans.{cond_all}
use Rattle.model.proofs.Below.{length_list}
use Rattle.model.proofs.Lengths.{arrays_right, lengths_right_lem}
use Rattle.model.proofs.KeptBases.{total_kept}
use Rattle.model.proofs.Run.{perform_lengths}
use Rattle.model.proofs.Verdict.{row_passed}
use Rattle.model.proofs.PerDisk.{length_per_disk}
use Rattle.model.proofs.Restart.Run.{run_keeps}
use Rattle.model.proofs.Store.Rows.{stage_row}
use Rattle.model.proofs.Sound.Test.{replay_sound_lem}
use Rattle.model.proofs.Tested.{fits_row, tested}
use Rattle.model.proofs.View.Head.{HeadSized}
use Rattle.model.proofs.View.Seen.{Fits}
use Rattle.model.proofs.View.Calls.{passed}

-- A format and a restart: the lists are new, but for the sizes' own.
open_sized : (s : Sizes) (epoch : ℕ) (tails : List ℕ) → length s.slots ≡ 64 → length s.widths ≡ 64 → HeadSized (open_core s epoch tails)
unfolding HeadSized open_core bases_of
open_sized s epoch tails slots widths = rw (slots, widths, length_list (page_base s) 64) refl

pub format_fits : (c : Core) (w : World) (s : Sizes) → verdict (format_rows c w s) ≡ accepted → Fits (format_task s).core w.work
unfolding format_rows format_task open_core bases_of sizes_wrong lengths_wrong
format_fits c w s ok =
    let second = row_passed _ _ (row_passed _ _ ok).1 in
    let fourth = row_passed _ _ second.1 in
    let fifth = row_passed _ _ fourth.1 in
    let arrays = arrays_right s (not-false _ fourth.0) in
    record { sized = open_sized s 1 _ arrays.0 arrays.1; serving = refl; long = (lengths_right_lem s (total s) w (not-false _ fifth.0)).work }

pub restart_begin_fits : (c : Core) (w : World) → verdict (restart_begin_rows c w) ≡ accepted → Fits (restart_begin_task w).core w.work
unfolding restart_begin_rows image_rows restart_begin_task bases_of HeadSized sizes_wrong lengths_wrong
restart_begin_fits c w ok =
    let s : Sizes = sizes_on w.anchor in
    let third = row_passed _ _ (row_passed _ _ (row_passed _ _ ok).1).1 in
    let fourth = row_passed _ _ third.1 in
    let fifth = row_passed _ _ fourth.1 in
    let arrays = arrays_right s (not-false _ fourth.0) in
    record {
      sized = rw (arrays.0, arrays.1, length_list (page_base s) 64, length_per_disk s (start_on w.anchor)) refl;
      serving = refl;
      long = (lengths_right_lem s (total s) w (not-false _ fifth.0)).work;
    }

-- a step moves a position, or the page
pub record_fits : (c : Core) (w : World) (disk : ℕ) (d : Decoded) (work : List ℕ) → Fits c work → Fits (record_step c w disk d).core work
unfolding moved_to with_replay HeadSized
record_fits c w disk (Change kind page slot number copy width next) work f =
    record { sized = simp length-set f.sized; serving = f.serving; long = f.long }
record_fits c w disk (Close kind number next) work f = record { sized = simp length-set f.sized; serving = f.serving; long = f.long }
record_fits c w disk Malformed work f = f

pub backup_fits : (c : Core) (w : World) (work : List ℕ) → Fits c work → Fits (backup_step c w).core work
unfolding backup_step with_replay HeadSized
backup_fits c w work f = record { sized = f.sized; serving = f.serving; long = f.long }

pub step_fits : (c : Core) (w : World) (source : ℕ) → Fits c w.work → Fits (restart_step_task c w source).core w.work
unfolding restart_step_task
step_fits c w source f =
    cond_all (λ (t : Task). Fits t.core w.work) (ltb source c.sizes.disks) (λ e. record_fits c w source (next_record c w source) w.work f)
    (λ e. backup_fits c w w.work f)

as_long : {c : Core} {work other : List ℕ} → length other ≡ length work → Fits c work → Fits c other
as_long e f = record { sized = f.sized; serving = f.serving; long = e ∙ f.long }

pub run_fits : (c : Core) (w : World) (source most : ℕ) → Fits c w.work → Fits (restart_run_task most c w source).core w.work
run_fits c w source most f =
    let t : Task = restart_run_task most c w source in
    let kept = run_keeps most (λ n c w. Fits c w.work) source
    (λ n c w ok f. as_long (perform_lengths (restart_step_task c w source).actions w).work (step_fits c w source f)) c w f in
    as_long (sym (perform_lengths t.actions w).work) kept

pub replaying : (c : Core) (w : World) (source : ℕ) → HeadSized c → verdict (restart_step_rows c w source) ≡ accepted → Fits c w.work
unfolding restart_step_rows
replaying c w source sized ok = passed when_replaying _ refl c w _ sized ok

-- the end's T is the sizes' own: the state's is right
pub restart_end_fits : (c : Core) (w : World) → HeadSized c → verdict (restart_end_rows c w) ≡ accepted → Fits (restart_end_task c w).core w.work
unfolding restart_end_rows restart_end_task open_core bases_of HeadSized lengths_wrong
restart_end_fits c w sized ok =
    let f = passed when_replaying _ refl c w _ sized ok in
    let first = row_passed _ _ ok in
    let fifth = row_passed _ _ (row_passed _ _ first.1).1 in
    let s = tested (sound c) c w (fits_row when_replaying _ c first.0) (not-false _ fifth.0) in
    let right = replay_sound_lem c (stage_row when_replaying _ c first.0) s in
    record {
      sized = open_sized c.sizes (c.epoch + 1) c.logs.tails (ap (λ (ns : List ℕ). get_or ns 0 0) sized) (ap (λ (ns : List ℕ). get_or ns 1 0) sized);
      serving = refl;
      long = f.long ∙ ap (work_words c.sizes) (total_kept c right.bases);
    }
