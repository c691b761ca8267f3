-- Every call that is accepted, but a new state, hands back a state that is not shut, whose lists have their lengths, and was lent a work
-- memory of that state's length.
use mathlib.Core.Path.{◌≡◌, refl, ap, ◌∙◌}
use mathlib.Core.List.{List, [], ◌∷◌}
use mathlib.Core.Bool.{Bool, true, false}
use Prim.Native.Nat.{ℕ, ◌+◌}
use lib.Dec.{leb}
use lib.ListN.{length, set, length-set}
use borrow.Author.Tests.{not-false, eqb-true}
use Rattle.model.specs.declared.Stage.{Stage}
use Rattle.model.specs.declared.Stage.TheVariants.{Shut}
use Rattle.model.specs.declared.Sizes.{Sizes}
use Rattle.model.specs.declared.Logs.{Logs}
use Rattle.model.specs.declared.Core.{Core}
use Rattle.model.specs.Scan.{Update}
use Rattle.model.specs.World.{World}
use Rattle.model.specs.Memory.{buffer_words}
use Rattle.model.specs.State.{with_log, with_fill, fill_of, after_flush, with_place, with_reserved, without}
use Rattle.model.specs.Refusal.{Row, row, accepted, verdict}
use Rattle.model.specs.Causes.{when_open, when_copying, when_serving, stage_forbids, anchor_wrong, lengths_wrong}
use Rattle.model.specs.Append.{append, append_if}
use Rattle.model.specs.Transaction.{begun, begin_rows, begin_task, updated, update_rows, update_task, read_rows, commit_rows, commit_task}
use Rattle.model.specs.Abort.{compensate, undo_all, abort_rows, abort_task}
use Rattle.model.specs.Checkpoint.{checkpoint_begin_rows, checkpoint_begin_task, checkpoint_step_rows, checkpoint_step_task, checkpoint_end_rows, checkpoint_end_task}
use Rattle.model.specs.SetClasses.{work_wrong, set_classes_rows, set_classes_task}
use Rattle.model.specs.Call.{read, look_task}
use Rattle.model.proofs.Verdict.{row_passed}
use Rattle.model.proofs.Lengths.{lengths_right_lem}
use Rattle.model.proofs.Store.Rows.{stage_row, not_shut}
use Rattle.model.proofs.View.Head.{HeadSized}
use Rattle.model.proofs.View.Seen.{Fits}
use Rattle.model.proofs.Booleans.{or_none}

-- A call that is for stages other than shut, of which rows 1, 2 and 5 come first.
pub passed : (allowed : Stage → Bool) (fits : Bool) → allowed Shut ≡ false → (c : Core) (w : World) (rest : List Row) → HeadSized c
    → verdict (row 1 (stage_forbids allowed fits c) ∷ row 2 (anchor_wrong w.anchor) ∷ row 5 (lengths_wrong c.sizes c.bases.total w) ∷ rest) ≡ accepted
    → Fits c w.work
unfolding lengths_wrong
passed allowed fits never c w rest sized ok =
    let first = row_passed _ _ ok in
    let second = row_passed _ _ first.1 in
    let third = row_passed _ _ second.1 in
    record {
      sized = sized;
      serving = not_shut allowed never c.stage (stage_row allowed _ c first.0);
      long = (lengths_right_lem c.sizes c.bases.total w (not-false _ third.0)).work;
    }

-- Transactions: a place of the table, a disk's reserved words and its fill are set.
append_fills : (s : Sizes) (l : Logs) (memory : List ℕ) (disk : ℕ) (words : List ℕ)
    → length (append s l memory disk words).logs.fills ≡ length l.fills
unfolding append with_fill after_flush
append_fills s l memory disk words = go (leb (fill_of l disk + length words) buffer_words)
  where
    go : (b : Bool) → length (append_if b s l memory disk words).logs.fills ≡ length l.fills
    go true = length-set l.fills disk _
    go false = simp length-set refl

undo_fills : (s : Sizes) (l : Logs) (w : World) (number disk : ℕ) (us : List Update)
    → length (undo_all s l w number disk us).logs.fills ≡ length l.fills
unfolding undo_all compensate
undo_fills s l w number disk [] = refl
undo_fills s l w number disk (u ∷ us) = undo_fills s (compensate s l w number disk u).logs _ number disk us ∙ append_fills s l w.work disk _

pub begin_fits : (c : Core) (w : World) (class : ℕ) → HeadSized c → verdict (begin_rows c w class) ≡ accepted → Fits (begin_task c w class).core w.work
unfolding begin_rows begin_task begun with_reserved with_place HeadSized
begin_fits c w class sized ok =
    let p = passed when_serving _ refl c w _ sized ok in
    record { sized = simp length-set sized; serving = p.serving; long = p.long }

pub update_fits_lem : (c : Core) (w : World) (number page slot : ℕ) (value : List ℕ) → HeadSized c → verdict (update_rows c w number page slot value) ≡ accepted
    → Fits (update_task c w number page slot value).core w.work
unfolding update_rows update_task updated with_log with_reserved with_place HeadSized
update_fits_lem c w number page slot value sized ok =
    let p = passed when_serving _ refl c w _ sized ok in
    record { sized = simp (length-set, append_fills) sized; serving = p.serving; long = p.long }

pub commit_fits : (c : Core) (w : World) (number : ℕ) → HeadSized c → verdict (commit_rows c w number) ≡ accepted
    → Fits (commit_task c w number).core w.work
unfolding commit_rows commit_task with_log after_flush without with_reserved with_place HeadSized
commit_fits c w number sized ok =
    let p = passed when_serving _ refl c w _ sized ok in
    record { sized = simp (length-set, append_fills) sized; serving = p.serving; long = p.long }

pub abort_fits_lem : (c : Core) (w : World) (number : ℕ) → HeadSized c → verdict (abort_rows c w number) ≡ accepted
    → Fits (abort_task c w number).core w.work
unfolding abort_rows abort_task with_log without with_reserved with_place HeadSized
abort_fits_lem c w number sized ok =
    let p = passed when_serving _ refl c w _ sized ok in
    record { sized = simp (length-set, append_fills, undo_fills) sized; serving = p.serving; long = p.long }

pub read_fits : (c : Core) (w : World) (reader page slot : ℕ) → HeadSized c → verdict (read_rows c w reader page slot) ≡ accepted
    → Fits (look_task (read reader page slot) c w).core w.work
unfolding read_rows look_task
read_fits c w reader page slot sized ok = passed when_serving _ refl c w _ sized ok

-- A table of classes: no list of the head changes.
pub classes_fits : (c : Core) (w : World) (lines : List ℕ) → HeadSized c → verdict (set_classes_rows c w lines) ≡ accepted
    → Fits (set_classes_task c lines).core w.work
unfolding set_classes_rows set_classes_task work_wrong HeadSized
classes_fits c w lines sized ok =
    let stage = row_passed _ _ ok in
    let lengths = row_passed _ _ stage.1 in
    record {
      sized = sized;
      serving = not_shut when_serving refl c.stage (stage_row when_serving _ c stage.0);
      long = eqb-true _ _ (not-false _ (or_none _ _ lengths.0).0);
    }

-- Checkpoints: no list of the head changes but the fills.
pub checkpoint_begin_fits : (c : Core) (w : World) → HeadSized c → verdict (checkpoint_begin_rows c w) ≡ accepted
    → Fits (checkpoint_begin_task c w).core w.work
unfolding checkpoint_begin_rows checkpoint_begin_task HeadSized
checkpoint_begin_fits c w sized ok = record { sized = sized; serving = refl; long = (passed when_open _ refl c w _ sized ok).long }

pub checkpoint_step_fits : (c : Core) (w : World) → HeadSized c → verdict (checkpoint_step_rows c w) ≡ accepted
    → Fits (checkpoint_step_task c w).core w.work
unfolding checkpoint_step_rows checkpoint_step_task HeadSized
checkpoint_step_fits c w sized ok =
    let p = passed when_copying _ refl c w _ sized ok in
    record { sized = sized; serving = p.serving; long = p.long }

pub checkpoint_end_fits : (c : Core) (w : World) → HeadSized c → verdict (checkpoint_end_rows c w) ≡ accepted
    → Fits (checkpoint_end_task c w).core w.work
unfolding checkpoint_end_rows checkpoint_end_task HeadSized
checkpoint_end_fits c w sized ok =
    record { sized = ap (λ (ns : List ℕ). set ns 3 8) sized; serving = refl; long = (passed when_copying _ refl c w _ sized ok).long }
