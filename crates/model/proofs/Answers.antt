-- What is never refused: on the machine's own slices no cause of rows 2 to 7 arises, and what is open can be closed.
use Rattle.std.specs.Prelude.{None, Option}
use mathlib.Core.Path.{◌≡◌, refl, sym, ap, ◌∙◌}
use mathlib.Core.List.{List, [], ◌∷◌}
use mathlib.Core.Bool.{Bool, true, false, cond, not, and-false, ◌||◌}
use Prim.Native.Nat.{ℕ}
use native.Mathlib.Omega.{arith}
use lib.Dec.{leb, eqb}
use lib.ListN.{length}
use borrow.Author.Tests.{lt-leb, eq-eqb, eqb-true}
use Rattle.model.specs.declared.Stage.TheVariants.{Shut}
use Rattle.model.specs.declared.Sizes.{Sizes}
use Rattle.model.specs.declared.Core.{Core}
use Rattle.model.specs.declared.BadRecord.{BadRecord}
use Rattle.model.specs.Below.{within}
use Rattle.model.specs.Sizes.{total}
use Rattle.model.specs.Anchor.{anchor_words, epoch_on}
use Rattle.model.specs.World.{World}
use Rattle.model.specs.Memory.{lengths_right}
use Rattle.model.specs.State.{sound, is_open}
use Rattle.model.specs.Refusal.{Row, row, Result, verdict, accepted, rejected, number_of}
use Rattle.model.specs.Causes.{when_shut, when_replaying, when_serving, stage_forbids, anchor_wrong, sizes_wrong, lengths_wrong, fault_row, not_open, spent}
use Rattle.model.specs.Format.{format_rows}
use Rattle.model.specs.Transaction.{begin_rows, update_rows, read_rows, commit_rows}
use Rattle.model.specs.Abort.{abort_fault, abort_rows}
use Rattle.model.specs.Checkpoint.{checkpoint_begin_rows, checkpoint_step_rows, checkpoint_end_rows}
use Rattle.model.specs.Restart.{restart_begin_rows, restart_step_rows, restart_end_rows}
use Rattle.model.specs.Listing.{listing, list_rows}
use Rattle.model.specs.Classes.{class_count, line_count, not_a_table, wrong_line, uncovered_class, twice_covered}
use Rattle.model.specs.SetClasses.{least_row, work_wrong, set_classes_rows}
use Rattle.model.specs.Call.{Call, format, begin, update, look, read, list_line, list_lines, commit, abort, set_classes, checkpoint_begin, checkpoint_step, checkpoint_end, restart_begin, restart_step, restart_run, restart_end, new_state, rows_of, result_of}
use Rattle.model.specs.Reference.{Reference, taken, outcome_of}
use Rattle.model.specs.Machine.{Machine, Event, result, outcome, is_refused, follow, allowed_all, formatted}
use Rattle.model.specs.History.{Told}
use Rattle.model.specs.Promise.{Always}
use Rattle.model.specs.Answers.{stages_of, fits_call, is_format, beside_wrong, ClosingTaken, OwnSlices}
use Rattle.model.proofs.Sound.Test.{replay_sound_lem}
use Rattle.model.proofs.KeptBases.{total_kept}
use Rattle.model.proofs.Booleans.{true_false}
use Rattle.model.proofs.Verdict.{ascending_from, numbers, rejected_above, refused_leaves}
use Rattle.model.proofs.Lengths.{lengths_right_lem}
use Rattle.model.proofs.ListRows.{list_verdict, list_bytes}
use Rattle.model.proofs.Restart.Progress.{Progress}
use Rattle.model.proofs.Store.Cases.{call_cases}
use Rattle.model.proofs.Checked.{Restartable}
use Rattle.model.proofs.Store.Rows.{not_shut}
use Rattle.model.proofs.Store.Checks.{step_never_bad, begin_verdict, shut_stage}
use Rattle.model.proofs.Store.AbortRows.{abort_never_bad}
use Rattle.model.proofs.Store.Holding.{Holding, shut, replaying, serving, holding_kept, served, replayed}
use Rattle.model.proofs.Sound.Lists.{sound_after}
use Rattle.model.proofs.Sound.Made.{stage_alone, stage_answers}
use Rattle.model.proofs.PowerLoss.{holds_after}

-- What holds of a machine that a list of events reached, as far as refusals go.
pub record Right (c : Core) (w : World) : Type 0 where
  pub sound : sound c ≡ true
  pub restarts : Restartable w
  pub lengths : when_shut c.stage ≡ false → lengths_right c.sizes c.bases.total w ≡ true
  pub replays : when_replaying c.stage ≡ true → Progress c w
  pub aborts : when_serving c.stage ≡ true → (number : ℕ) → abort_fault c w number ≡ None

-- the slices have the lengths that the state's sizes give, and T that it keeps
right_lengths : {puts : Told} {m : Machine} {r : Reference} → sound m.core ≡ true → Holding puts m r → when_shut m.core.stage ≡ false
    → lengths_right m.core.sizes m.core.bases.total m.world ≡ true
right_lengths ok (shut s k n) e = true_false (ap when_shut s) e
right_lengths ok (replaying p k n _) e =
    rw (total_kept _ (replay_sound_lem _ (ap when_replaying p.stage) ok).bases, p.sizes) k.restartable.lengths
right_lengths ok (serving g) e = rw (total_kept _ g.serving.safe.devices.bases) g.serving.safe.devices.lengths

pub reached : (m : Machine) (s : Sizes) (budget : ℕ) → outcome m (format s budget) ≡ taken → (es : List Event)
    → allowed_all es (formatted m s budget).machine ≡ true
    → Right (follow es (formatted m s budget)).machine.core (follow es (formatted m s budget)).machine.world
reached m s budget formats es a =
    let h = holds_after m s budget formats es a in
    record {
      sound = (sound_after m s budget formats es).1;
      restarts = (holding_kept h).restartable;
      lengths = right_lengths (sound_after m s budget formats es).1 h;
      replays = λ e. (replayed h e).progress;
      aborts = λ e. abort_never_bad (served h e);
    }

module _ (c : Core) (w : World) (right : Right c w) where
  anchor_right : anchor_wrong w.anchor ≡ false
  unfolding anchor_wrong
  anchor_right = rw (eq-eqb (length w.anchor) anchor_words right.restarts.image.long)

  -- rows 1, 2 and 5, which every call but format, restart begin and a new state has first
  pub first_three : (k : Call) → stages_of k Shut ≡ false → stages_of k c.stage ≡ true → (rest : List Row)
      → verdict (row 1 (stage_forbids (stages_of k) (fits_call k c w) c) ∷ row 2 (anchor_wrong w.anchor) ∷ row 5 (lengths_wrong c.sizes c.bases.total w) ∷ rest) ≡ verdict rest
  unfolding verdict lengths_wrong
  first_three k none stage rest =
      rw (stage_alone k c w right.sound, stage, anchor_right, right.lengths (not_shut (stages_of k) none c.stage stage))

  -- the work memory of an open store has its length
  own_work_lem : when_serving c.stage ≡ true → work_wrong c w ≡ false
  unfolding work_wrong
  own_work_lem stage =
      rw (eq-eqb _ _ (lengths_right_lem c.sizes c.bases.total w (right.lengths (not_shut when_serving refl c.stage stage))).work)

-- In its stage a call's verdict is that of rows above 7.
record Late (k : Call) (c : Core) (w : World) : Type 0 where
  rest : List Row
  late : ascending_from 7 (numbers rest) ≡ true
  same : verdict (rows_of k c w) ≡ verdict rest

module _ (c : Core) (w : World) (right : Right c w) where
  -- row 7, which an abort and a restart step have next
  fourth : (f : Option BadRecord) (rest : List Row) → f ≡ None → verdict (fault_row f ∷ rest) ≡ verdict rest
  unfolding verdict
  fourth f rest none = rw none

  -- restart begin has all of them first, then row 13
  thirteen : c.stage ≡ Shut → verdict (restart_begin_rows c w) ≡ verdict (row 13 (spent (epoch_on w.anchor)) ∷ [])
  unfolding verdict
  thirteen stage = begin_verdict c w stage right.restarts

  -- a restart step, and a run of them
  late_step : (k : Call) (source : ℕ) → rows_of k c w ≡ restart_step_rows c w source → when_replaying c.stage ≡ true → Late k c w
  unfolding ascending_from restart_step_rows
  late_step k source rows stage =
      record {
        rest = _;
        late = refl;
        same = ap verdict rows ∙ first_three c w right (restart_step source) refl stage _
            ∙ fourth _ (row 8 _ ∷ row 15 _ ∷ []) (step_never_bad c w (right.replays stage) source);
      }

  -- a listing has rows 1 to 7 of restart begin first, then row 8
  late_list : (k : Call) (wrong : Bool) (number : ℕ) → rows_of k c w ≡ list_rows c.stage wrong w.anchor w.logs number → wrong ≡ false
      → when_shut c.stage ≡ true → Late k c w
  unfolding ascending_from verdict
  late_list k wrong number rows none stage =
      let long = (lengths_right_lem _ _ w right.restarts.lengths).logs in
      record {
        rest = row 8 (leb (length (listing w.anchor w.logs)) number) ∷ [];
        late = refl;
        same = ap verdict rows ∙ rw (none, shut_stage c.stage stage) (list_verdict w.anchor w.logs right.restarts.image long number);
      }

  -- a table of classes has rows 1 and 5 first
  late_classes : (lines : List ℕ) → not_a_table lines ≡ false → when_serving c.stage ≡ true → Late (set_classes lines) c w
  unfolding ascending_from verdict set_classes_rows work_wrong
  late_classes lines none stage =
      record {
        rest = least_row 17 (wrong_line c.sizes.disks lines) (line_count lines)
            ∷ least_row 18 (uncovered_class lines) class_count ∷ least_row 19 (twice_covered lines) class_count ∷ [];
        late = refl;
        same = rw (stage_alone (set_classes lines) c w right.sound, stage, own_work_lem c w right stage, none);
      }

  -- lines of a wrong length
  five_classes : (lines : List ℕ) → not_a_table lines ≡ true → when_serving c.stage ≡ true → number_of (result_of (set_classes lines) c w).answer ≡ 5
  unfolding verdict set_classes_rows work_wrong
  five_classes lines wrong stage =
      let v : verdict (set_classes_rows c w lines) ≡ rejected 5 0 0 =
      rw (stage_alone (set_classes lines) c w right.sound, stage, own_work_lem c w right stage, wrong) in
      rw (refused_leaves (set_classes lines) c w 5 0 0 v) refl

  late_rows : (k : Call) → is_format k ≡ false → beside_wrong k ≡ false → stages_of k c.stage ≡ true → Late k c w
  unfolding ascending_from begin_rows update_rows read_rows commit_rows abort_rows checkpoint_begin_rows checkpoint_step_rows checkpoint_end_rows restart_step_rows restart_end_rows
  late_rows (format s budget) other bytes stage = true_false refl other
  late_rows (begin class) other bytes stage = record { rest = _; late = refl; same = first_three c w right (begin class) refl stage _ }
  late_rows (update number page slot value budget) other bytes stage =
      record { rest = _; late = refl; same = first_three c w right (update number page slot value budget) refl stage _ }
  late_rows (look (read reader page slot)) other bytes stage =
      record { rest = _; late = refl; same = first_three c w right (look (read reader page slot)) refl stage _ }
  late_rows (look (list_line number n)) other bytes stage = late_list (look (list_line number n)) _ number refl bytes stage
  late_rows (look (list_lines first n)) other bytes stage = late_list (look (list_lines first n)) _ first refl bytes stage
  late_rows (commit number budget) other bytes stage = record { rest = _; late = refl; same = first_three c w right (commit number budget) refl stage _ }
  late_rows (abort number budget) other bytes stage =
      record {
        rest = _;
        late = refl;
        same = first_three c w right (abort number budget) refl stage _ ∙ fourth _ (row 9 _ ∷ []) (right.aborts stage number);
      }
  late_rows (set_classes lines) other beside stage = late_classes lines beside stage
  late_rows checkpoint_begin other bytes stage = record { rest = _; late = refl; same = first_three c w right checkpoint_begin refl stage _ }
  late_rows (checkpoint_step budget) other bytes stage = record { rest = _; late = refl; same = first_three c w right (checkpoint_step budget) refl stage _ }
  late_rows (checkpoint_end budget) other bytes stage = record { rest = _; late = refl; same = first_three c w right (checkpoint_end budget) refl stage _ }
  late_rows restart_begin other bytes stage =
      record {
        rest = row 13 (spent (epoch_on w.anchor)) ∷ [];
        late = refl;
        same = thirteen (shut_stage c.stage stage);
      }
  late_rows (restart_step source) other bytes stage = late_step (restart_step source) source refl stage
  late_rows (restart_run source most) other bytes stage = late_step (restart_run source most) source refl stage
  late_rows (restart_end budget) other bytes stage = record { rest = _; late = refl; same = first_three c w right (restart_end budget) refl stage _ }
  late_rows new_state other bytes stage = record { rest = []; late = refl; same = refl }

  own_late : (k : Call) → is_format k ≡ false → beside_wrong k ≡ false → within 2 7 (number_of (result_of k c w).answer) ≡ false
  unfolding within
  own_late k other bytes = go (stages_of k c.stage) refl
    where
      go : (b : Bool) → stages_of k c.stage ≡ b → within 2 7 (number_of (result_of k c w).answer) ≡ false
      go false e = rw (eqb-true (number_of (result_of k c w).answer) 1 (stage_answers k c w right.sound ∙ ap not e))
      go true e =
          let l = late_rows k other bytes e in
          call_cases (λ (r : Result). within 2 7 (number_of r.answer) ≡ false) k c w
          (λ number first second v.
          let more = rejected_above 7 l.rest l.late number first second (sym l.same ∙ v) in
          rw (lt-leb number 7 more) (and-false (leb 2 number)))
          (λ v f. refl) (λ v f. refl)

  -- bytes of a wrong length
  five_bytes : (k : Call) (wrong : Bool) (number : ℕ) → rows_of k c w ≡ list_rows c.stage wrong w.anchor w.logs number → wrong ≡ true
      → when_shut c.stage ≡ true → number_of (result_of k c w).answer ≡ 5
  five_bytes k wrong number rows some stage =
      let v : verdict (rows_of k c w) ≡ rejected 5 0 0 =
      ap verdict rows ∙ rw (some, shut_stage c.stage stage) (list_bytes w.anchor w.logs right.restarts.image number) in
      rw (refused_leaves k c w 5 0 0 v) refl

  own_beside : (k : Call) → beside_wrong k ≡ true → stages_of k c.stage ≡ true → number_of (result_of k c w).answer ≡ 5
  own_beside (look (read reader page slot)) wrong stage = true_false refl (sym wrong)
  own_beside (look (list_line number bytes)) wrong stage = five_bytes (look (list_line number bytes)) _ number refl wrong stage
  own_beside (look (list_lines first bytes)) wrong stage = five_bytes (look (list_lines first bytes)) _ first refl wrong stage
  own_beside (format s budget) wrong stage = true_false refl (sym wrong)
  own_beside (begin class) wrong stage = true_false refl (sym wrong)
  own_beside (update number page slot value budget) wrong stage = true_false refl (sym wrong)
  own_beside (commit number budget) wrong stage = true_false refl (sym wrong)
  own_beside (abort number budget) wrong stage = true_false refl (sym wrong)
  own_beside (set_classes lines) wrong stage = five_classes lines wrong stage
  own_beside checkpoint_begin wrong stage = true_false refl (sym wrong)
  own_beside (checkpoint_step budget) wrong stage = true_false refl (sym wrong)
  own_beside (checkpoint_end budget) wrong stage = true_false refl (sym wrong)
  own_beside restart_begin wrong stage = true_false refl (sym wrong)
  own_beside (restart_step source) wrong stage = true_false refl (sym wrong)
  own_beside (restart_run source most) wrong stage = true_false refl (sym wrong)
  own_beside (restart_end budget) wrong stage = true_false refl (sym wrong)
  own_beside new_state wrong stage = true_false refl (sym wrong)

-- a format's rows are 1, 4 and 5: the anchor has its length
unfoldable format_number : ℕ → Bool
format_number n = within 0 1 n || within 4 5 n || eqb n 16

format_number_lem : (a b d : Bool) (n first second : ℕ)
    → cond a (rejected 1 0 0) (cond b (rejected 4 0 0) (cond d (rejected 5 0 0) accepted)) ≡ rejected n first second
    → format_number n ≡ true
unfolding format_number within
format_number_lem true b d n first second e = rw (let one : n ≡ 1 = cc in one)
format_number_lem false true d n first second e = rw (let four : n ≡ 4 = cc in four)
format_number_lem false false true n first second e = rw (let five : n ≡ 5 = cc in five)
format_number_lem false false false n first second e = let z : ◌≡◌ {A = ℕ} 0 1 = cc in absurd (omega arith)

own_format : (c : Core) (w : World) → Right c w → (s : Sizes) (budget : ℕ) → format_number (number_of (result_of (format s budget) c w).answer) ≡ true
unfolding format_number within verdict format_rows
own_format c w right s budget =
    call_cases (λ (r : Result). format_number (number_of r.answer) ≡ true) (format s budget) c w
    (λ number first second v.
    format_number_lem (stage_forbids when_shut true c) (sizes_wrong s) (lengths_wrong s (total s) w) number first second (rw (anchor_right c w right) at v))
    (λ v f. refl) (λ v f. refl)

-- an accepted call is not refused
goes : (k : Call) (c : Core) (w : World) → verdict (rows_of k c w) ≡ accepted → is_refused (outcome_of (result_of k c w).answer) ≡ false
goes k c w ok =
    call_cases (λ (r : Result). is_refused (outcome_of r.answer) ≡ false) k c w
    (λ number first second v. let z : ◌≡◌ {A = ℕ} 0 1 = cc in absurd (omega arith))
    (λ v f. refl) (λ v f. refl)

module _ (c : Core) (w : World) (right : Right c w) (stage : when_serving c.stage ≡ true) (t : ℕ) (opened : is_open c.table t ≡ true) where
  last_row : verdict (row 9 (not_open c t) ∷ []) ≡ accepted
  unfolding verdict not_open
  last_row = rw opened

  commit_goes : verdict (commit_rows c w t) ≡ accepted
  unfolding commit_rows
  commit_goes = first_three c w right (commit t 0) refl stage _ ∙ last_row

  abort_goes : verdict (abort_rows c w t) ≡ accepted
  unfolding abort_rows
  abort_goes = first_three c w right (abort t 0) refl stage _ ∙ fourth c w right _ (row 9 _ ∷ []) (right.aborts stage t) ∙ last_row

-- Commit and abort are never refused to an open transaction: see specs/Answers.antt.
pub closing_taken : ClosingTaken
unfolding ClosingTaken Always outcome result
closing_taken m s budget formats es a stage t opened n =
    let right = reached m s budget formats es a in (
      goes (commit t n) _ _ (commit_goes _ _ right stage t opened),
      goes (abort t n) _ _ (abort_goes _ _ right stage t opened),
    )

-- What the machine's own slices are answered.
pub own_slices : OwnSlices
unfolding OwnSlices Always result format_number
own_slices m s budget formats es a k =
    let right = reached m s budget formats es a in
    record {
      stage = stage_answers k _ _ right.sound;
      slices = own_late _ _ right k;
      beside = own_beside _ _ right k;
      formats = λ sizes b is. rw is (own_format _ _ right sizes b);
    }
