-- What the checks of a sound store find: a restart can begin, and no call comes upon a malformed record.
use Rattle.std.specs.Prelude.{None}
use mathlib.Core.Path.{◌≡◌, refl, sym, ap, ◌∙◌}
use mathlib.Core.List.{List, [], ◌∷◌}
use mathlib.Core.Bool.{Bool, true, false, true≢false, and-eq-true_iff, cond, ◌&&◌, ◌||◌}
use Prim.Native.Nat.{ℕ, ◌<◌}
use native.Mathlib.Omega.{arith}
use lib.Dec.{ltb, eqb}
use borrow.Author.Tests.{ltb-true, eq-eqb}
use Rattle.model.specs.declared.Stage.{Stage}
use Rattle.model.specs.declared.Stage.TheVariants.{Shut, Replaying, Open, Copying}
use Rattle.model.specs.declared.Core.{Core}
use Rattle.model.specs.declared.Decoded.{Decoded}
use Rattle.model.specs.declared.Decoded.TheVariants.{Change, Close, Malformed}
use Rattle.model.specs.declared.Fate.TheVariants.{Closed}
use Rattle.model.specs.Sizes.{total}
use Rattle.model.specs.Anchor.{epoch_on, sizes_on, start_on}
use Rattle.model.specs.Record.{change, close}
use Rattle.model.specs.Scan.{Scan, end, bad, item, scan, fate_in}
use Rattle.model.specs.World.{World}
use Rattle.model.specs.State.{tail_of}
use Rattle.model.specs.Refusal.{Row, row, accepted, rejected, verdict, Result, number_of}
use Rattle.model.specs.Causes.{when_shut, when_replaying, when_serving, stage_forbids, lengths_wrong, fault_from, spent}
use Rattle.model.specs.Format.{format_rows}
use Rattle.model.specs.Transaction.{begin_rows, update_rows, read_rows, commit_rows}
use Rattle.model.specs.Abort.{abort_fault, abort_rows}
use Rattle.model.specs.Checkpoint.{checkpoint_begin_rows, checkpoint_step_rows, checkpoint_end_rows}
use Rattle.model.specs.Restart.{image_rows, restart_begin_rows, position_of, remaining, read_disk, fate_from, next_record, fate_fault, record_fault, step_fault, restart_step_rows, restart_end_rows}
use Rattle.model.specs.Listing.{list_rows}
use Rattle.model.specs.SetClasses.{set_classes_rows}
use Rattle.model.specs.Call.{Call, format, begin, update, look, read, list_line, list_lines, commit, abort, set_classes, checkpoint_begin, checkpoint_step, checkpoint_end, restart_begin, restart_step, restart_run, restart_end, new_state, rows_of, result_of}
use Rattle.model.proofs.Storeless.{storeless_finishes}
use Rattle.model.proofs.Scan.{scan_bad}
use Rattle.model.proofs.Reading.{ending}
use Rattle.model.proofs.Checked.{whole_records, Restartable, restartable_rows}
use Rattle.model.proofs.Restart.Progress.{log_left, Progress}
use Rattle.model.proofs.Restart.LogStep.{change_well}
use Rattle.model.proofs.Restart.Steps.{remaining_log}
use Rattle.model.proofs.Store.Cases.{call_cases}
use Rattle.model.proofs.Store.Rows.{stage_row}
use Rattle.model.proofs.Verdict.{verdict_append}

pub begin_verdict : (c : Core) (w : World) → c.stage ≡ Shut → Restartable w
    → verdict (restart_begin_rows c w) ≡ cond (spent (epoch_on w.anchor)) (rejected 13 0 0) accepted
unfolding verdict restart_begin_rows stage_forbids
begin_verdict c w e h =
    rw e (verdict_append (image_rows (λ s. lengths_wrong s (total s) w) w.anchor w.logs) (row 13 (spent (epoch_on w.anchor)) ∷ []) (restartable_rows w h))

-- "restart begin in stage shut can give only 13"
pub restart_begin_answers : (c : Core) (w : World) → c.stage ≡ Shut → Restartable w
    → (eqb (number_of (result_of restart_begin c w).answer) 0 || eqb (number_of (result_of restart_begin c w).answer) 13) ≡ true
restart_begin_answers c w e h =
    call_cases (λ (r : Result). (eqb (number_of r.answer) 0 || eqb (number_of r.answer) 13) ≡ true) restart_begin c w
    (λ number first second v. rw (only (spent (epoch_on w.anchor)) number first second (sym (begin_verdict c w e h) ∙ v)))
    (λ v f. refl)
    (λ v f. absurd (true≢false (sym (storeless_finishes restart_begin c w refl) ∙ f)))
  where
    only : (b : Bool) (number first second : ℕ) → cond b (rejected 13 0 0) accepted ≡ rejected number first second → number ≡ 13
    only true number first second f = cc
    only false number first second f = let z : ◌≡◌ {A = ℕ} 0 1 = cc in absurd (omega arith)

-- A restart step: the record that it takes is well formed, and so is all that it reads to learn its transaction's fate.
fate_well : (disk number : ℕ) (sc : Scan) → ending sc ≡ end → fate_fault disk (fate_in number sc) ≡ None
unfolding ending fate_in
fate_well disk number end e = refl
fate_well disk number (bad p) e = let z : ◌≡◌ {A = ℕ} 0 1 = cc in absurd (omega arith)
fate_well disk number (item p (change kind page slot n copy diff) rest) e = fate_well disk number rest e
fate_well disk number (item p (close kind n) rest) e = go (eqb n number) (fate_well disk number rest e)
  where
    go : (b : Bool) → fate_fault disk (fate_in number rest) ≡ None → fate_fault disk (cond b Closed (fate_in number rest)) ≡ None
    go true f = refl
    go false f = f

module _ (c : Core) (w : World) (m : Progress c w) where
  pub record_well : (d : ℕ) → d < c.sizes.disks → position_of c d < tail_of c.logs d → (r : Decoded) → next_record c w d ≡ r
      → record_fault c w d r ≡ None
  unfolding next_record fate_from log_left ending
  record_well d h k (Change kind page slot number copy width next) e =
      fate_well d number (scan c.sizes (read_disk c w d) (tail_of c.logs d) next) (change_well c w m d h k e)
  record_well d h k (Close kind number next) e = refl
  record_well d h k Malformed e =
      let f = rw (scan_bad c.sizes (read_disk c w d) (tail_of c.logs d) k e) at (m.clean d h) in
      let z : ◌≡◌ {A = ℕ} 0 1 = cc in
      absurd (omega arith)

  pub step_never_bad : (source : ℕ) → step_fault c w source ≡ None
  unfolding step_fault
  step_never_bad source = go (ltb source c.sizes.disks && ltb 0 (remaining c source)) refl
    where
      go : (b : Bool) → ltb source c.sizes.disks && ltb 0 (remaining c source) ≡ b
          → cond b (record_fault c w source (next_record c w source)) None ≡ None
      go true e =
          let both = (and-eq-true_iff (ltb source c.sizes.disks) (ltb 0 (remaining c source))).0 e in
          let l = ltb-true source c.sizes.disks both.0 in
          let some = ltb-true 0 (remaining c source) both.1 in
          record_well source l (omega (arith, remaining_log c source l)) (next_record c w source) refl
      go false e = refl

-- a row with this number applies
unfoldable pub finds : ℕ → List Row → Bool
finds n [] = false
finds n (x ∷ rows) = eqb x.number n && x.applies || finds n rows

refused_finds : (rows : List Row) (n first second : ℕ) → verdict rows ≡ rejected n first second → finds n rows ≡ true
unfolding verdict finds
refused_finds [] n a b e = let z : ◌≡◌ {A = ℕ} 0 1 = cc in absurd (omega arith)
refused_finds (x ∷ rows) n a b e = go x.applies (eqb x.number n) refl e (refused_finds rows n a b)
  where
    go : (t f : Bool) → eqb x.number n ≡ f → cond t (rejected x.number x.first x.second) (verdict rows) ≡ rejected n a b
        → (verdict rows ≡ rejected n a b → finds n rows ≡ true) → (f && t || finds n rows) ≡ true
    go true true d e rest = refl
    go true false d e rest =
        let same : x.number ≡ n = cc in
        absurd (true≢false (sym (eq-eqb x.number n same) ∙ d))
    go false true d e rest = rest e
    go false false d e rest = rest e

-- The number of an answer, but for 0 and 16, is that of a row that applies.
pub number_row : (k : Call) (c : Core) (w : World) (n : ℕ) → 0 < n → n < 16 → number_of (result_of k c w).answer ≡ n
    → finds n (rows_of k c w) ≡ true
number_row k c w n low high =
    call_cases (λ (r : Result). number_of r.answer ≡ n → finds n (rows_of k c w) ≡ true) k c w
    (λ number first second v e. refused_finds (rows_of k c w) n first second (v ∙ ap (λ (x : ℕ). rejected x first second) e))
    (λ v f e. absurd (omega arith)) (λ v f e. absurd (omega arith))

pub seven_row : (k : Call) (c : Core) (w : World) → number_of (result_of k c w).answer ≡ 7 → finds 7 (rows_of k c w) ≡ true
seven_row k c w e = number_row k c w 7 (omega arith) (omega arith) e

-- so no restart step answers 7
pub step_never_seven : (c : Core) (w : World) → Progress c w → (source : ℕ) → number_of (result_of (restart_step source) c w).answer ≡ 7 → ⊥
unfolding finds restart_step_rows
step_never_seven c w m source e =
    let none : finds 7 (restart_step_rows c w source) ≡ false = rw (step_never_bad c w m source) in
    true≢false (sym (seven_row (restart_step source) c w e) ∙ none)

-- a call checks its stage first
stage_first : (k : Call) (c : Core) (w : World) (allowed : Stage → Bool) (fits : Bool) (rows : List Row)
    → rows_of k c w ≡ row 1 (stage_forbids allowed fits c) ∷ rows → (allowed c.stage ≡ true → finds 7 rows ≡ false)
    → number_of (result_of k c w).answer ≡ 7 → ⊥
unfolding result_of verdict finds
stage_first k c w allowed fits rows e none seven = go (stage_forbids allowed fits c) refl
  where
    go : (b : Bool) → stage_forbids allowed fits c ≡ b → ⊥
    go true f =
        let n = rw (e, f) at seven in
        omega arith
    go false f =
        let found = rw e at (seven_row k c w seven) in
        true≢false (sym found ∙ none (stage_row allowed _ c f))

pub shut_stage : (s : Stage) → when_shut s ≡ true → s ≡ Shut
shut_stage Shut e = refl
shut_stage Replaying e = absurd (true≢false (sym e))
shut_stage Open e = absurd (true≢false (sym e))
shut_stage Copying e = absurd (true≢false (sym e))

replaying_stage : (s : Stage) → when_replaying s ≡ true → s ≡ Replaying
replaying_stage Shut e = absurd (true≢false (sym e))
replaying_stage Replaying e = refl
replaying_stage Open e = absurd (true≢false (sym e))
replaying_stage Copying e = absurd (true≢false (sym e))

-- what a restart begin and a listing read is well formed
shut_records : (c : Core) (w : World) → (c.stage ≡ Shut → Restartable w) → when_shut c.stage ≡ true
    → fault_from (sizes_on w.anchor) (start_on w.anchor) w.logs (sizes_on w.anchor).disks 0 ≡ None
shut_records c w shut s =
    whole_records (sizes_on w.anchor) (start_on w.anchor) w.logs (shut (shut_stage c.stage s)).image.whole

-- No call finds a malformed record where, in its stage, the devices can be restarted from, the restart goes on as it began, and
-- aborts find what was put there.
pub never_seven : (k : Call) (c : Core) (w : World) → (c.stage ≡ Shut → Restartable w) → (c.stage ≡ Replaying → Progress c w)
    → (when_serving c.stage ≡ true → (number : ℕ) → abort_fault c w number ≡ None) → number_of (result_of k c w).answer ≡ 7 → ⊥
unfolding finds stage_forbids format_rows begin_rows update_rows read_rows commit_rows abort_rows set_classes_rows checkpoint_begin_rows checkpoint_step_rows checkpoint_end_rows image_rows list_rows restart_begin_rows restart_step_rows restart_end_rows
never_seven (format s budget) c w shut replaying serving e = true≢false (sym (seven_row (format s budget) c w e))
never_seven (begin class) c w shut replaying serving e = true≢false (sym (seven_row (begin class) c w e))
never_seven (update number page slot value budget) c w shut replaying serving e =
    true≢false (sym (seven_row (update number page slot value budget) c w e))
never_seven (look (read reader page slot)) c w shut replaying serving e = true≢false (sym (seven_row (look (read reader page slot)) c w e))
never_seven (look (list_line number bytes)) c w shut replaying serving e =
    stage_first (look (list_line number bytes)) c w when_shut _ _ refl (λ s. rw (shut_records c w shut s)) e
never_seven (look (list_lines first bytes)) c w shut replaying serving e =
    stage_first (look (list_lines first bytes)) c w when_shut _ _ refl (λ s. rw (shut_records c w shut s)) e
never_seven (commit number budget) c w shut replaying serving e = true≢false (sym (seven_row (commit number budget) c w e))
never_seven (abort number budget) c w shut replaying serving e =
    stage_first (abort number budget) c w when_serving _ _ refl (λ s. rw (serving s number)) e
never_seven (set_classes lines) c w shut replaying serving e = true≢false (sym (seven_row (set_classes lines) c w e))
never_seven checkpoint_begin c w shut replaying serving e = true≢false (sym (seven_row checkpoint_begin c w e))
never_seven (checkpoint_step budget) c w shut replaying serving e = true≢false (sym (seven_row (checkpoint_step budget) c w e))
never_seven (checkpoint_end budget) c w shut replaying serving e = true≢false (sym (seven_row (checkpoint_end budget) c w e))
never_seven restart_begin c w shut replaying serving e =
    stage_first restart_begin c w when_shut _ _ refl (λ s. rw (shut_records c w shut s)) e
never_seven (restart_step source) c w shut replaying serving e =
    stage_first (restart_step source) c w when_replaying _ _ refl
    (λ s. rw (step_never_bad c w (replaying (replaying_stage c.stage s)) source)) e
never_seven (restart_run source most) c w shut replaying serving e =
    stage_first (restart_run source most) c w when_replaying _ _ refl
    (λ s. rw (step_never_bad c w (replaying (replaying_stage c.stage s)) source)) e
never_seven (restart_end budget) c w shut replaying serving e = true≢false (sym (seven_row (restart_end budget) c w e))
never_seven new_state c w shut replaying serving e = true≢false (sym (seven_row new_state c w e))
