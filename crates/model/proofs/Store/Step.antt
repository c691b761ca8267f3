-- Every call keeps what holds, whether it is refused, taken or cut.
use mathlib.Core.Path.{◌≡◌, refl, sym, ◌∙◌}
use mathlib.Core.List.{List, [], ◌∷◌, append-nil}
use mathlib.Core.Bool.{Bool, true, false}
use Prim.Native.Nat.{ℕ}
use Rattle.model.specs.declared.Stage.{Stage}
use Rattle.model.specs.declared.Sizes.{Sizes}
use Rattle.model.specs.declared.Core.{Core}
use Rattle.model.specs.World.{perform, finishes}
use Rattle.model.specs.State.{new_core, sound}
use Rattle.model.specs.Refusal.{Row, row, verdict, accepted}
use Rattle.model.specs.Causes.{when_shut, when_replaying, when_open, when_copying, when_serving, stage_forbids}
use Rattle.model.specs.Transaction.{begin_rows, begin_task, update_rows, commit_rows}
use Rattle.model.specs.Abort.{abort_rows}
use Rattle.model.specs.Checkpoint.{checkpoint_begin_rows, checkpoint_begin_task, checkpoint_step_rows, checkpoint_end_rows}
use Rattle.model.specs.Restart.{restart_begin_rows, restart_step_rows, restart_end_rows}
use Rattle.model.specs.Classes.{classes_of}
use Rattle.model.specs.SetClasses.{set_classes_rows, set_classes_task}
use Rattle.model.specs.Call.{Call, format, begin, update, Look, look, look_task, commit, abort, set_classes, checkpoint_begin, checkpoint_step, checkpoint_end, restart_begin, restart_step, restart_run, restart_end, new_state, rows_of, task_of, budget_of, result_of}
use Rattle.model.specs.Reference.{Reference, taken, outcome_of}
use Rattle.model.specs.Machine.{Machine, result, outcome, is_refused, allowed_call}
use Rattle.model.specs.History.{Told, also}
use Rattle.model.proofs.Storeless.{stores_nothing, storeless_finishes}
use Rattle.model.proofs.Run.{perform_lengths}
use Rattle.model.proofs.Restart.Taken.{accepted_taken, taken_call}
use Rattle.model.proofs.Restart.Progress.{begin_progress}
use Rattle.model.proofs.Restart.Steps.{step_source, step_progress}
use Rattle.model.proofs.Restart.Records.{begun_positions, begun_replayed, step_replayed}
use Rattle.model.proofs.Restart.Run.{run_keeps}
use Rattle.model.proofs.Restart.End.{end_gives}
use Rattle.model.proofs.Store.Rows.{stage_row, open_serving, copying_serving}
use Rattle.model.proofs.Store.Steady.{kept_devices, kept_lost}
use Rattle.model.proofs.Store.Begin.{begin_serves}
use Rattle.model.proofs.Store.Copy.{checkpoint_begin_serves, checkpoint_step_serves, checkpoint_step_cut}
use Rattle.model.proofs.Store.End.{AtEnd, restart_end_serves, restart_end_cut}
use Rattle.model.proofs.Store.Update.{update_serves, update_cut}
use Rattle.model.proofs.Store.Commit.{commit_serves, commit_cut}
use Rattle.model.proofs.Store.CheckpointEnd.{checkpoint_end_serves, checkpoint_end_cut}
use Rattle.model.proofs.Store.Abort.{abort_serves, abort_cut}
use Rattle.model.proofs.Store.Holding.{Holding, CallKeeps, Restarting, shut, replaying, serving, going_on, kept_sets, holding_kept, served, stopped, replayed, taken_machine, call_keeps}
use Rattle.model.proofs.Booleans.{true_false}
use Rattle.model.proofs.Verdict.{row_passed}
use Rattle.model.proofs.Store.SetClasses.{classes_serve}

-- an accepted call found the stage that it is for
pub row_one : (allowed : Stage → Bool) (fits : Bool) (c : Core) (rows : List Row) → verdict (row 1 (stage_forbids allowed fits c) ∷ rows) ≡ accepted
    → allowed c.stage ≡ true
row_one allowed fits c rows v = stage_row allowed _ c (row_passed _ rows v).0

-- a call that stores nothing is never cut
never_cut : {X : Type 0} (k : Call) (m : Machine) → stores_nothing k ≡ true → finishes (budget_of k) (task_of k m.core m.world).actions ≡ false → X
never_cut k m e f = true_false (storeless_finishes k m.core m.world e) f

-- an accepted call is not refused
accepted_goes : (k : Call) (m : Machine) → verdict (rows_of k m.core m.world) ≡ accepted
    → (b : Bool) → finishes (budget_of k) (task_of k m.core m.world).actions ≡ b → is_refused (outcome m k) ≡ false
unfolding result_of outcome result
accepted_goes k m v true f = rw (v, f)
accepted_goes k m v false f = rw (v, f)

-- a call that puts nothing
puts_none : {puts : Told} {m : Machine} {r : Reference} → Holding puts m r → Holding (also puts []) m r
puts_none {puts} h = rw (append-nil puts.puts) h

-- an accepted step of a restart goes on with it
step_holds : {puts : Told} {r : Reference} (m : Machine) → Holding puts m r → (source : ℕ)
    → verdict (restart_step_rows m.core m.world source) ≡ accepted → Holding puts (taken_machine (restart_step source) puts m r) r
unfolding restart_step_rows
step_holds m h source v =
    let o = accepted_taken (restart_step source) m v (storeless_finishes (restart_step source) m.core m.world refl) in
    let t = taken_call (restart_step source) m.core m.world o in
    let s = replayed h (row_one when_replaying _ m.core _ v) in
    let p = rw (t.core, t.world) at (step_progress m.core m.world source s.progress o) in
    let found = step_source m.core m.world source v in
    replaying p.0 (kept_devices p.1 (perform_lengths _ m.world) s.kept)
    (going_on p.1 (λ d l kept g. step_replayed s.progress p.1 source found d g (rw s.progress.sizes l)) s.going) s.none

module _ (puts : Told) (m : Machine) (r : Reference) (h : Holding puts m r) where
  step_begin : (class : ℕ) → CallKeeps (begin class) puts m r
  unfolding begin_task begin_rows perform
  step_begin class =
      call_keeps (begin class) puts m r h
      (λ v f. puts_none (serving (begin_serves (served h (row_one when_serving _ m.core _ v)) class v)))
      (λ v f. never_cut (begin class) m refl f)

  step_classes : (lines : List ℕ) → CallKeeps (set_classes lines) puts m r
  unfolding set_classes_task set_classes_rows perform
  step_classes lines =
      call_keeps (set_classes lines) puts m r h
      (λ v f. puts_none (serving (classes_serve (served h (row_one when_serving _ m.core _ v)) (classes_of lines))))
      (λ v f. never_cut (set_classes lines) m refl f)

  step_look : (q : Look) → CallKeeps (look q) puts m r
  unfolding look_task perform
  step_look q = call_keeps (look q) puts m r h (λ v f. puts_none h) (λ v f. never_cut (look q) m refl f)

  step_update : sound m.core ≡ true → (number page slot : ℕ) (value : List ℕ) (budget : ℕ)
      → CallKeeps (update number page slot value budget) puts m r
  unfolding update_rows
  step_update s number page slot value budget =
      call_keeps (update number page slot value budget) puts m r h
      (λ v f. serving (update_serves (served h (row_one when_serving _ m.core _ v)) s number page slot value budget 0 v))
      (λ v f. update_cut (served h (row_one when_serving _ m.core _ v)) s number page slot value budget v f)

  step_commit : sound m.core ≡ true → (number budget : ℕ) → CallKeeps (commit number budget) puts m r
  unfolding commit_rows
  step_commit s number budget =
      call_keeps (commit number budget) puts m r h
      (λ v f. serving (commit_serves (served h (row_one when_serving _ m.core _ v)) s number budget 0 v))
      (λ v f. commit_cut (served h (row_one when_serving _ m.core _ v)) s number budget v f)

  step_abort : sound m.core ≡ true → (number budget : ℕ) → CallKeeps (abort number budget) puts m r
  unfolding abort_rows
  step_abort s number budget =
      call_keeps (abort number budget) puts m r h
      (λ v f. serving (abort_serves (served h (row_one when_serving _ m.core _ v)) s number budget 0 v))
      (λ v f. abort_cut (served h (row_one when_serving _ m.core _ v)) s number budget v f)

  step_checkpoint_begin : CallKeeps checkpoint_begin puts m r
  unfolding checkpoint_begin_rows checkpoint_begin_task perform
  step_checkpoint_begin =
      call_keeps checkpoint_begin puts m r h
      (λ v f. puts_none (serving (checkpoint_begin_serves (served h (open_serving m.core (row_one when_open _ m.core _ v))) v)))
      (λ v f. never_cut checkpoint_begin m refl f)

  step_checkpoint_step : sound m.core ≡ true → (budget : ℕ) → CallKeeps (checkpoint_step budget) puts m r
  unfolding checkpoint_step_rows
  step_checkpoint_step s budget =
      call_keeps (checkpoint_step budget) puts m r h
      (λ v f. puts_none (serving (checkpoint_step_serves (served h (copying_serving m.core (row_one when_copying _ m.core _ v))) s v)))
      (λ v f. kept_lost (checkpoint_step_cut budget (served h (copying_serving m.core (row_one when_copying _ m.core _ v))) v (holding_kept h) f) [])

  step_checkpoint_end : (budget : ℕ) → CallKeeps (checkpoint_end budget) puts m r
  unfolding checkpoint_end_rows
  step_checkpoint_end budget =
      call_keeps (checkpoint_end budget) puts m r h
      (λ v f. puts_none (serving (checkpoint_end_serves (served h (copying_serving m.core (row_one when_copying _ m.core _ v))) v)))
      (λ v f. kept_lost (checkpoint_end_cut (served h (copying_serving m.core (row_one when_copying _ m.core _ v))) v budget f) [])

  step_new : CallKeeps new_state puts m r
  unfolding perform new_core
  step_new = call_keeps new_state puts m r h (λ v f. puts_none (shut refl (kept_sets (holding_kept h) []) refl)) (λ v f. never_cut new_state m refl f)

  step_restart_begin : CallKeeps restart_begin puts m r
  unfolding restart_begin_rows
  step_restart_begin =
      call_keeps restart_begin puts m r h
      (λ v f.
      let o = accepted_taken restart_begin m v f in
      let t = taken_call restart_begin m.core m.world o in
      let p = rw (t.core, t.world) at (begin_progress m.core m.world o) in
      let s = stopped h (row_one when_shut _ m.core _ v) in
      let k = kept_devices p.1 (perform_lengths _ m.world) s.0 in
      puts_none {puts = puts}
      (replaying p.0 k
      (λ d l. record { stored = k.logs d l; steps = begun_replayed p.0 d (begun_positions m.world d) (k.logs d l) l }) s.1))
      (λ v f. never_cut restart_begin m refl f)

  step_restart_step : (source : ℕ) → CallKeeps (restart_step source) puts m r
  step_restart_step source =
      call_keeps (restart_step source) puts m r h (λ v f. puts_none (step_holds m h source v)) (λ v f. never_cut (restart_step source) m refl f)

  step_restart_run : (source most : ℕ) → CallKeeps (restart_run source most) puts m r
  step_restart_run source most =
      call_keeps (restart_run source most) puts m r h
      (λ v f.
      puts_none
      (run_keeps most (λ k c w. Holding puts (record { core = c; world = w }) r) source (λ k c w v now. step_holds (record { core = c; world = w }) now source v)
      m.core m.world h))
      (λ v f. never_cut (restart_run source most) m refl f)

  step_restart_end : sound m.core ≡ true → (budget : ℕ) → CallKeeps (restart_end budget) puts m r
  unfolding restart_end_rows
  step_restart_end passes budget =
      call_keeps (restart_end budget) puts m r h
      (λ v f. serving (restart_end_serves (at_end (replayed h (row_one when_replaying _ m.core _ v)) (accepted_taken (restart_end budget) m v f)) passes v))
      (λ v f. let s = replayed h (row_one when_replaying _ m.core _ v) in kept_lost (restart_end_cut m.core m.world budget s.kept s.progress.sizes s.progress.epoch passes v f) [])
    where
      at_end : Restarting puts m r → outcome_of (result_of (restart_end budget) m.core m.world).answer ≡ taken → AtEnd m.core m.world r
      at_end s o =
          let p = s.progress in
          let gives = end_gives m.core m.world budget p o in
          record {
            sizes = p.sizes;
            epoch = p.epoch;
            tails = p.tails;
            eight = p.eight;
            reference = sym s.kept.sizes ∙ sym p.sizes;
            shaped = rw (p.sizes ∙ s.kept.sizes) s.kept.shaped;
            pages = sym gives.1 ∙ gives.0 ∙ s.kept.image;
            none = s.none;
          }

  step_format : (s : Sizes) (budget : ℕ) → is_refused (outcome m (format s budget)) ≡ true → CallKeeps (format s budget) puts m r
  step_format s budget e =
      call_keeps (format s budget) puts m r h
      (λ v f. true_false e (accepted_goes (format s budget) m v true f))
      (λ v f. true_false e (accepted_goes (format s budget) m v false f))

-- every call that is allowed, of a state that is within its bounds
pub step_call : (k : Call) (puts : Told) (m : Machine) (r : Reference) → Holding puts m r → sound m.core ≡ true → allowed_call m k ≡ true
    → CallKeeps k puts m r
step_call (format z budget) puts m r h s e = step_format puts m r h z budget e
step_call (begin class) puts m r h s e = step_begin puts m r h class
step_call (update number page slot value budget) puts m r h s e = step_update puts m r h s number page slot value budget
step_call (look q) puts m r h s e = step_look puts m r h q
step_call (commit number budget) puts m r h s e = step_commit puts m r h s number budget
step_call (abort number budget) puts m r h s e = step_abort puts m r h s number budget
step_call (set_classes lines) puts m r h s e = step_classes puts m r h lines
step_call checkpoint_begin puts m r h s e = step_checkpoint_begin puts m r h
step_call (checkpoint_step budget) puts m r h s e = step_checkpoint_step puts m r h s budget
step_call (checkpoint_end budget) puts m r h s e = step_checkpoint_end puts m r h budget
step_call restart_begin puts m r h s e = step_restart_begin puts m r h
step_call (restart_step source) puts m r h s e = step_restart_step puts m r h source
step_call (restart_run source most) puts m r h s e = step_restart_run puts m r h source most
step_call (restart_end budget) puts m r h s e = step_restart_end puts m r h s budget
step_call new_state puts m r h s e = step_new puts m r h
