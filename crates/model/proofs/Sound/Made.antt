-- Every state that is made passes the first test, so row 1 is the stage's alone.
use mathlib.Core.Path.{◌≡◌, refl, sym, ap, subst, ◌∙◌}
use mathlib.Core.List.{List, [], ◌∷◌}
use mathlib.Core.Bool.{Bool, true, false, not, ◌&&◌}
use Prim.Native.Nat.{ℕ}
use native.Mathlib.Omega.{arith}
use lib.Dec.{eqb}
use borrow.Author.Tests.{ne_eqb}
use Rattle.model.specs.declared.Sizes.{Sizes}
use Rattle.model.specs.declared.Core.{Core}
use Rattle.model.specs.Sizes.{total}
use Rattle.model.specs.World.{World, stores, finishes}
use Rattle.model.specs.State.{new_core, sound}
use Rattle.model.specs.Refusal.{Row, row, Result, verdict, accepted, rejected, number_of}
use Rattle.model.specs.Causes.{stage_forbids, anchor_wrong, sizes_wrong, lengths_wrong}
use Rattle.model.specs.Format.{format_rows}
use Rattle.model.specs.Transaction.{begin_rows, update_rows, read_rows, commit_rows}
use Rattle.model.specs.Abort.{abort_rows}
use Rattle.model.specs.Checkpoint.{checkpoint_begin_rows, checkpoint_step_rows, checkpoint_end_rows}
use Rattle.model.specs.Restart.{restart_begin_rows, restart_step_rows, restart_end_rows}
use Rattle.model.specs.Listing.{list_rows}
use Rattle.model.specs.SetClasses.{set_classes_rows}
use Rattle.model.specs.Call.{Call, format, begin, update, look, read, list_line, list_lines, commit, abort, set_classes, checkpoint_begin, checkpoint_step, checkpoint_end, restart_begin, restart_step, restart_run, restart_end, new_state, rows_of, result_of}
use Rattle.model.specs.Reference.{taken}
use Rattle.model.specs.Machine.{Machine, Event, call, lent, scramble, result, outcome, after, Run, follow, formatted}
use Rattle.model.specs.Promise.{Always}
use Rattle.model.specs.Answers.{stages_of, fits_call, Made, new, by, MadeSound, StatesMade}
use Rattle.model.proofs.Verdict.{ascending, numbers, rows_ascend, ascending_cons, rejected_above, refused_leaves, row_passed}
use Rattle.model.proofs.Store.Cases.{call_cases}
use Rattle.model.proofs.Restart.Taken.{taken_call}
use Rattle.model.proofs.Tested.{reads_pass}
use Rattle.model.proofs.Sound.Test.{Passing}
use Rattle.model.proofs.Sound.Calls.{new_passes, sized_kept, sound_kept}

pub made_passes : {c : Core} → Made c → Passing c
made_passes new = new_passes
made_passes (by k w {c} made) =
    let p = made_passes made in
    (sized_kept k c w p.0 p.1, sound_kept k c w p.0 p.1)

-- row 1 of a state that passes the test
pub stage_alone : (k : Call) (c : Core) (w : World) → sound c ≡ true → stage_forbids (stages_of k) (fits_call k c w) c ≡ not (stages_of k c.stage)
unfolding stage_forbids
stage_alone k c w ok = go (stages_of k c.stage) refl
  where
    go : (b : Bool) → stages_of k c.stage ≡ b → not (b && fits_call k c w) ≡ not b
    go true e = rw (reads_pass k c w ok e)
    go false e = refl

-- a call that checks its stage first answers 1 where the stage is none of its, and nowhere else
stage_first : (k : Call) (c : Core) (w : World) (rest : List Row) → rows_of k c w ≡ row 1 (stage_forbids (stages_of k) (fits_call k c w) c) ∷ rest
    → sound c ≡ true → eqb (number_of (result_of k c w).answer) 1 ≡ not (stages_of k c.stage)
unfolding verdict ascending
stage_first k c w rest rows ok = go (stages_of k c.stage) refl
  where
    forbids : (b : Bool) → stages_of k c.stage ≡ b → stage_forbids (stages_of k) (fits_call k c w) c ≡ not b
    forbids b e = stage_alone k c w ok ∙ ap not e

    go : (b : Bool) → stages_of k c.stage ≡ b → eqb (number_of (result_of k c w).answer) 1 ≡ not b
    go false e =
        let v : verdict (rows_of k c w) ≡ rejected 1 0 0 = rw (rows, forbids false e) in
        rw (refused_leaves k c w 1 0 0 v)
    go true e =
        let same : verdict (rows_of k c w) ≡ verdict rest = rw (rows, forbids true e) in
        let up = (ascending_cons 0 1 (numbers rest) (rw rows at (rows_ascend k c w))).1 in
        call_cases (λ (r : Result). eqb (number_of r.answer) 1 ≡ false) k c w
        (λ number first second v.
        let more = rejected_above 1 rest up number first second (sym same ∙ v) in
        ne_eqb number 1 (λ one. omega arith))
        (λ v f. refl) (λ v f. refl)

pub stage_answers : (k : Call) (c : Core) (w : World) → sound c ≡ true
    → eqb (number_of (result_of k c w).answer) 1 ≡ not (stages_of k c.stage)
unfolding result_of verdict finishes stores stage_forbids format_rows begin_rows update_rows read_rows list_rows commit_rows abort_rows set_classes_rows checkpoint_begin_rows checkpoint_step_rows checkpoint_end_rows restart_begin_rows restart_step_rows restart_end_rows
stage_answers (format s budget) c w ok = stage_first (format s budget) c w _ refl ok
stage_answers (begin class) c w ok = stage_first (begin class) c w _ refl ok
stage_answers (update number page slot value budget) c w ok = stage_first (update number page slot value budget) c w _ refl ok
stage_answers (look (read reader page slot)) c w ok = stage_first (look (read reader page slot)) c w _ refl ok
stage_answers (look (list_line number bytes)) c w ok = stage_first (look (list_line number bytes)) c w _ refl ok
stage_answers (look (list_lines first bytes)) c w ok = stage_first (look (list_lines first bytes)) c w _ refl ok
stage_answers (commit number budget) c w ok = stage_first (commit number budget) c w _ refl ok
stage_answers (abort number budget) c w ok = stage_first (abort number budget) c w _ refl ok
stage_answers (set_classes lines) c w ok = stage_first (set_classes lines) c w _ refl ok
stage_answers checkpoint_begin c w ok = stage_first checkpoint_begin c w _ refl ok
stage_answers (checkpoint_step budget) c w ok = stage_first (checkpoint_step budget) c w _ refl ok
stage_answers (checkpoint_end budget) c w ok = stage_first (checkpoint_end budget) c w _ refl ok
stage_answers restart_begin c w ok = stage_first restart_begin c w _ refl ok
stage_answers (restart_step source) c w ok = stage_first (restart_step source) c w _ refl ok
stage_answers (restart_run source most) c w ok = stage_first (restart_run source most) c w _ refl ok
stage_answers (restart_end budget) c w ok = stage_first (restart_end budget) c w _ refl ok
stage_answers new_state c w ok = refl

pub made_sound : MadeSound
unfolding MadeSound
made_sound c made =
    let ok = (made_passes made).1 in
    record { sound = ok; row = λ k w. stage_alone k c w ok; answers = λ k w. stage_answers k c w ok }

-- A format that is taken gives the same on a new state.
beyond_stage : (c : Core) (w : World) (s : Sizes) → verdict (format_rows c w s) ≡ accepted
    → verdict (row 2 (anchor_wrong w.anchor) ∷ row 4 (sizes_wrong s) ∷ row 5 (lengths_wrong s (total s) w) ∷ []) ≡ accepted
unfolding format_rows
beyond_stage c w s ok = (row_passed _ _ ok).1

new_formats : (c : Core) (w : World) (s : Sizes) → verdict (format_rows c w s) ≡ accepted → verdict (format_rows new_core w s) ≡ accepted
unfolding format_rows verdict stage_forbids new_core
new_formats c w s ok = beyond_stage c w s ok

pub format_anew : (c : Core) (w : World) (s : Sizes) (budget : ℕ) → verdict (format_rows c w s) ≡ accepted
    → result_of (format s budget) new_core w ≡ result_of (format s budget) c w
unfolding result_of
format_anew c w s budget ok = rw (new_formats c w s ok, ok)

format_made : (m : Machine) (s : Sizes) (budget : ℕ) → outcome m (format s budget) ≡ taken → Made (formatted m s budget).machine.core
unfolding outcome result formatted
format_made m s budget e =
    let t = taken_call (format s budget) m.core m.world e in
    subst (λ (r : Result). Made r.core) (format_anew m.core m.world s budget t.accepted) (by (format s budget) m.world new)

follow_made : (es : List Event) (x : Run) → Made x.machine.core → Made (follow es x).machine.core
unfolding follow result
follow_made [] x made = made
follow_made (e ∷ es) x made = follow_made es _ (event_made x.machine e made)
  where
    event_made : (m : Machine) (e : Event) → Made m.core → Made (after m e).core
    event_made m (call k) made = by k m.world made
    event_made m (lent k w) made = made
    event_made m (scramble pages work) made = made

pub states_made : StatesMade
unfolding StatesMade Always
states_made m s budget e es allowed = follow_made es (formatted m s budget) (format_made m s budget e)
