-- Calls that take a state by value and test the whole of it: what such a call gives on the state loaded, handed back, is what `Serves`
-- asks. A format and a restart begin test no more than the stage.
use mathlib.Core.Path.{◌≡◌, refl, sym, ap, subst, ◌∙◌}
use mathlib.Core.Logic.{◌⊎◌, inl, inr}
use mathlib.Core.List.{List, ◌∷◌}
use mathlib.Core.Bool.{Bool, true, false, cond, not, ◌&&◌, ◌||◌}
use Prim.Native.Nat.{ℕ, ◌-◌, ◌≤◌, ◌<◌}
use native.Mathlib.Omega.{arith}
use lib.ListN.{length, length-drop}
use Rattle.model.specs.declared.Stage.{Stage}
use Rattle.model.specs.declared.Sizes.{Sizes}
use Rattle.model.specs.declared.Core.{Core}
use Rattle.model.specs.declared.Carried.{Carried}
use Rattle.model.specs.declared.Reply.{Reply}
use Rattle.model.specs.Sizes.{disk_at, log_words, counts_in_bounds}
use Rattle.model.specs.World.{World}
use Rattle.model.specs.Memory.{buffer_at, copy_at, owner_at, work_words, lengths_right}
use Rattle.model.specs.State.{new_core, sound}
use Rattle.model.specs.Refusal.{Row, row, rejected, verdict, Result}
use Rattle.model.specs.Causes.{when_shut, when_replaying, when_open, when_copying, stage_forbids, anchor_wrong, lengths_wrong}
use Rattle.model.specs.Reads.{counts_fit, fits_on}
use Rattle.model.specs.Format.{format_rows}
use Rattle.model.specs.Checkpoint.{checkpoint_begin_rows, checkpoint_step_rows, checkpoint_end_rows}
use Rattle.model.specs.Restart.{restart_begin_rows, restart_step_rows, restart_end_rows}
use Rattle.model.specs.Answers.{stages_of}
use Rattle.model.specs.Call.{Call, format, begin, update, look, commit, abort, set_classes, checkpoint_begin, checkpoint_step, checkpoint_end, restart_begin, restart_step, restart_run, restart_end, new_state, rows_of, task_of, result_of, Gives}
use Rattle.model.specs.View.{head_words, core_of, carried_of, body_of, behind, head_after, given_by, given, Serves}
use Rattle.model.proofs.Booleans.{true_false}
use Rattle.model.proofs.Verdict.{refused_leaves}
use Rattle.model.proofs.Store.Cases.{call_cases}
use Rattle.model.proofs.View.Head.{HeadSized, view_sized}
use Rattle.model.proofs.View.Seen.{Fits}
use Rattle.model.proofs.View.Served.{Shuts, shuts_state, call_fits}
use Rattle.head.specs.Narrow.{narrowed}
use Rattle.head.specs.Saves.{saves}
use Rattle.head.proofs.Alike.{Alike, same, unsound, view_alike, narrowed_sized}

abbrev pub takes_state : Call → Bool
takes_state (format s budget) = true
takes_state (begin class) = false
takes_state (update number page slot value budget) = false
takes_state (look q) = false
takes_state (commit number budget) = false
takes_state (abort number budget) = false
takes_state (set_classes lines) = false
takes_state checkpoint_begin = true
takes_state (checkpoint_step budget) = true
takes_state (checkpoint_end budget) = true
takes_state restart_begin = true
takes_state (restart_step source) = true
takes_state (restart_run source most) = true
takes_state (restart_end budget) = true
takes_state new_state = false

-- An unsound state is refused for itself; but where the counts fit and the lengths are wrong, for the anchor or the lengths.
front : (a f n l : Bool) (rest : List Row)
    → verdict (row 1 (not (a && (f && (l || false)))) ∷ row 2 n ∷ row 5 l ∷ rest) ≡ rejected (cond (a && (f && l)) (cond n 2 5) 1) 0 0
unfolding verdict
front false f n l rest = refl
front true false n l rest = refl
front true true n false rest = refl
front true true true true rest = refl
front true true false true rest = refl

abbrev front_number : (Stage → Bool) → Core → World → ℕ
front_number allowed c w =
    cond (allowed c.stage && (counts_fit c && lengths_wrong c.sizes c.bases.total w)) (cond (anchor_wrong w.anchor) 2 5) 1

unsound_front : (allowed : Stage → Bool) (c : Core) (w : World) (rest : List Row) → sound c ≡ false
    → verdict (row 1 (stage_forbids allowed (fits_on (sound c) c w) c) ∷ row 2 (anchor_wrong w.anchor) ∷ row 5 (lengths_wrong c.sizes c.bases.total w) ∷ rest)
    ≡ rejected (front_number allowed c w) 0 0
unfolding stage_forbids fits_on
unsound_front allowed c w rest e =
    rw e (front (allowed c.stage) (counts_fit c) (anchor_wrong w.anchor) (lengths_wrong c.sizes c.bases.total w) rest)

shut_front : (c : Core) (w : World) (rest : List Row) → when_shut c.stage ≡ false
    → verdict (row 1 (stage_forbids when_shut true c) ∷ rest) ≡ rejected (front_number when_shut c w) 0 0
unfolding stage_forbids verdict
shut_front c w rest e = rw e refl

unsound_refused : (k : Call) → takes_state k ≡ true → (c : Core) (w : World) → when_shut c.stage ≡ false → sound c ≡ false
    → verdict (rows_of k c w) ≡ rejected (front_number (stages_of k) c w) 0 0
unfolding format_rows checkpoint_begin_rows checkpoint_step_rows checkpoint_end_rows restart_begin_rows restart_step_rows restart_end_rows
unsound_refused (format s budget) t c w stage e = shut_front c w _ stage
unsound_refused (begin class) t c w stage e = true_false refl (sym t)
unsound_refused (update number page slot value budget) t c w stage e = true_false refl (sym t)
unsound_refused (look q) t c w stage e = true_false refl (sym t)
unsound_refused (commit number budget) t c w stage e = true_false refl (sym t)
unsound_refused (abort number budget) t c w stage e = true_false refl (sym t)
unsound_refused (set_classes lines) t c w stage e = true_false refl (sym t)
unsound_refused checkpoint_begin t c w stage e = unsound_front when_open c w _ e
unsound_refused (checkpoint_step budget) t c w stage e = unsound_front when_copying c w _ e
unsound_refused (checkpoint_end budget) t c w stage e = unsound_front when_copying c w _ e
unsound_refused restart_begin t c w stage e = shut_front c w _ stage
unsound_refused (restart_step source) t c w stage e = unsound_front when_replaying c w _ e
unsound_refused (restart_run source most) t c w stage e = unsound_front when_replaying c w _ e
unsound_refused (restart_end budget) t c w stage e = unsound_front when_replaying c w _ e
unsound_refused new_state t c w stage e = true_false refl (sym t)

alike_number : (allowed : Stage → Bool) (c : Core) (w : World) → front_number allowed (narrowed c) w ≡ front_number allowed c w
unfolding narrowed counts_fit counts_in_bounds lengths_wrong lengths_right log_words disk_at work_words owner_at copy_at buffer_at
alike_number allowed c w = refl

refused_alike : (k : Call) → takes_state k ≡ true → (c : Core) (w : World) (work : List ℕ) → when_shut c.stage ≡ false → sound c ≡ false
    → sound (narrowed c) ≡ false → given_by (result_of k (narrowed c) w) work ≡ given_by (result_of k c w) work
unfolding narrowed
refused_alike k t c w work stage e f =
    let n : ℕ = front_number (stages_of k) c w in
    let one : verdict (rows_of k (narrowed c) w) ≡ rejected n 0 0 =
    unsound_refused k t (narrowed c) w stage f ∙ ap (λ (x : ℕ). rejected x 0 0) (alike_number (stages_of k) c w) in
    ap (λ (r : Result). given_by r work) (refused_leaves k (narrowed c) w n 0 0 one)
    ∙ sym (ap (λ (r : Result). given_by r work) (refused_leaves k c w n 0 0 (unsound_refused k t c w stage e)))

-- On the narrowed view such a call gives what it gives on the view.
narrowed_given : (k : Call) → takes_state k ≡ true → (h : Carried) (w : World)
    → given_by (result_of k (narrowed (core_of h w.work)) (body_of w)) w.work ≡ given k h w
unfolding given
narrowed_given k t h w = go (view_alike h w.work)
  where
    c : Core
    c = core_of h w.work

    go : Alike c → given_by (result_of k (narrowed c) (body_of w)) w.work ≡ given_by (result_of k c (body_of w)) w.work
    go (same e) = ap (λ (x : Core). given_by (result_of k x (body_of w)) w.work) e
    go (unsound stage e f) = refused_alike k t c (body_of w) w.work stage e f

-- Where a head is saved, there is room for it.
body_rest : (w : World) → length (body_of w).work ≡ length w.work - head_words
unfolding body_of
body_rest w = length-drop head_words w.work

work_some : (s : Sizes) (t : ℕ) → 0 < work_words s t
unfolding work_words owner_at copy_at
work_some s t = omega arith

saves_room : (k : Call) (c : Core) (w : World) → HeadSized c → (reply : Reply) (left : ℕ) (exit : World) → Gives k c (body_of w) reply left exit
    → saves reply.answer reply.core.stage ≡ true → head_words ≤ length w.work
unfolding Gives new_core
saves_room k c w sized reply left exit g =
    subst Roomy (sym g) (call_cases Roomy k c (body_of w) (λ number first second v e. true_false refl (sym e)) (λ v f. finished (call_fits k c (body_of w) sized v)) (λ v f e. true_false refl (sym e)))
  where
    Roomy : Result → Type 0
    Roomy r = saves r.answer r.core.stage ≡ true → head_words ≤ length w.work

    finished : Fits (task_of k c (body_of w)).core (body_of w).work ⊎ Shuts k c → not (when_shut (task_of k c (body_of w)).core.stage) ≡ true
        → head_words ≤ length w.work
    finished (inl fits) e = omega (arith, fits.long, body_rest w, work_some (task_of k c (body_of w)).core.sizes (task_of k c (body_of w)).core.bases.total)
    finished (inr shuts) e = true_false e (rw (shuts_state k c (body_of w) shuts) refl)

module _ (k : Call) (takes : takes_state k ≡ true) (h : Carried) (w : World) {core : Core} (loaded : core ≡ narrowed (core_of h w.work))
    (reply : Reply) (left : ℕ) (exit : World) (g : Gives k core (body_of w) reply left exit)
  where
    pub wrapped_room : saves reply.answer reply.core.stage ≡ true → head_words ≤ length w.work
    wrapped_room = saves_room k core w (rw loaded (narrowed_sized (core_of h w.work) (view_sized h w.work))) reply left exit g

    pub wrapped_serves : Serves k h w (record { answer = reply.answer; carried = carried_of reply.core }) left
        (behind (head_after reply.answer reply.core w.work) exit)
    unfolding Serves Gives
    wrapped_serves =
        ap (λ (r : Result). given_by r w.work) g
        ∙ ap (λ (c : Core). given_by (result_of k c (body_of w)) w.work) loaded ∙ narrowed_given k takes h w
