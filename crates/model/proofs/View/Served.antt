-- A call that keeps `Serves` gives, through the view, what its definition gives; a refused one leaves every word and what it got by value.
use mathlib.Core.Path.{◌≡◌, refl, sym, ap, ◌∙◌}
use mathlib.Core.Logic.{◌⊎◌, inl, inr}
use mathlib.Core.List.{◌++◌}
use mathlib.Core.Bool.{Bool, true}
use Prim.Native.Nat.{ℕ}
use native.Mathlib.Omega.{arith}
use lib.ListN.{take, drop}
use borrow.Author.Tests.{not-false}
use Rattle.model.specs.declared.Core.{Core}
use Rattle.model.specs.declared.Carried.{Carried}
use Rattle.model.specs.declared.Handed.{Handed}
use Rattle.model.specs.World.{World, run, covered, perform}
use Rattle.model.specs.State.{new_core}
use Rattle.model.specs.Refusal.{accepted, verdict, Result}
use Rattle.model.specs.Causes.{when_shut}
use Rattle.model.specs.Listing.{list_rows}
use Rattle.model.specs.Call.{Call, format, begin, update, Look, look, read, list_line, list_lines, commit, abort, set_classes, checkpoint_begin, checkpoint_step, checkpoint_end, restart_begin, restart_step, restart_run, restart_end, new_state, rows_of, look_task, task_of, budget_of, result_of, Gives}
use Rattle.model.specs.View.{head_words, core_of, body_of, Given, given_by, given, Serves}
use Rattle.model.specs.Reference.{refused, outcome_of}
use Rattle.model.proofs.Booleans.{both}
use Rattle.model.proofs.Verdict.{row_passed}
use Rattle.model.proofs.Store.Cases.{finished_by, call_cases}
use Rattle.model.proofs.View.Head.{HeadSized, carried_back, view_sized}
use Rattle.model.proofs.View.Back.{view_new}
use Rattle.model.proofs.View.Seen.{Seen, whole_again, refused_seen, cut_seen, Fits, finished_seen}
use Rattle.model.proofs.View.Calls.{begin_fits, update_fits_lem, commit_fits, abort_fits_lem, read_fits, checkpoint_begin_fits, classes_fits, checkpoint_step_fits, checkpoint_end_fits}
use Rattle.model.proofs.View.Restarts.{format_fits, restart_begin_fits, replaying, step_fits, run_fits, restart_end_fits}

-- A call that hands back a state which is shut: a new one, or the one that it got.
pub data Shuts (k : Call) (c : Core) : Type 0 where
  anew : k ≡ new_state → Shuts k c
  looks : (q : Look) → k ≡ look q → when_shut c.stage ≡ true → Shuts k c

pub shuts_state : (k : Call) (c : Core) (w : World) → Shuts k c → when_shut (task_of k c w).core.stage ≡ true
unfolding look_task new_core
shuts_state k c w (anew is) = rw is refl
shuts_state k c w (looks q is shut) = rw is shut

-- a listing is for a shut store
listing_shut : (k : Call) (c : Core) (w : World) (q : Look) (wrong : Bool) (number : ℕ) → k ≡ look q
    → verdict (list_rows c.stage wrong w.anchor w.logs number) ≡ accepted → Shuts k c
unfolding list_rows
listing_shut k c w q wrong number is ok =
    looks q is (both (when_shut c.stage) true (not-false _ (row_passed _ _ ok).0)).0

pub call_fits : (k : Call) (c : Core) (w : World) → HeadSized c → verdict (rows_of k c w) ≡ accepted
    → Fits (task_of k c w).core w.work ⊎ Shuts k c
call_fits (format s budget) c w sized ok = inl (format_fits c w s ok)
call_fits (begin class) c w sized ok = inl (begin_fits c w class sized ok)
call_fits (update number page slot value budget) c w sized ok = inl (update_fits_lem c w number page slot value sized ok)
call_fits (look (read reader page slot)) c w sized ok = inl (read_fits c w reader page slot sized ok)
call_fits (look (list_line number bytes)) c w sized ok = inr (listing_shut _ c w (list_line number bytes) _ number refl ok)
call_fits (look (list_lines first bytes)) c w sized ok = inr (listing_shut _ c w (list_lines first bytes) _ first refl ok)
call_fits (commit number budget) c w sized ok = inl (commit_fits c w number sized ok)
call_fits (abort number budget) c w sized ok = inl (abort_fits_lem c w number sized ok)
call_fits (set_classes lines) c w sized ok = inl (classes_fits c w lines sized ok)
call_fits checkpoint_begin c w sized ok = inl (checkpoint_begin_fits c w sized ok)
call_fits (checkpoint_step budget) c w sized ok = inl (checkpoint_step_fits c w sized ok)
call_fits (checkpoint_end budget) c w sized ok = inl (checkpoint_end_fits c w sized ok)
call_fits restart_begin c w sized ok = inl (restart_begin_fits c w ok)
call_fits (restart_step source) c w sized ok = inl (step_fits c w source (replaying c w source sized ok))
call_fits (restart_run source most) c w sized ok = inl (run_fits c w source most (replaying c w source sized ok))
call_fits (restart_end budget) c w sized ok = inl (restart_end_fits c w sized ok)
call_fits new_state c w sized ok = inr (anew refl)

-- A new state is seen as one, and leaves every word.
new_seen : (c : Core) (w : World) → Seen (finished_by 0 (task_of new_state c (body_of w)) (body_of w)) w.work
unfolding body_of run covered perform new_core
new_seen c w =
    record {
      core = view_new (take head_words w.work ++ drop head_words w.work);
      world = ap body_of (whole_again w);
    }

-- A look leaves a shut state and every word.
look_seen : (h : Carried) (w : World) (q : Look) → when_shut (core_of h w.work).stage ≡ true
    → Seen (finished_by 0 (task_of (look q) (core_of h w.work) (body_of w)) (body_of w)) w.work
unfolding look_task run covered perform
look_seen h w q shut =
    record {
      core = rw shut (refused_seen h w 0 0 0 0).core;
      world = rw shut (refused_seen h w 0 0 0 0).world;
    }

finished_call : (k : Call) (h : Carried) (w : World) → verdict (rows_of k (core_of h w.work) (body_of w)) ≡ accepted
    → Seen (finished_by (budget_of k) (task_of k (core_of h w.work) (body_of w)) (body_of w)) w.work
finished_call k h w ok = go (call_fits k c (body_of w) (view_sized h w.work) ok)
  where
    c : Core
    c = core_of h w.work

    go : Fits (task_of k c (body_of w)).core (body_of w).work ⊎ Shuts k c → Seen (finished_by (budget_of k) (task_of k c (body_of w)) (body_of w)) w.work
    go (inl fits) = finished_seen (budget_of k) (task_of k c (body_of w)) w fits
    go (inr (anew new)) = rw new (new_seen c w)
    go (inr (looks q is shut)) = rw is (look_seen h w q shut)

call_seen : (k : Call) (h : Carried) (w : World) → Seen (result_of k (core_of h w.work) (body_of w)) w.work
call_seen k h w =
    call_cases (λ (r : Result). Seen r w.work) k (core_of h w.work) (body_of w)
    (λ number first second v. refused_seen h w (budget_of k) number first second) (λ v f. finished_call k h w v)
    (λ v f. cut_seen (budget_of k) (task_of k (core_of h w.work) (body_of w)) w)

refused_given : (k : Call) (h : Carried) (w : World) → outcome_of (given k h w).answer ≡ refused
    → ((given k h w).carried ≡ h) × ((given k h w).world ≡ w)
unfolding given
refused_given k h w =
    call_cases
    (λ (r : Result). outcome_of r.answer ≡ refused → ((given_by r w.work).carried ≡ h) × ((given_by r w.work).world ≡ w))
    k (core_of h w.work) (body_of w)
    (λ number first second v turned. (carried_back h w.work, whole_again w))
    (λ v f turned. let z : ◌≡◌ {A = ℕ} 0 1 = cc in absurd (omega arith))
    (λ v f turned. let z : ◌≡◌ {A = ℕ} 0 1 = cc in absurd (omega arith))

module _ (k : Call) (h : Carried) (w : World) (reply : Handed) (left : ℕ) (exit : World) (s : Serves k h w reply left exit) where
  -- Through the view a call gives what its definition says.
  pub served_gives : Gives k (core_of h w.work) (body_of w) (record { answer = reply.answer; core = core_of reply.carried exit.work }) left (body_of exit)
  unfolding Serves given Gives
  served_gives =
      let r : Result = result_of k (core_of h w.work) (body_of w) in
      let seen = call_seen k h w in
      ap (λ (g : Given). record { answer = g.answer; budget = g.budget; core = core_of g.carried g.world.work; world = body_of g.world }) s
      ∙ ap (λ (c : Core). record { answer = r.answer; budget = r.budget; core = c; world = body_of (given_by r w.work).world }) seen.core
      ∙ ap (λ (v : World). record { answer = r.answer; budget = r.budget; core = r.core; world = v }) seen.world

  -- A refused call hands back what it got, and leaves every lent word.
  pub refused_back : outcome_of reply.answer ≡ refused → (reply.carried ≡ h) × (exit ≡ w)
  unfolding Serves given
  refused_back turned =
      let p = refused_given k h w (sym (ap (λ (g : Given). outcome_of g.answer) s) ∙ turned) in
      (ap (λ (g : Given). g.carried) s ∙ p.0, ap (λ (g : Given). g.world) s ∙ p.1)
