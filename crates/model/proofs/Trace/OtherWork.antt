-- A call that is lent a work memory of another length than its state's: row 1 tests no word of a head, so that it speaks of the stage
-- alone, and row 5 refuses what rows 1 and 2 let pass.
use mathlib.Core.Path.{◌≡◌, refl, sym, ap, ◌∙◌}
use mathlib.Core.Logic.{◌⊎◌, inl, inr}
use mathlib.Core.List.{List, ◌∷◌}
use mathlib.Core.Bool.{Bool, true, false, not}
use Prim.Native.Nat.{ℕ}
use lib.Dec.{eqb}
use lib.ListN.{length}
use borrow.Author.Tests.{eqb-true}
use Rattle.model.specs.declared.Core.{Core}
use Rattle.model.specs.declared.Carried.{Carried}
use Rattle.model.specs.Sizes.{counts_in_bounds}
use Rattle.model.specs.World.{World, stores, finishes}
use Rattle.model.specs.Memory.{work_words}
use Rattle.model.specs.State.{sound}
use Rattle.model.specs.Refusal.{Row, row, rejected, verdict, Result, number_of}
use Rattle.model.specs.Causes.{when_shut, when_serving, stage_forbids, anchor_wrong, lengths_wrong}
use Rattle.model.specs.Reads.{counts_fit, fits_on}
use Rattle.model.specs.Format.{format_rows}
use Rattle.model.specs.Transaction.{begin_rows, update_rows, read_rows, commit_rows}
use Rattle.model.specs.Abort.{abort_rows}
use Rattle.model.specs.Checkpoint.{checkpoint_begin_rows, checkpoint_step_rows, checkpoint_end_rows}
use Rattle.model.specs.Restart.{restart_begin_rows, restart_step_rows, restart_end_rows}
use Rattle.model.specs.Listing.{list_rows}
use Rattle.model.specs.SetClasses.{work_wrong, set_classes_rows}
use Rattle.model.specs.Call.{Call, format, begin, update, look, read, list_line, list_lines, commit, abort, set_classes, checkpoint_begin, checkpoint_step, checkpoint_end, restart_begin, restart_step, restart_run, restart_end, new_state, rows_of, result_of}
use Rattle.model.specs.View.{own_work, core_of, carried_of, body_of}
use Rattle.model.specs.Reference.{refused, outcome_of}
use Rattle.model.specs.Machine.{result}
use Rattle.model.specs.Answers.{stages_of}
use Rattle.model.specs.Trace.{view_of}
use Rattle.model.specs.AnswersInCode.{TurnsAway, OtherWorkInCode}
use Rattle.model.proofs.Booleans.{true_false}
use Rattle.model.proofs.Verdict.{refused_leaves}
use Rattle.model.proofs.Store.Checks.{shut_stage}
use Rattle.model.proofs.Tested.{counts_pass}
use Rattle.model.proofs.Sound.Made.{made_passes, stage_answers}
use Rattle.model.proofs.View.Own.{own_body, own_lent}
use Rattle.model.proofs.Trace.Events.{as_defined}

-- Refused, and with 1 exactly where the stage is none of the call's.
record Turned (k : Call) (c : Core) (w : World) : Type 0 where
  number : ℕ
  rejects : verdict (rows_of k c w) ≡ rejected number 0 0
  stage : eqb number 1 ≡ not (stages_of k c.stage)

-- The state is not shut, and what is carried has P, D, W and T within their bounds.
module _ (h : Carried) (w : World) (serving : when_shut h.stage ≡ false) (other : own_work h w.work ≡ false)
    (counts : counts_fit (core_of h w.work) ≡ true) where
  abbrev c : Core
  c = core_of h w.work

  abbrev v : World
  v = body_of w

  wrong : lengths_wrong c.sizes c.bases.total v ≡ true
  wrong = go (lengths_wrong c.sizes c.bases.total v) refl
    where
      go : (b : Bool) → lengths_wrong c.sizes c.bases.total v ≡ b → lengths_wrong c.sizes c.bases.total v ≡ true
      go true e = e
      go false e = true_false (own_lent h w serving e) other

  fits : (test : Bool) → fits_on test c v ≡ true
  unfolding fits_on
  fits test = rw (counts, wrong)

  -- rows 1, 2 and 5 come first
  fifth : (k : Call) (test : Bool) (rest : List Row) → test ≡ true
      → rows_of k c v ≡ row 1 (stage_forbids (stages_of k) test c) ∷ row 2 (anchor_wrong v.anchor) ∷ row 5 (lengths_wrong c.sizes c.bases.total v) ∷ rest
      → Turned k c v
  unfolding verdict stage_forbids
  fifth k test rest passes rows = go (stages_of k c.stage) (anchor_wrong v.anchor) refl refl
    where
      go : (allows bad : Bool) → stages_of k c.stage ≡ allows → anchor_wrong v.anchor ≡ bad → Turned k c v
      go false bad e a = record { number = 1; rejects = rw (rows, e); stage = rw e }
      go true true e a = record { number = 2; rejects = rw (rows, passes, e, a); stage = rw e }
      go true false e a = record { number = 5; rejects = rw (rows, passes, e, a, wrong); stage = rw e }

  other_work : eqb (length v.work) (work_words c.sizes c.bases.total) ≡ false
  other_work = go (eqb (length v.work) (work_words c.sizes c.bases.total)) refl
    where
      go : (b : Bool) → eqb (length v.work) (work_words c.sizes c.bases.total) ≡ b
          → eqb (length v.work) (work_words c.sizes c.bases.total) ≡ false
      go true e = true_false (own_body h w serving (eqb-true _ _ e)) other
      go false e = e

  -- a table of classes has rows 1 and 5 first
  work_first : (lines : List ℕ) → Turned (set_classes lines) c v
  unfolding verdict stage_forbids set_classes_rows work_wrong
  work_first lines = go (when_serving c.stage) refl
    where
      go : (allows : Bool) → when_serving c.stage ≡ allows → Turned (set_classes lines) c v
      go false e = record { number = 1; rejects = rw e; stage = rw e }
      go true e = record { number = 5; rejects = rw (counts, e, other_work) refl; stage = rw e }

  -- a call for a shut store
  first : (k : Call) (rest : List Row) → stages_of k c.stage ≡ false → rows_of k c v ≡ row 1 (stage_forbids (stages_of k) true c) ∷ rest → Turned k c v
  unfolding verdict stage_forbids
  first k rest e rows = record { number = 1; rejects = rw (rows, e); stage = rw e }

  turned : (k : Call) → Turned k c v ⊎ (k ≡ new_state)
  unfolding stage_forbids format_rows begin_rows update_rows read_rows list_rows commit_rows abort_rows set_classes_rows checkpoint_begin_rows checkpoint_step_rows checkpoint_end_rows restart_begin_rows restart_step_rows restart_end_rows core_of
  turned (format s budget) = inl (first (format s budget) _ serving refl)
  turned (begin class) = inl (fifth (begin class) _ _ counts refl)
  turned (update number page slot value budget) = inl (fifth (update number page slot value budget) _ _ (fits _) refl)
  turned (look (read reader page slot)) = inl (fifth (look (read reader page slot)) _ _ (fits _) refl)
  turned (look (list_line number bytes)) = inl (first (look (list_line number bytes)) _ serving refl)
  turned (look (list_lines from bytes)) = inl (first (look (list_lines from bytes)) _ serving refl)
  turned (commit number budget) = inl (fifth (commit number budget) _ _ (fits _) refl)
  turned (abort number budget) = inl (fifth (abort number budget) _ _ (fits _) refl)
  turned (set_classes lines) = inl (work_first lines)
  turned checkpoint_begin = inl (fifth checkpoint_begin _ _ (fits _) refl)
  turned (checkpoint_step budget) = inl (fifth (checkpoint_step budget) _ _ (fits _) refl)
  turned (checkpoint_end budget) = inl (fifth (checkpoint_end budget) _ _ (fits _) refl)
  turned restart_begin = inl (first restart_begin _ serving refl)
  turned (restart_step source) = inl (fifth (restart_step source) _ _ (fits _) refl)
  turned (restart_run source most) = inl (fifth (restart_run source most) _ _ (fits _) refl)
  turned (restart_end budget) = inl (fifth (restart_end budget) _ _ (fits _) refl)
  turned new_state = inr refl

  answers : (k : Call) → eqb (number_of (result_of k c v).answer) 1 ≡ not (stages_of k c.stage)
  unfolding result_of verdict finishes stores
  answers k = go (turned k)
    where
      go : Turned k c v ⊎ (k ≡ new_state) → eqb (number_of (result_of k c v).answer) 1 ≡ not (stages_of k c.stage)
      go (inl t) = rw (refused_leaves k c v t.number 0 0 t.rejects) t.stage
      go (inr new) = rw new refl

  refuses : (k : Call) → (k ≡ new_state → ⊥) → outcome_of (result_of k c v).answer ≡ refused
  refuses k not_new = go (turned k)
    where
      go : Turned k c v ⊎ (k ≡ new_state) → outcome_of (result_of k c v).answer ≡ refused
      go (inl t) = rw (refused_leaves k c v t.number 0 0 t.rejects) refl
      go (inr new) = absurd (not_new new)

-- P, D, W and T are carried: they are the state's, whatever the head.
counts_carried : (c : Core) (work : List ℕ) → counts_fit (core_of (carried_of c) work) ≡ counts_fit c
unfolding counts_fit counts_in_bounds core_of
counts_carried c work = refl

shut_sound : (h : Carried) (work : List ℕ) → when_shut h.stage ≡ true → sound (core_of h work) ≡ true
unfolding sound core_of
shut_sound h work e = rw (shut_stage h.stage e) refl

pub other_work_in_code : OtherWorkInCode
unfolding OtherWorkInCode result view_of core_of
other_work_in_code o d k made is other = go (when_shut o.carried.stage) refl
  where
    gave : o.reply.answer ≡ (result_of o.call (core_of o.carried o.entry.work) (body_of o.entry)).answer
    gave = ap (λ (r : Result). r.answer) (as_defined o k)

    go : (b : Bool) → when_shut o.carried.stage ≡ b → TurnsAway o
    go true e =
        record {
          stage = rw gave (stage_answers o.call _ (body_of o.entry) (shut_sound o.carried o.entry.work e));
          turned = λ serving. true_false e serving;
        }
    go false e =
        let shut : when_shut d.stage ≡ false = sym (ap (λ (h : Carried). when_shut h.stage) is) ∙ e in
        let counts = ap (λ (h : Carried). counts_fit (core_of h o.entry.work)) is
        ∙ counts_carried d o.entry.work ∙ counts_pass d (made_passes made).1 shut in
        record {
          stage = rw gave (answers o.carried o.entry e other counts o.call);
          turned = λ serving not_new. ap outcome_of gave ∙ refuses o.carried o.entry e other counts o.call not_new;
        }
