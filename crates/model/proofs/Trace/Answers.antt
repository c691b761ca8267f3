-- The statements of specs/AnswersInCode.antt, each from the machine's.
use mathlib.Core.Path.{sym, ap, subst, ◌∙◌}
use Rattle.model.specs.Refusal.{Result}
use Rattle.model.specs.Call.{begin, commit, abort}
use Rattle.model.specs.View.{core_of}
use Rattle.model.specs.Machine.{Machine, result, is_refused}
use Rattle.model.specs.Trace.{view_of, machine_before}
use Rattle.model.specs.Answers.{ClosingTaken, AnswersOwn, OwnSlices, BeginsOn, BeginDisk, Made, by, MadeSound, StatesMade, Returns, Returned}
use Rattle.model.specs.AnswersInCode.{ClosingTakenInCode, OwnSlicesInCode, BeginDiskInCode, MadeInCode, StatesMadeInCode, ReturnedInCode}
use Rattle.model.proofs.Answers.{closing_taken, own_slices}
use Rattle.model.proofs.BeginDisk.{begin_disk}
use Rattle.model.proofs.Returned.{returned}
use Rattle.model.proofs.Sound.Made.{made_sound, states_made}
use Rattle.model.proofs.Trace.Events.{as_defined, as_machine, in_code}
use Rattle.model.proofs.Trace.Promises.{carries_over, gave, gave_outcome}

-- Commit and abort are not refused to an open transaction.
pub closing_taken_in_code : ClosingTakenInCode
unfolding ClosingTakenInCode ClosingTaken view_of core_of
closing_taken_in_code =
    carries_over _ _ closing_taken (λ m r h serves t opened o budget on. (
      λ is. ap is_refused (gave_outcome m o (commit t budget) is on) ∙ (h serves t opened budget).0,
      λ is. ap is_refused (gave_outcome m o (abort t budget) is on) ∙ (h serves t opened budget).1,
    ))

-- What the slices as they were left are answered.
pub own_slices_in_code : OwnSlicesInCode
unfolding OwnSlicesInCode OwnSlices
own_slices_in_code =
    carries_over _ _ own_slices (λ m r h o on.
    subst (AnswersOwn (view_of m) o.call) (sym (ap (λ (x : Result). x.answer) (as_machine m o on))) (h o.call))

-- The disk of a begin.
pub begin_disk_in_code : BeginDiskInCode
unfolding BeginDiskInCode BeginDisk
begin_disk_in_code =
    carries_over _ _ begin_disk (λ m r h class o is on.
    subst (λ (x : Result). BeginsOn class (view_of m).core x.answer x.core) (sym (gave m o (begin class) is on)) (h class))

-- The states that the code hands back are made.
pub made_in_code : MadeInCode
unfolding MadeInCode MadeSound result view_of core_of
made_in_code o k made =
    let m : Machine = view_of (machine_before o) in
    let gave = as_defined o k in
    record {
      made = subst Made (sym (ap (λ (x : Result). x.core) gave)) (by o.call m.world made);
      stage = rw (ap (λ (x : Result). x.answer) gave) ((made_sound m.core made).answers o.call m.world);
    }

pub states_made_in_code : StatesMadeInCode
unfolding StatesMadeInCode StatesMade
states_made_in_code = in_code _ states_made

-- What an answer tells.
pub returned_in_code : ReturnedInCode
unfolding ReturnedInCode Returned result
returned_in_code o k =
    let m : Machine = view_of (machine_before o) in
    subst (Returns o.call m.core m.world) (sym (ap (λ (x : Result). x.answer) (as_defined o k))) (returned o.call m.core m.world)
