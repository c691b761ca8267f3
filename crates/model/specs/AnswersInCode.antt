-- The statements of specs/Answers.antt about the code's own calls.
use Rattle.std.specs.Prelude.{◌≡◌, ℕ, true, false, not, eqb}
use Rattle.model.specs.declared.Core.{Core}
use Rattle.model.specs.State.{is_open}
use Rattle.model.specs.Refusal.{number_of}
use Rattle.model.specs.Causes.{when_shut, when_serving}
use Rattle.model.specs.Call.{begin, commit, abort, new_state}
use Rattle.model.specs.View.{own_work, carried_of}
use Rattle.model.specs.Reference.{refused}
use Rattle.model.specs.Machine.{is_refused}
use Rattle.model.specs.Answers.{stages_of, AnswersOwn, BeginsOn, Made, Returns}
use Rattle.model.specs.Trace.{view_of, Observed, machine_before, machine_after, KeepsContract, seen, On, AlwaysInCode}

-- "Commit and abort always fit." While the store is open or copying, a commit and an abort of the code, of an open transaction and on
-- the slices as they were left, are not refused, whatever their budget.
unfoldable pub ClosingTakenInCode : Type 0
ClosingTakenInCode =
    AlwaysInCode λ m r. when_serving m.carried.stage ≡ true → (t : ℕ) → is_open (view_of m).core.table t ≡ true
    → (o : Observed) (budget : ℕ) → On m o
    → (o.call ≡ commit t budget → is_refused (seen o) ≡ false) × (o.call ≡ abort t budget → is_refused (seen o) ≡ false)

-- What a call of the code on the slices as they were left answers: 1 exactly where the stage is none of the call's; none of 2 to 7, but
-- that a format may answer 4 or 5, and a listing or a table of classes that is lent bytes or lines of a wrong length 5.
unfoldable pub OwnSlicesInCode : Type 0
OwnSlicesInCode = AlwaysInCode λ m r. (o : Observed) → On m o → AnswersOwn (view_of m) o.call o.reply.answer

-- A begin of the code on the slices as they were left: if it is taken, it opens the transaction whose number it answered, which was not
-- open before, on the idlest disk by started blocks of those of its class's set with room, the lowest of several; it answers 14 exactly
-- where none of the set has room, unless another row comes first.
unfoldable pub BeginDiskInCode : Type 0
BeginDiskInCode =
    AlwaysInCode λ m r. (class : ℕ) (o : Observed) → o.call ≡ begin class → On m o
    → BeginsOn class (view_of m).core o.reply.answer (view_of (machine_after o)).core

-- "Only these calls, and one that hands out a new state, make a state.": what a call of the code hands back for such a state is one
-- again. It answers 1, on whatever slices, exactly where the stage is none of the call's. The state is seen in what is carried and in the
-- head of the lent work memory.
pub record HandsOn (o : Observed) : Type 0 where
  pub made : Made (view_of (machine_after o)).core
  pub stage : eqb (number_of o.reply.answer) 1 ≡ not (stages_of o.call o.carried.stage)

unfoldable pub MadeInCode : Type 0
MadeInCode = (o : Observed) → KeepsContract o → Made (view_of (machine_before o)).core → HandsOn o

-- A call may be lent a work memory that is not the state's own, of another length than the state's sizes give (specs/View.antt). With
-- what is carried of such a state it answers 1, there too, exactly where the stage is none of the call's; and where the state is not
-- shut it is refused, and so hands back what it got, unless it is to hand out a new state.
pub record TurnsAway (o : Observed) : Type 0 where
  pub stage : eqb (number_of o.reply.answer) 1 ≡ not (stages_of o.call o.carried.stage)
  pub turned : when_shut o.carried.stage ≡ false → (o.call ≡ new_state → ⊥) → seen o ≡ refused

unfoldable pub OtherWorkInCode : Type 0
OtherWorkInCode =
    (o : Observed) (c : Core) → KeepsContract o → Made c → o.carried ≡ carried_of c
    → own_work o.carried o.entry.work ≡ false → TurnsAway o

unfoldable pub StatesMadeInCode : Type 0
StatesMadeInCode = AlwaysInCode λ m r. Made (view_of m).core

-- What an answer of the code tells, on whatever state and slices.
unfoldable pub ReturnedInCode : Type 0
ReturnedInCode =
    (o : Observed) → KeepsContract o
    → Returns o.call (view_of (machine_before o)).core (view_of (machine_before o)).world o.reply.answer
