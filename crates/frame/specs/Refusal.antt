-- 01's and 02's number of each refusal.
use Rattle.std.specs.Prelude.{ℕ, Result, Ok, Err}
use Rattle.model.specs.Refusal.{Verdict, accepted, rejected}
use Rattle.frame.specs.declared.refusal.Refusal.{Refusal}
use Rattle.frame.specs.declared.refusal.TurnedAway.{TurnedAway}
use Rattle.frame.specs.declared.refusal.Refusal.TheVariants.{Stage, AnchorLength, Unformatted, Sizes, Length, Tail, Malformed, OutOfRange, NotOpen, ValueLength, Held, TableFull, Spent, NoRoom, OutOfTurn, ClassLine, NotCovered, CoveredTwice}

abbrev pub number_of : Refusal → ℕ
number_of Stage = 1
number_of AnchorLength = 2
number_of Unformatted = 3
number_of Sizes = 4
number_of Length = 5
number_of Tail = 6
number_of Malformed = 7
number_of OutOfRange = 8
number_of NotOpen = 9
number_of ValueLength = 10
number_of Held = 11
number_of TableFull = 12
number_of Spent = 13
number_of NoRoom = 14
number_of OutOfTurn = 15
number_of ClassLine = 17
number_of NotCovered = 18
number_of CoveredTwice = 19

-- the number of the row that applies, 0 where none does
abbrev pub row_in : {A : Type 0} → Result A Refusal → ℕ
row_in (Ok x) = 0
row_in (Err refusal) = number_of refusal

-- a refusal that returns zeros
abbrev pub with_zeros : Refusal → TurnedAway
with_zeros refusal = record { refusal = refusal; first = 0; second = 0 }

-- a call's verdict by what its checks found
abbrev pub verdict_in : {A : Type 0} → Result A TurnedAway → Verdict
verdict_in (Ok x) = accepted
verdict_in (Err away) = rejected (number_of away.refusal) away.first away.second
