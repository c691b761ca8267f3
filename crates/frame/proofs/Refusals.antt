-- A refusal has a number above 0, and an answer that is one is no other.
use mathlib.Core.Path.{◌≡◌, ap}
use Rattle.std.specs.Prelude.{Result, Ok, Err}
use Rattle.std.specs.Result.{IsErrAnd}
use native.Mathlib.Omega.{arith}
use Rattle.frame.specs.declared.refusal.Refusal.{Refusal}
use Rattle.frame.specs.declared.refusal.Refusal.TheVariants.{Stage, AnchorLength, Unformatted, Sizes, Length, Tail, Malformed, OutOfRange, NotOpen, ValueLength, Held, TableFull, Spent, NoRoom, OutOfTurn, ClassLine, NotCovered, CoveredTwice}
use Rattle.frame.specs.Refusal.{number_of}

pub numbered : (r : Refusal) → number_of r ≡ 0 → ⊥
numbered Stage e = omega arith
numbered AnchorLength e = omega arith
numbered Unformatted e = omega arith
numbered Sizes e = omega arith
numbered Length e = omega arith
numbered Tail e = omega arith
numbered Malformed e = omega arith
numbered OutOfRange e = omega arith
numbered NotOpen e = omega arith
numbered ValueLength e = omega arith
numbered Held e = omega arith
numbered TableFull e = omega arith
numbered Spent e = omega arith
numbered NoRoom e = omega arith
numbered OutOfTurn e = omega arith
numbered ClassLine e = omega arith
numbered NotCovered e = omega arith
numbered CoveredTwice e = omega arith

-- what an answer has is told by the answer
pub ok_same : {A E : Type 0} {x y : A} → ◌≡◌ {A = Result A E} (Ok x) (Ok y) → x ≡ y
ok_same e = cc

pub err_same : {A E : Type 0} {x y : E} → ◌≡◌ {A = Result A E} (Err x) (Err y) → x ≡ y
err_same e = cc

-- what a `?` returns
pub passed_on : {A E : Type 0} (r : Result A E) (x : E) → IsErrAnd r (λ y. y ≡ x) → r ≡ Err x
passed_on {A} {E} (Ok a) x h = absurd h
passed_on {A} {E} (Err y) x h = ap (λ (z : E). Err z) h
