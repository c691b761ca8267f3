-- From what a call gives to what its line shows.
use mathlib.Core.Path.{◌≡◌, refl, ap}
use Prim.Native.Nat.{ℕ}
use mathlib.Core.List.{List, [], ◌∷◌}
use native.Mathlib.Omega.{arith}
use lib.ListN.{length, get_or}
use lib.Bits.{bit_xor}
use Rattle.std.specs.Prelude.{Option, Some}
use Rattle.model.specs.declared.Carried.{Carried}
use Rattle.model.specs.declared.Answer.{Answer}
use Rattle.model.specs.World.{World}
use Rattle.model.specs.Call.{Call, result_of, Gives}
use Rattle.model.specs.View.{core_of, body_of, Serves}
use Rattle.model.proofs.View.Served.{served_gives}
use Rattle.commands.specs.declared.outcome.Outcome.{Outcome}
use Rattle.commands.specs.Shown.{value_in, shown_of}
use Rattle.commands.specs.Meaning.{line_seen, showing, showing_own}

module _ (k : Call) (h : Carried) (w v : World) (left : ℕ) (answer : Answer) (carried : Carried) {next : Carried} {outcome : Option Outcome} (serves : Serves k h w (record { answer = answer; carried = carried }) left v) (same : next ≡ carried) where
  pub shows : (value : ℕ) → outcome ≡ Some (shown_of answer value) → line_seen outcome next v ≡ showing value (result_of k (core_of h w.work) (body_of w))
  unfolding Gives
  shows value e = rw (e, same) (ap (showing value) (served_gives _ _ _ _ _ _ serves))

  -- the value is a difference
  pub shows_difference : {before word : ℕ} (value : ℕ) → before ≡ word → outcome ≡ Some (shown_of answer (bit_xor before value))
      → line_seen outcome next v ≡ showing (bit_xor word value) (result_of k (core_of h w.work) (body_of w))
  shows_difference {before} {word} value same e = shows (bit_xor word value) (rw same at e)

  -- the value is the one answered
  pub shows_own : outcome ≡ Some (shown_of answer (value_in answer)) → line_seen outcome next v ≡ showing_own (result_of k (core_of h w.work) (body_of w))
  unfolding Gives
  shows_own e = rw (e, same) (ap showing_own (served_gives _ _ _ _ _ _ serves))

-- an empty part of the pages has no first word
pub no_word : {l m : List ℕ} → l ≡ m → length l ≡ 0 → 0 ≡ get_or m 0 0
no_word {l} {m} same e = rw (← same) (none l e)
  where
    none : (l : List ℕ) → length l ≡ 0 → 0 ≡ get_or l 0 0
    none [] e = refl
    none (x ∷ l) e = absurd (omega arith)
