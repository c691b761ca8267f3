-- A source taken to its end, and the line of a restart.
use mathlib.Core.Path.{◌≡◌, refl}
use Prim.Native.Nat.{ℕ}
use mathlib.Core.Bool.{Bool, true, false, cond}
use borrow.Author.Tests.{eq-eqb, ne_eqb}
use Rattle.std.specs.Prelude.{Option, Some}
use Rattle.model.specs.declared.Core.{Core}
use Rattle.model.specs.declared.Answer.{Answer}
use Rattle.model.specs.declared.Answer.TheVariants.{Finished, Refused, Interrupted}
use Rattle.model.specs.World.{World}
use Rattle.model.specs.Refusal.{Result}
use Rattle.model.specs.Restart.{remaining}
use Rattle.model.specs.Call.{restart_begin, restart_run, restart_end, result_of}
use Rattle.model.proofs.Booleans.{true_false}
use Rattle.commands.specs.declared.outcome.Outcome.{Outcome}
use Rattle.commands.specs.Shown.{value_in, shown_of}
use Rattle.commands.specs.Restarting.{is_finished, to_end, replayed_all, restarted_all}
use Rattle.commands.specs.Meaning.{Line, showing_own}

-- one source after the other
pub replayed_through : (c : Core) (w : World) {begun first second all : Result} → begun ≡ result_of restart_begin c w → first ≡ to_end 0 begun
    → second ≡ to_end 1 first → all ≡ to_end 2 second → all ≡ replayed_all c w
unfolding replayed_all
replayed_through c w b f s a = rw (← b, ← f, ← s) a

module _ (source : ℕ) (r : Result) where
  pub end_refused : is_finished r.answer ≡ false → to_end source r ≡ r
  unfolding to_end
  end_refused e = rw e

  pub end_reached : remaining r.core source ≡ 0 → to_end source r ≡ r
  unfolding to_end
  end_reached e = rw (eq-eqb (remaining r.core source) 0 e) (either (is_finished r.answer))
    where
      either : (b : Bool) → cond b r r ≡ r
      either true = refl
      either false = refl

  pub end_run : is_finished r.answer ≡ true → (remaining r.core source ≡ 0 → ⊥)
      → to_end source r ≡ result_of (restart_run source (remaining r.core source)) r.core r.world
  unfolding to_end
  end_run e some = rw (e, ne_eqb (remaining r.core source) 0 some)

-- a refusal has no value to show
no_value : (a : Answer) → is_finished a ≡ false → shown_of a 0 ≡ shown_of a (value_in a)
no_value (Finished stores value) e = true_false refl e
no_value (Refused number first second) e = refl
no_value (Interrupted stores) e = refl

-- The line of a restart, by whether the replay came through.
module _ (c : Core) (w : World) (r : Result) (all : r ≡ replayed_all c w) where
  pub restart_refused : {outcome : Option Outcome} {next : Core} → is_finished r.answer ≡ false → outcome ≡ Some (shown_of r.answer 0) → next ≡ r.core
      → record { outcome = outcome; core = next; world = r.world } ≡ showing_own (restarted_all c w)
  unfolding restarted_all
  restart_refused refused shown same = rw (← all, refused, shown, same, no_value r.answer refused)

  pub restart_ended : {l : Line} → is_finished r.answer ≡ true → l ≡ showing_own (result_of (restart_end 18446744073709551615) r.core r.world)
      → l ≡ showing_own (restarted_all c w)
  unfolding restarted_all
  restart_ended finished e = rw (← all, finished) e
