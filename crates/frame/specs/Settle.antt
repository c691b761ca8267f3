-- How a call ends.
use Rattle.std.specs.Prelude.{◌≡◌, Bool, true, false, ℕ, ◌-◌}
use Rattle.model.specs.declared.Core.{Core}
use Rattle.model.specs.declared.Answer.TheVariants.{Finished, Refused, Interrupted}
use Rattle.model.specs.declared.Reply.{Reply}
use Rattle.model.specs.World.{World}
use Rattle.model.specs.State.{new_core}
use Rattle.model.specs.Refusal.{Task, accepted, conclude}

abbrev pub refused_with : Core → ℕ → ℕ → ℕ → Reply
refused_with c number first second = record { answer = Refused number first second; core = c }

abbrev pub finished_with : Core → ℕ → Reply
finished_with c value = record { answer = Finished 0 value; core = c }

-- after stores that took a budget down to `rest`
abbrev pub settled : Bool → ℕ → ℕ → ℕ → Core → Reply
settled true budget rest value c = record { answer = Finished (budget - rest) value; core = c }
settled false budget rest value c = record { answer = Interrupted (budget - rest); core = new_core }

-- What no row refuses: a call's task, on a world, leaves this reply, this budget and this world.
unfoldable pub Concludes : ℕ → ℕ → Task → World → World → Reply → Type 0
Concludes budget rest task w v r =
    record { answer = r.answer; budget = rest; core = r.core; world = v } ≡ conclude accepted budget task new_core w
