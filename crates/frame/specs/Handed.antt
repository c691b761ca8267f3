-- How a call ends that takes its state in two parts.
use Rattle.std.specs.Prelude.{ℕ}
use Rattle.model.specs.declared.Carried.{Carried}
use Rattle.model.specs.declared.Answer.TheVariants.{Finished, Refused, Interrupted}
use Rattle.model.specs.declared.Handed.{Handed}
use Rattle.model.specs.State.{new_core}
use Rattle.model.specs.View.{carried_of}

abbrev pub refused_to : Carried → (number first second : ℕ) → Handed
refused_to h number first second = record { answer = Refused number first second; carried = h }

abbrev pub finished_to : Carried → (stores value : ℕ) → Handed
finished_to h stores value = record { answer = Finished stores value; carried = h }

abbrev pub cut_to : (stores : ℕ) → Handed
cut_to stores = record { answer = Interrupted stores; carried = carried_of new_core }
