-- "Each output line has line number, answer, stores, value": what a line shows of the call that it makes.
use Rattle.std.specs.Prelude.{ℕ, get_or}
use Rattle.model.specs.declared.Core.{Core}
use Rattle.model.specs.declared.Answer.{Answer}
use Rattle.model.specs.declared.Answer.TheVariants.{Finished, Refused, Interrupted}
use Rattle.model.specs.World.{World}
use Rattle.model.specs.Refusal.{number_of, stores_of}
use Rattle.model.specs.Transaction.{read_words}
use Rattle.commands.specs.declared.outcome.Outcome.{Outcome}

-- "and 0 on a line refused or cut"
abbrev pub value_shown : Answer → ℕ → ℕ
value_shown (Finished stores v) value = value
value_shown (Refused number first second) value = 0
value_shown (Interrupted stores) value = 0

-- the value of a call that answers one: "the transaction for begin", "the new c for restart"
abbrev pub value_in : Answer → ℕ
value_in (Finished stores value) = value
value_in (Refused number first second) = 0
value_in (Interrupted stores) = 0

abbrev pub shown_of : Answer → ℕ → Outcome
shown_of answer value = record { answer = number_of answer; stores = stores_of answer; value = value_shown answer value }

-- the word of a one-word slot as a reader sees it, 0 where the read is refused
unfoldable pub slot_word : Core → World → (reader page slot : ℕ) → ℕ
slot_word c w reader page slot = get_or (read_words c w reader page slot) 0 0
