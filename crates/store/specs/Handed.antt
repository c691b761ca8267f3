-- What a call of the store hands back, as the calls that it makes hand it back; and what is known of a state's arrays by their types.
use Rattle.std.specs.Prelude.{◌≡◌, length}
use Rattle.model.specs.declared.Carried.{Carried}
use Rattle.model.specs.declared.Handed.{Handed}
use Rattle.store.specs.declared.Called.{Called}

abbrev pub handed_of : Called → Handed
handed_of called = record { answer = called.answer; carried = called.state.carried }

abbrev pub Arrays : Carried → Type 0
Arrays h = (length h.starts ≡ 8) × (length h.tails ≡ 8) × (length h.ends ≡ 8)
