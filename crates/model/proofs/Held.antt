-- Numbers start again from 1 after a restart, so a slot that a number held before the power went is free after it.
use mathlib.Core.Path.{◌≡◌, refl}
use mathlib.Core.List.{List, [], ◌∷◌}
use Rattle.model.specs.Call.{begin, update, restart_step}
use Rattle.model.proofs.Everything.{everything}
use Rattle.model.proofs.Play.{Step, does, play, numbers, unformatted, drained, restart_by}
use Rattle.model.proofs.Positions.{plenty, small, fresh}

-- transaction 1 holds the slot when the power goes
unfoldable pub holding : List Step
holding = does (begin 0) ∷ does (update 1 0 0 (12 ∷ []) plenty) ∷ []

-- after the restart there is a transaction 1 again, and transaction 2 sets the slot
unfoldable pub afterwards : List Step
afterwards = does (begin 0) ∷ does (begin 0) ∷ does (update 2 0 0 (5 ∷ []) plenty) ∷ []

-- none of these calls is refused: 11 would be the old number's lock
pub held_no_more : numbers afterwards (restart_by (λ source. does (restart_step source)) plenty (play holding fresh)) ≡ 0 ∷ 0 ∷ 0 ∷ []
unfolding everything holding afterwards small fresh does play numbers unformatted drained restart_by
held_no_more = refl
