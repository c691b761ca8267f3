-- After which calls the head of the state handed back goes into the work memory: those that are finished and leave it not shut.
use Rattle.std.specs.Prelude.{Bool, false, not}
use Rattle.model.specs.declared.Stage.{Stage}
use Rattle.model.specs.declared.Answer.{Answer}
use Rattle.model.specs.declared.Answer.TheVariants.{Finished, Refused, Interrupted}
use Rattle.model.specs.Causes.{when_shut}

abbrev pub saves : Answer → Stage → Bool
saves (Finished count value) stage = not (when_shut stage)
saves (Refused number first second) stage = false
saves (Interrupted count) stage = false
