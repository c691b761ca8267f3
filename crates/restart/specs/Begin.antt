-- What restart begin gives once its first rows have passed.
use Rattle.std.specs.Prelude.{◌≡◌, List, [], ◌∷◌, ◌++◌}
use Rattle.model.specs.declared.Sizes.{Sizes}
use Rattle.model.specs.declared.Core.{Core}
use Rattle.model.specs.declared.Reply.{Reply}
use Rattle.model.specs.Anchor.{epoch_on, sizes_on, start_on}
use Rattle.model.specs.World.{World}
use Rattle.model.specs.Refusal.{Row, row, verdict, conclude}
use Rattle.model.specs.Causes.{log_rows, spent}
use Rattle.model.specs.Restart.{restart_begin_task}

-- rows 6, 7 and 13 of begin
unfoldable pub begin_rest : World → List Row
begin_rest w =
    let s : Sizes = sizes_on w.anchor in
    log_rows s (start_on w.anchor) w.logs ++ row 13 (spent (epoch_on w.anchor)) ∷ []

unfoldable pub BeginsOn : Core → World → Reply → World → Type 0
BeginsOn c w r v =
    record { answer = r.answer; budget = 0; core = r.core; world = v } ≡ conclude (verdict (begin_rest w)) 0 (restart_begin_task w) c w
