-- `disk_log::ring::is_outside` meets its contract, by the entries of sizes in bounds.
use mathlib.Core.Path.{◌∙◌}
use Rattle.disk_log.proofs.Rings.{outside}
use Rattle.disk_log.proofs.ring.is_outside.Goals as goal

pub returns : goal.returns
returns c = λ s e. c.is_unlike.ensures ∙ outside s e c.args.w
