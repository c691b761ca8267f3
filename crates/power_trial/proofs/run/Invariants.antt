-- `run` is safe and ends.
use lib.ListN.{length}
use mathlib.Core.Path.{◌≡◌}
use Rattle.power_trial.proofs.run.Given as goal

abbrev pub invariant-loop : goal.invariant-loop
invariant-loop l = (length l.anchor ≡ length l.initial.anchor) × (length l.pages ≡ length l.initial.pages) × (length l.backups ≡ length l.initial.backups) × (length l.logs ≡ length l.initial.logs) × (length l.work ≡ length l.initial.work) × (length l.book ≡ length l.initial.book)
