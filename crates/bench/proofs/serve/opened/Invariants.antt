-- `bench::serve::opened` is safe and ends. Assumes nothing.
use Rattle.std.proofs.Common.{◌≡◌, length}
use Rattle.bench.proofs.serve.opened.Given as goal

abbrev pub invariant-loop : goal.invariant-loop
invariant-loop l = (length l.anchor ≡ length l.initial.anchor) × (length l.backups ≡ length l.initial.backups) × (length l.logs ≡ length l.initial.logs) × (length l.work ≡ length l.initial.work)
